-- Every float that is packed is an f32 value, where the state's are. Assumes nothing.
use Prim.Native.Nat.{ℕ, zero, suc, ◌<◌}
use native.Mathlib.Omega.{arith}
use mathlib.Core.List.{List, [], ◌∷◌}
use lib.Dec.{eqb}
use lib.Ieee.{nan}
use lib.ListN.{length, get_or, take}
use Rattle.lemmas.proofs.Branch.{branch}
use Rattle.d3d9_types.specs.Numbers.{float_fits}
use Rattle.d3d9_types.specs.Matrix.{rowFits, matrixFits}
use Rattle.d3d9_types.specs.Material.{materialFits}
use Rattle.d3d9_types.specs.RenderStates.{statesFit}
use Rattle.d3d9_types.specs.Light.{default_light, lightFits}
use Rattle.d3d9_types.specs.declared.light.D3DLIGHT9.{D3DLIGHT9}
use Rattle.words.specs.Bits.{has_bit}
use Rattle.light_table.specs.Entry.{zero_entry}
use Rattle.light_table.specs.Overflow.{used_count}
use Rattle.light_table.specs.Active.{slots_from, is_active, active_overflow}
use Rattle.light_table.specs.declared.entry.OverflowLight.{OverflowLight}
use Rattle.ff_state.specs.Active.{light_active_mask, active_lights}
use Rattle.ff_state.specs.Overflow.{used}
use Rattle.ff_state.specs.State.{no_matrix}
use Rattle.ff_state.specs.Valid.{Valid}
use Rattle.sections.specs.declared.sections.Section.{Section}
use Rattle.sections.specs.declared.sections.Section.TheVariants.{Wv, Proj, Material, Lights, Palette, Tt, Fog, Ambient}
use Rattle.ff_state.specs.declared.state.FfState.{FfState}
use Rattle.rows.specs.Rows.{floats}
use Rattle.rows.proofs.Fits.{Each, each_append, floats_fit, projection_fits, world_view_fits, palette_fits, material_fits, textures_fit, fog_fits, ambient_fits}
use Rattle.light_rows.specs.Light.{lights_rows}
use Rattle.light_rows.proofs.Fits.{lights_fit}
use Rattle.sections.specs.declared.key.FfVsKey.{FfVsKey}
use Rattle.packing.specs.Inputs.{Inputs, packed_rows, inputs_of, packed_lights}
use Rattle.sections.specs.Counts.{places}
use Rattle.sections.specs.Key.{light_limit}

-- what the rows take over as it is; the products are rounded
pub record InputsFit (i : Inputs) : Type 0 where
  pub projection : matrixFits i.projection
  pub material : materialFits i.material
  pub lights : Each lightFits i.lights
  pub textures : Each matrixFits i.textures
  pub states : statesFit i.render_states

each_take : {A : Type 0} (P : A → Type 0) (n : ℕ) (xs : List A) → Each P xs → Each P (take n xs)
each_take P zero xs p = tt
each_take P (suc n) [] p = tt
each_take P (suc n) (x ∷ xs) p = (p.0, each_take P n xs p.1)

rows_fit : (k : FfVsKey) (i : Inputs) → InputsFit i → (σ : Section) → Each rowFits (packed_rows σ k i)
unfolding packed_rows
rows_fit k i h Wv = world_view_fits i.view _
rows_fit k i h Proj = projection_fits h.projection
rows_fit k i h Material = material_fits k.lighting_enabled k.specular_enable h.material
rows_fit k i h Lights =
    branch (Each rowFits) (eqb k.light_active_mask 0) [] (lights_rows i.view (packed_lights k i)) (λ none. tt)
    (λ some. lights_fit i.view (packed_lights k i) (each_take lightFits (light_limit k) i.lights h.lights))
rows_fit k i h Palette = palette_fits i.view _
rows_fit k i h Tt = textures_fit i.texture_mask i.textures (each_take matrixFits (places i.texture_mask) i.textures h.textures)
rows_fit k i h Fog = fog_fits k.fog_mode _ _ _ h.states.fog_start h.states.fog_end h.states.fog_density
rows_fit k i h Ambient = ambient_fits i.render_states.ambient

pub packed_fit : (k : FfVsKey) (i : Inputs) → InputsFit i → (σ : Section) (j : ℕ) → float_fits (get_or (floats (packed_rows σ k i)) j nan)
packed_fit k i h σ = floats_fit (packed_rows σ k i) (rows_fit k i h σ)

-- ---- the inputs of a valid state

each_at : {A : Type 0} (P : A → Type 0) (d : A) (xs : List A) → ((i : ℕ) → i < length xs → P (get_or xs i d)) → Each P xs
each_at P d [] p = tt
each_at P d (x ∷ xs) p = (p 0 (omega arith), each_at P d xs (λ i h. p (suc i) (omega arith)))

slots_fit : (mask i : ℕ) (ls : List D3DLIGHT9) → Each lightFits ls → Each lightFits (slots_from i mask ls)
unfolding slots_from
slots_fit mask i [] p = tt
slots_fit mask i (l ∷ ls) p =
    let rest = slots_fit mask (suc i) ls p.1 in
    branch (Each lightFits) (has_bit mask i) (l ∷ slots_from (suc i) mask ls) (slots_from (suc i) mask ls) (λ on. (p.0, rest)) (λ off. rest)

entries_fit : (es : List OverflowLight) → Each (λ e. lightFits e.light) es → Each lightFits (active_overflow es)
unfolding active_overflow
entries_fit [] p = tt
entries_fit (e ∷ es) p =
    let rest = entries_fit es p.1 in
    branch (Each lightFits) (is_active e) (e.light ∷ active_overflow es) (active_overflow es) (λ on. (p.0, rest)) (λ off. rest)

module _ {s : FfState} (v : Valid s) where
  active_fit : Each lightFits (active_lights s)
  unfolding active_lights
  active_fit =
      let slots = each_at lightFits default_light s.lights (λ i h. v.floats.lights i (rw v.lights_length at h)) in
      let entries = each_at (λ e. lightFits e.light) zero_entry s.overflow_lights (λ i h. v.floats.overflow i (rw v.overflow_length at h)) in
      each_append lightFits (slots_from 0 (light_active_mask s) s.lights) (active_overflow (used s))
      (slots_fit (light_active_mask s) 0 s.lights slots)
      (entries_fit (used s) (each_take (λ e. lightFits e.light) (used_count s.overflow_count) s.overflow_lights entries))

  pub inputs_fit : InputsFit (inputs_of s)
  inputs_fit =
      record {
        projection = v.floats.projection;
        material = v.floats.material;
        lights = active_fit;
        textures = each_at matrixFits no_matrix s.texture_transforms (λ i h. v.floats.texture i (rw v.texture_length at h));
        states = v.states;
      }
