-- A section's packed rows are as many as the table says, whenever its mask is accepted. Assumes nothing.
use Prim.Native.Nat.{ℕ, ◌-◌, ◌*◌, ◌^◌, ◌≤◌, ◌<◌}
use native.Mathlib.Nat.{mul_comm}
use native.Mathlib.Omega.{arith}
use mathlib.Core.Path.{◌≡◌, refl, sym, ap, ◌∙◌}
use mathlib.Core.Bool.{Bool, true, false, cond, ◌||◌}
use mathlib.Core.List.{[]}
use lib.Count.{count_leading_zeros, leading_unique, leading_of_zero}
use lib.Dec.{eqb}
use lib.ListN.{length, take}
use lib.Pow.{pow_pos}
use lib.Seq.{length-take-le}
use borrow.Author.Tests.{eqb-true}
use Rattle.d3d9_types.specs.declared.material.D3DMATERIAL9.{D3DMATERIAL9}
use Rattle.light_table.specs.Active.{low_bits, masks_of}
use Rattle.light_table.proofs.Compaction.{few}
use Rattle.ff_state.specs.Valid.{Valid}
use Rattle.ff_state.specs.declared.state.FfState.{FfState}
use Rattle.sections.specs.declared.sections.Section.{Section}
use Rattle.sections.specs.declared.sections.Section.TheVariants.{Wv, Proj, Material, Lights, Palette, Tt, Fog, Ambient}
use Rattle.rows.specs.Rows.{floats}
use Rattle.rows.specs.Matrices.{projection_rows, world_view_rows, palette_rows, texture_rows}
use Rattle.rows.specs.Material.{material_rows}
use Rattle.rows.proofs.Floats.{length-floats, length_rows_of}
use Rattle.light_rows.specs.Light.{light_rows, six_rows, lights_rows}
use Rattle.sections.specs.Counts.{places, material_count, light_count, palette_matrices, palette_count, texture_count}
use Rattle.sections.specs.Key.{light_limit}
use Rattle.sections.specs.declared.key.FfVsKey.{FfVsKey}
use Rattle.sections.proofs.Bounds.{places_most, matrices_most}
use Rattle.sections.proofs.Shape.{limit_small}
use Rattle.packing.specs.Inputs.{Inputs, packed_lights, packed_rows, mask_accepted, inputs_of}
use Rattle.packing.specs.Pack.{state_rows, input_rows, state_count}

-- the n lowest bits take n places
pub places_low : (n : ℕ) → n ≤ 8 → places (low_bits n) ≡ n
unfolding places low_bits
places_low n h =
    let some : 0 < 2 ^ n = pow_pos n in
    let e : 8 - n ≡ count_leading_zeros 8 (2 ^ n - 1) = leading_unique 8 (2 ^ n - 1) (8 - n) n (omega arith) (omega arith) (omega arith) in
    omega (arith, e)

pub places-none : places 0 ≡ 0
unfolding places
places-none = ap (λ (n : ℕ). 8 - n) (leading_of_zero 8)

pub material_length : (l sp : Bool) (m : D3DMATERIAL9) → length (material_rows l sp m) ≡ cond l (cond sp 5 4) 1
unfolding material_rows
material_length true true m = refl
material_length true false m = refl
material_length false sp m = refl

-- what the key and the inputs have to be: u8 numbers, 256 world matrices, 8 texture matrices
pub record SizedInputs (k : FfVsKey) (i : Inputs) : Type 0 where
  pub count : k.vertex_blend_count < 256
  pub palette : length i.palette ≡ 256
  pub textures : length i.textures ≡ 8

-- six rows for each light that is packed, under their mask
pub lights_length : (k : FfVsKey) (i : Inputs) → k.light_active_mask ≡ low_bits (length (packed_lights k i)) → 6 * length (packed_lights k i) ≡ light_count k
unfolding light_count
lights_length k i e =
    let n : ℕ = length (packed_lights k i) in
    mul_comm 6 n ∙ ap (λ (m : ℕ). m * 6) (sym (ap places e ∙ places_low n (few (light_limit k) (limit_small k) i.lights)))

module _ (k : FfVsKey) (i : Inputs) (z : SizedInputs k i) where
  lights-rows : (none : Bool) → eqb k.light_active_mask 0 ≡ none → (none || eqb k.light_active_mask (masks_of (packed_lights k i)).active) ≡ true
      → length (cond none [] (lights_rows i.view (packed_lights k i))) ≡ light_count k
  unfolding light_count lights_rows masks_of
  lights-rows true e m = rw (eqb-true k.light_active_mask 0 e, places-none)
  lights-rows false e m =
      length_rows_of (λ l. six_rows (light_rows i.view l)) 6 (λ l. refl) (packed_lights k i)
      ∙ lights_length k i (eqb-true k.light_active_mask (low_bits (length (packed_lights k i))) m)

  pub rows-length : (σ : Section) → mask_accepted σ k i ≡ true → length (packed_rows σ k i) ≡ input_rows σ k i
  unfolding packed_rows mask_accepted world_view_rows projection_rows material_count palette_rows palette_count texture_rows texture_count
  rows-length Wv m = refl
  rows-length Proj m = refl
  rows-length Material m = material_length k.lighting_enabled k.specular_enable i.material
  rows-length Lights m = lights-rows (eqb k.light_active_mask 0) refl m
  rows-length Palette m =
      length_rows_of (world_view_rows i.view) 4 (λ w. refl) (take (palette_matrices k) i.palette)
      ∙ ap (λ (n : ℕ). 4 * n) (length-take-le (palette_matrices k) i.palette (omega (arith, matrices_most k z.count, z.palette)))
      ∙ mul_comm 4 (palette_matrices k)
  rows-length Tt m =
      length_rows_of projection_rows 4 (λ w. refl) (take (places i.texture_mask) i.textures)
      ∙ ap (λ (n : ℕ). 4 * n) (length-take-le (places i.texture_mask) i.textures (omega (arith, places_most i.texture_mask, z.textures)))
      ∙ mul_comm 4 (places i.texture_mask)
  rows-length Fog m = refl
  rows-length Ambient m = refl

  -- "4 times the section's rows"
  pub floats-length : (σ : Section) → mask_accepted σ k i ≡ true → length (floats (packed_rows σ k i)) ≡ 4 * input_rows σ k i
  floats-length σ m = length-floats (packed_rows σ k i) ∙ ap (λ (n : ℕ). 4 * n) (rows-length σ m)

-- of a valid state
pub state_length : {s : FfState} → Valid s → (k : FfVsKey) → k.vertex_blend_count < 256 → (σ : Section) → mask_accepted σ k (inputs_of s) ≡ true
    → length (state_rows σ s k) ≡ 4 * state_count σ s k
state_length {s} v k byte σ = floats-length k (inputs_of s) (record { count = byte; palette = v.palette_length; textures = v.texture_length }) σ
