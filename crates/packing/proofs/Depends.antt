-- What a section's packing depends on: of the state its inputs, of the key the shape fields. Assumes nothing.
use Prim.Native.Nat.{ℕ, ◌*◌}
use mathlib.Core.Path.{◌≡◌, refl, ap, ap₂, ◌∙◌}
use mathlib.Core.Bool.{Bool, cond, ◌||◌}
use mathlib.Core.List.{List, []}
use lib.Dec.{eqb}
use lib.Ieee.{Float}
use lib.ListN.{length, take}
use Rattle.std.specs.Prelude.{Ok, Err}
use Rattle.d3d9_types.specs.declared.matrix.Row.{Row}
use Rattle.d3d9_types.specs.declared.matrix.D3DMATRIX.{D3DMATRIX}
use Rattle.d3d9_types.specs.declared.light.D3DLIGHT9.{D3DLIGHT9}
use Rattle.light_table.specs.Active.{masks_of}
use Rattle.ff_state.specs.Inputs.{same_inputs}
use Rattle.sections.specs.declared.sections.Section.{Section}
use Rattle.sections.specs.declared.sections.Section.TheVariants.{Wv, Proj, Material, Lights, Palette, Tt, Fog, Ambient}
use Rattle.ff_state.specs.declared.state.FfState.{FfState}
use Rattle.rows.specs.Rows.{floats}
use Rattle.rows.specs.Matrices.{projection_rows, world_view_rows, palette_rows, texture_rows}
use Rattle.rows.specs.Material.{material_rows}
use Rattle.rows.specs.Fog.{fog_rows}
use Rattle.rows.specs.Ambient.{ambient_rows}
use Rattle.light_rows.specs.Light.{lights_rows}
use Rattle.sections.specs.Counts.{places, material_count, light_count, palette_matrices, palette_count, texture_count}
use Rattle.sections.specs.Key.{SameShape, light_limit}
use Rattle.sections.specs.Counts.{section_rows}
use Rattle.sections.proofs.Shape.{shape_limit}
use Rattle.sections.specs.declared.key.FfVsKey.{FfVsKey}
use Rattle.packing.specs.Inputs.{Inputs, packed_rows, mask_accepted, inputs_of}
use Rattle.packing.specs.Pack.{PackOutcome, pack_outcome, pack_inputs, pack_section, input_rows, state_count}
use Rattle.packing.specs.declared.answer.PackError.TheVariants.{WrongLength, WrongMask}

-- an outcome by its three parts
abbrev outcome_of : List Float → ℕ → Bool → List Row → PackOutcome
outcome_of dst n m rs = cond (eqb (length dst) (4 * n)) (cond m (pack_outcome (Ok tt) (floats rs)) (pack_outcome (Err WrongMask) dst)) (pack_outcome (Err WrongLength) dst)

-- ---- the state

module _ (s t : FfState) (k : FfVsKey) where
  pub same_rows : (σ : Section) → same_inputs σ s t → packed_rows σ k (inputs_of s) ≡ packed_rows σ k (inputs_of t)
  unfolding packed_rows
  same_rows Wv e = ap₂ world_view_rows e.0 e.1
  same_rows Proj e = ap projection_rows e
  same_rows Material e = ap (material_rows k.lighting_enabled k.specular_enable) e
  same_rows Lights e = ap₂ (λ (v : D3DMATRIX) (ls : List D3DLIGHT9). cond (eqb k.light_active_mask 0) [] (lights_rows v (take (light_limit k) ls))) e.0 e.1
  same_rows Palette e = ap₂ (λ (v : D3DMATRIX) (ms : List D3DMATRIX). palette_rows v (take (palette_matrices k) ms)) e.0 e.1
  same_rows Tt e = ap₂ texture_rows e.1 e.0
  same_rows Fog e = rw (e.0, e.1, e.2)
  same_rows Ambient e = ap ambient_rows e

  same_accepted : (σ : Section) → same_inputs σ s t → mask_accepted σ k (inputs_of s) ≡ mask_accepted σ k (inputs_of t)
  unfolding mask_accepted
  same_accepted Wv e = refl
  same_accepted Proj e = refl
  same_accepted Material e = refl
  same_accepted Lights e =
      ap (λ (ls : List D3DLIGHT9). eqb k.light_active_mask 0 || eqb k.light_active_mask (masks_of (take (light_limit k) ls)).active) e.1
  same_accepted Palette e = refl
  same_accepted Tt e = refl
  same_accepted Fog e = refl
  same_accepted Ambient e = refl

  -- the state's part in a count is the texture mask
  pub same_count : (σ : Section) → same_inputs σ s t → state_count σ s k ≡ state_count σ t k
  same_count Wv e = refl
  same_count Proj e = refl
  same_count Material e = refl
  same_count Lights e = refl
  same_count Palette e = refl
  same_count Tt e = ap texture_count e.1
  same_count Fog e = refl
  same_count Ambient e = refl

  pub same_packing : (σ : Section) → same_inputs σ s t → (dst : List Float) → pack_section σ s k dst ≡ pack_section σ t k dst
  unfolding pack_section pack_inputs
  same_packing σ e dst =
      ap₂ (outcome_of dst (state_count σ s k)) (same_accepted σ e) (same_rows σ e)
      ∙ ap (λ (n : ℕ). outcome_of dst n (mask_accepted σ k (inputs_of t)) (packed_rows σ k (inputs_of t))) (same_count σ e)

-- ---- the key

module _ {k l : FfVsKey} (e : SameShape k l) where
  same_matrices : palette_matrices k ≡ palette_matrices l
  unfolding palette_matrices
  same_matrices =
      ap₂ (λ (n : ℕ) (i : Bool). cond (eqb n 0) 0 (cond i 40 n)) e.vertex_blend_count e.vertex_blend_indexed

  pub shape_count : (σ : Section) (t : ℕ) → section_rows σ k t ≡ section_rows σ l t
  unfolding material_count light_count palette_count
  shape_count Wv t = refl
  shape_count Proj t = refl
  shape_count Material t = ap₂ (λ (a b : Bool). cond a (cond b 5 4) 1) e.lighting_enabled e.specular_enable
  shape_count Lights t = ap (λ (m : ℕ). places m * 6) e.light-active-mask
  shape_count Palette t = ap (λ (n : ℕ). n * 4) same_matrices
  shape_count Tt t = refl
  shape_count Fog t = refl
  shape_count Ambient t = refl

  module _ (i : Inputs) where
    pub shape_rows : (σ : Section) → packed_rows σ k i ≡ packed_rows σ l i
    unfolding packed_rows
    shape_rows Wv = refl
    shape_rows Proj = refl
    shape_rows Material = ap₂ (λ (a b : Bool). material_rows a b i.material) e.lighting_enabled e.specular_enable
    shape_rows Lights =
        ap₂ (λ (m n : ℕ). cond (eqb m 0) [] (lights_rows i.view (take n i.lights))) e.light-active-mask (shape_limit e)
    shape_rows Palette = ap (λ (n : ℕ). palette_rows i.view (take n i.palette)) same_matrices
    shape_rows Tt = refl
    shape_rows Fog = ap (λ (m : ℕ). fog_rows m i.render_states.fog_start i.render_states.fog_end i.render_states.fog_density) e.fog_mode
    shape_rows Ambient = refl

    pub shape_accepted : (σ : Section) → mask_accepted σ k i ≡ mask_accepted σ l i
    unfolding mask_accepted
    shape_accepted Wv = refl
    shape_accepted Proj = refl
    shape_accepted Material = refl
    shape_accepted Lights = ap₂ (λ (m n : ℕ). eqb m 0 || eqb m (masks_of (take n i.lights)).active) e.light-active-mask (shape_limit e)
    shape_accepted Palette = refl
    shape_accepted Tt = refl
    shape_accepted Fog = refl
    shape_accepted Ambient = refl

    -- keys that are equal in the shape fields pack alike, whatever the inputs are
    pub shape_packing : (σ : Section) (dst : List Float) → pack_inputs σ k i dst ≡ pack_inputs σ l i dst
    unfolding pack_inputs
    shape_packing σ dst =
        ap₂ (outcome_of dst (input_rows σ k i)) (shape_accepted σ) (shape_rows σ)
        ∙ ap (λ (n : ℕ). outcome_of dst n (mask_accepted σ l i) (packed_rows σ l i)) (shape_count σ i.texture_mask)
