-- A valid state and the abstract state that it agrees with have the same inputs, so the same packing under every key. Assumes nothing.
use Prim.Native.Nat.{ℕ, zero, suc, ◌+◌, ◌<◌}
use native.Mathlib.Nat.{add-zero, not-suc-le-zero, le_of_suc-le-suc}
use native.Mathlib.Omega.{arith}
use mathlib.Core.Bool.{true}
use mathlib.Core.Path.{◌≡◌, refl, sym, ap, ◌∙◌}
use mathlib.Core.List.{List}
use lib.Ieee.{Float}
use lib.ListN.{length, get_or}
use lib.Seq.{ext_get_or}
use Rattle.d3d9_types.specs.declared.matrix.D3DMATRIX.{D3DMATRIX}
use Rattle.d3d9_model.specs.State.{AbstractState}
use Rattle.ff_state.specs.State.{no_matrix}
use Rattle.ff_state.specs.Valid.{Valid}
use Rattle.sections.specs.declared.sections.Section.{Section}
use Rattle.ff_state.specs.declared.state.FfState.{FfState}
use Rattle.agreement.specs.Agrees.{Agrees}
use Rattle.agreement.proofs.Active.{active_agrees}
use Rattle.rows.specs.Rows.{floats}
use Rattle.sections.specs.declared.key.FfVsKey.{FfVsKey}
use Rattle.packing.proofs.Lengths.{rows-length}
use Rattle.packing.specs.Inputs.{Inputs, packed_rows, mask_accepted, inputs_of}
use Rattle.packing.specs.Pack.{state_rows, pack_inputs, pack_section, input_rows}
use Rattle.packing_agreement.specs.Abstract.{matrices_from, abstract_inputs, abstract_rows, abstract_pack}

length_matrices : (m : ℕ → D3DMATRIX) (from n : ℕ) → length (matrices_from m from n) ≡ n
unfolding matrices_from
length_matrices m from zero = refl
length_matrices m from (suc n) = ap suc (length_matrices m (suc from) n)

matrices_at : (m : ℕ → D3DMATRIX) (from n i : ℕ) → i < n → get_or (matrices_from m from n) i no_matrix ≡ m (from + i)
unfolding matrices_from
matrices_at m from zero i h = absurd (not-suc-le-zero h)
matrices_at m from (suc n) zero h = ap m (sym (add-zero from))
matrices_at m from (suc n) (suc i) h =
    let e : suc from + i ≡ from + suc i = omega arith in
    matrices_at m (suc from) n i (le_of_suc-le-suc h) ∙ ap m e

-- a list of n matrices that are those from a state number on
all_at : (m : ℕ → D3DMATRIX) (ms : List D3DMATRIX) (from n : ℕ) → length ms ≡ n → ((i : ℕ) → i < n → get_or ms i no_matrix ≡ m (from + i)) → ms ≡ matrices_from m from n
all_at m ms from n long e =
    ext_get_or no_matrix ms (matrices_from m from n) (long ∙ sym (length_matrices m from n))
    (λ i h.
    let below : i < n = rw long at h in
    e i below ∙ sym (matrices_at m from n i below))

module _ {s : FfState} {a : AbstractState} (v : Valid s) (g : Agrees s a) where
  palette_agrees : s.world_palette ≡ matrices_from a.matrix 256 256
  palette_agrees = all_at a.matrix s.world_palette 256 256 v.palette_length g.matrices.palette

  textures_agree : s.texture_transforms ≡ matrices_from a.matrix 16 8
  textures_agree = all_at a.matrix s.texture_transforms 16 8 v.texture_length g.matrices.texture

  pub inputs_agree : inputs_of s ≡ abstract_inputs a
  unfolding abstract_inputs
  inputs_agree =
      let palette = palette_agrees in
      let textures = textures_agree in
      let lights = active_agrees v g in
      λ i.
      record {
        view = g.matrices.view i;
        projection = g.matrices.projection i;
        palette = palette i;
        material = g.material i;
        lights = lights i;
        textures = textures i;
        texture_mask = g.texture-mask i;
        render_states = g.states i;
      }

  pub rows_agree : (σ : Section) (k : FfVsKey) → state_rows σ s k ≡ floats (abstract_rows σ a k)
  unfolding abstract_rows
  rows_agree σ k = ap (λ (i : Inputs). floats (packed_rows σ k i)) inputs_agree

  pub packing_agrees : (σ : Section) (k : FfVsKey) (dst : List Float) → pack_section σ s k dst ≡ abstract_pack σ a k dst
  unfolding pack_section abstract_pack
  packing_agrees σ k dst = ap (λ (i : Inputs). pack_inputs σ k i dst) inputs_agree

-- the abstract state has 256 world matrices and 8 of textures
pub abstract_length : (a : AbstractState) (k : FfVsKey) → k.vertex_blend_count < 256 → (σ : Section) → mask_accepted σ k (abstract_inputs a) ≡ true
    → length (abstract_rows σ a k) ≡ input_rows σ k (abstract_inputs a)
unfolding abstract_rows abstract_inputs
abstract_length a k byte σ =
    rows-length k (abstract_inputs a) (record { count = byte; palette = length_matrices a.matrix 256 256; textures = length_matrices a.matrix 16 8 }) σ
