-- What is read of the transforms is the abstract state's: a read's number and matrix, the palette that is used, and the product of world, view and projection.
-- Assumes nothing.
use Rattle.std.specs.Prelude.{Ok, Err}
use Prim.Native.Nat.{ℕ, ◌≤◌}
use native.Mathlib.Omega.{arith}
use mathlib.Core.Path.{◌≡◌, refl, ap, ap₂, ◌∙◌}
use mathlib.Core.Bool.{Bool, true, false, cond}
use Rattle.d3d9_types.specs.Matrix.{identity}
use Rattle.d3d9_types.specs.declared.matrix.D3DMATRIX.{D3DMATRIX}
use Rattle.matrix.specs.Product.{mat_mul}
use Rattle.d3d9_model.specs.State.{AbstractState}
use Rattle.d3d9_model.specs.Operations.{known}
use Rattle.d3d9_model.specs.Reads.{transform_read_refusal, abstract_read_matrix, abstract_palette_used, abstract_world_view_projection}
use Rattle.ff_state.specs.Transforms.{transform_of, world_palette_used, world_view_projection, transform_read_number, transform_read_matrix}
use Rattle.ff_state.specs.Valid.{Valid}
use Rattle.ff_state.specs.declared.state.FfState.{FfState}
use Rattle.agreement.specs.Agrees.{Agrees}
use Rattle.agreement.proofs.Transforms.{transform_read}

number_if : (t : Bool) (m : D3DMATRIX) → transform_read_number (cond t (Ok m) (Err (record {}))) ≡ cond t 0 1
unfolding transform_read_number
number_if true m = refl
number_if false m = refl

matrix_if : (t : Bool) (m : D3DMATRIX) → transform_read_matrix (cond t (Ok m) (Err (record {}))) ≡ cond t m identity
unfolding transform_read_matrix
matrix_if true m = refl
matrix_if false m = refl

module _ {s : FfState} {a : AbstractState} (v : Valid s) (g : Agrees s a) where
  pub transform-read-number : (n : ℕ) → transform_read_number (transform_of s n) ≡ transform_read_refusal n
  unfolding transform_read_refusal
  transform-read-number n = ap transform_read_number (transform_read v g n) ∙ number_if (known n) (a.matrix n)

  pub transform-read-matrix : (n : ℕ) → transform_read_matrix (transform_of s n) ≡ abstract_read_matrix a n
  unfolding abstract_read_matrix
  transform-read-matrix n = ap transform_read_matrix (transform_read v g n) ∙ matrix_if (known n) (a.matrix n)

  pub palette_used_agrees : world_palette_used s ≡ abstract_palette_used a
  unfolding world_palette_used abstract_palette_used
  palette_used_agrees = rw g.highest

  -- 1 to 256, so that a u16 holds it
  pub palette_used_range : (1 ≤ world_palette_used s) × (world_palette_used s ≤ 256)
  unfolding world_palette_used
  palette_used_range = (omega arith, omega (arith, v.high_water))

  pub world_view_projection_agrees : world_view_projection s ≡ abstract_world_view_projection a
  unfolding world_view_projection abstract_world_view_projection
  world_view_projection_agrees = ap₂ mat_mul (ap₂ mat_mul (g.matrices.palette 0 (omega arith)) g.matrices.view) g.matrices.projection
