-- A multiply refuses what a set refuses: by the image, the transform's number and the matrix's length, whatever it would store.
-- Assumes nothing.
use Prim.Native.Nat.{ℕ, zero, suc}
use mathlib.Core.Path.{◌≡◌, refl, sym, ap, ◌∙◌}
use mathlib.Core.List.{List}
use Rattle.std.specs.Prelude.{Option, Some, None, cond, Result}
use Rattle.d3d9_types.specs.declared.matrix.D3DMATRIX.{D3DMATRIX}
use Rattle.codec.specs.Matrix.{matrix_at}
use Rattle.ff_state.specs.Transforms.{slot_of, change_at, multiplied, set_transform, multiply_transform, transform_number}
use Rattle.ff_state.specs.declared.state.FfState.{FfState}
use Rattle.ff_state.specs.declared.transforms.Place.{Place}
use Rattle.image_reasons.specs.Reasons.{refused}
use Rattle.image.specs.Read.{state_of}
use Rattle.calls.specs.Answer.{answered, matrix_length}
use Rattle.calls.specs.Call.{changing, call_code}
use Rattle.transform_calls.specs.Transforms.{ff_set_transform, ff_multiply_transform}

code_is : {A : Type 0} (n : ℕ) (new out : A) → (answered n new out).code ≡ n
unfolding answered
code_is zero new out = refl
code_is (suc n) new out = refl

same_answer : (s : FfState) (o : Option Place) (f g : Place → D3DMATRIX) → (change_at s o f).answer ≡ (change_at s o g).answer
unfolding change_at
same_answer s (Some p) f g = refl
same_answer s None f g = refl

pub multiply_code : (image : List ℕ) (n : ℕ) (matrix : List ℕ) → (ff_set_transform image n matrix).code ≡ (ff_multiply_transform image n matrix).code
unfolding changing call_code set_transform multiply_transform
multiply_code image n matrix =
    let s = state_of image in
    let m = matrix_at matrix 0 in
    code_is _ _ _
    ∙ ap (λ a. call_code (λ t. transform_number a) (matrix_length matrix) image) (same_answer s (slot_of n) (λ p. m) (multiplied s m))
    ∙ sym (code_is _ _ _)
