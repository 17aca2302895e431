-- The calls on matrices of docs/INTERFACE.md: a matrix is 64 bytes, and `ff_inverse` refuses 6 after 4.
use Rattle.std.specs.Prelude.{ℕ, List}
use Rattle.matrix.specs.Product.{mat_mul}
use Rattle.matrix.specs.Transposition.{transposed}
use Rattle.matrix.specs.Inversion.{inverse, inverse_number, inverse_matrix}
use Rattle.codec.specs.Matrix.{matrix_at, matrix_bytes}
use Rattle.calls.specs.Answer.{Answer, answered, or_next, matrix_length}

unfoldable pub ff_mat_mul : List ℕ → List ℕ → List ℕ → Answer (List ℕ)
ff_mat_mul a b out =
    answered (or_next (matrix_length a) (or_next (matrix_length b) (matrix_length out)))
    (matrix_bytes (mat_mul (matrix_at a 0) (matrix_at b 0))) out

unfoldable pub ff_transpose : List ℕ → List ℕ → Answer (List ℕ)
ff_transpose m out =
    answered (or_next (matrix_length m) (matrix_length out)) (matrix_bytes (transposed (matrix_at m 0))) out

unfoldable pub ff_inverse : List ℕ → List ℕ → Answer (List ℕ)
ff_inverse m out =
    let i = inverse (matrix_at m 0) in
    answered (or_next (matrix_length m) (or_next (matrix_length out) (inverse_number i))) (matrix_bytes (inverse_matrix i)) out
