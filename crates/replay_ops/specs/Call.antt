-- What the contracts of `call` cite: the letters of arithmetic, and the answer of each call.
use Rattle.std.specs.Prelude.{ℕ, ◌+◌, List, [], ◌∷◌, Option, Some, None, Result, Ok, Err, Float, cond, eqb, get_or, length}
use Rattle.std.specs.Float.{binary32}
use Rattle.std.specs.Float.Ieee.{of_bits, to_bits}
use Rattle.float32.specs.Cosine.{cos_of}
use Rattle.float32.specs.Root.{sqrt_of}
use Rattle.d3d9_types.specs.declared.matrix.Row.{Row}
use Rattle.d3d9_types.specs.declared.matrix.D3DMATRIX.{D3DMATRIX}
use Rattle.matrix.specs.Inversion as Inversion
use Rattle.matrix.specs.Product.{mat_mul}
use Rattle.matrix.specs.Transposition.{transposed}
use Rattle.replay_text.specs.Exactly.{exactly}
use Rattle.replay_text.specs.declared.answer.Words.{Words}
use Rattle.replay_text.specs.declared.answer.Words.TheVariants.{Scalar, Matrix}
use Rattle.replay_text.specs.declared.answer.Unanswered.{Unanswered}
use Rattle.replay_text.specs.declared.answer.Unanswered.TheVariants.{Refused, BadLine}
use Rattle.replay_ops.specs.declared.op.Op.{Op}
use Rattle.replay_ops.specs.declared.op.Op.TheVariants.{Sqrt, Cos, MatMul, Transpose, Inverse}

abbrev pub op_of : ℕ → Result Op Unanswered
op_of n =
    cond (eqb n 115) (Ok Sqrt)  -- s
    (cond (eqb n 99) (Ok Cos)  -- c
    (cond (eqb n 109) (Ok MatMul)  -- m
    (cond (eqb n 116) (Ok Transpose)  -- t
    (cond (eqb n 105) (Ok Inverse)  -- i
    (Err BadLine)))))

-- words as the bits of floats
abbrev pub float_at : List ℕ → ℕ → Float
float_at words i = of_bits binary32 (get_or words i 0)

abbrev pub row_at : List ℕ → ℕ → Row
row_at words at =
    record { x = float_at words at; y = float_at words (at + 1); z = float_at words (at + 2); w = float_at words (at + 3) }

abbrev pub matrix_at : List ℕ → ℕ → D3DMATRIX
matrix_at words at =
    record { r0 = row_at words at; r1 = row_at words (at + 4); r2 = row_at words (at + 8); r3 = row_at words (at + 12) }

abbrev pub float_words : Float → Words
float_words x = Scalar (to_bits binary32 x ∷ [])

abbrev pub row_words : Row → List ℕ
row_words r = to_bits binary32 r.x ∷ to_bits binary32 r.y ∷ to_bits binary32 r.z ∷ to_bits binary32 r.w ∷ []

abbrev pub matrix_words : D3DMATRIX → Words
matrix_words m = Matrix (row_words m.r0 ∷ row_words m.r1 ∷ row_words m.r2 ∷ row_words m.r3 ∷ [])

-- a singular matrix is refused 6
abbrev pub inverse_words : Option D3DMATRIX → Result Words Unanswered
inverse_words (Some m) = Ok (matrix_words m)
inverse_words None = Err (Refused 6)

-- the float and the matrix of a line that has no other word
abbrev pub one_float : List ℕ → Result Float Unanswered
one_float words = cond (eqb (length words) 1) (Ok (float_at words 0)) (Err BadLine)

abbrev pub one_matrix : List ℕ → Result D3DMATRIX Unanswered
one_matrix words = cond (eqb (length words) 16) (Ok (matrix_at words 0)) (Err BadLine)

-- what a line's values give, or for no such line why there are none
abbrev pub of_values : {A : Type 0} → Result A Unanswered → (A → Result Words Unanswered) → Result Words Unanswered
of_values (Ok x) answer = answer x
of_values (Err why) answer = Err why

abbrev pub made : Op → List ℕ → Result Words Unanswered
made Sqrt words = of_values (one_float words) (λ x. Ok (float_words (sqrt_of x)))
made Cos words = of_values (one_float words) (λ x. Ok (float_words (cos_of x)))
made MatMul words = of_values (exactly 32 words) (λ both. Ok (matrix_words (mat_mul (matrix_at both 0) (matrix_at both 16))))
made Transpose words = of_values (one_matrix words) (λ m. Ok (matrix_words (transposed m)))
made Inverse words = of_values (one_matrix words) (λ m. inverse_words (Inversion.inverse m))

-- what the call of a letter answers
abbrev pub call : ℕ → List ℕ → Result Words Unanswered
call letter words = of_values (op_of letter) (λ op. made op words)
