-- Every result is a matrix or a vector of f32 values: the last step of each entry rounds, and a transpose only moves entries.
use Prim.Native.Nat.{ℕ, zero, suc}
use mathlib.Core.Bool.{Bool, true, false, cond}
use mathlib.Core.List.{List, [], ◌∷◌}
use lib.Ieee.{Float, binary32, div, fits}
use lib.Ieee.Fits.{add-fits, mul-fits}
use Rattle.d3d9_types.proofs.Fits.{identity_fits}
use Rattle.d3d9_types.specs.Numbers.{one, float_fits}
use Rattle.d3d9_types.specs.Matrix.{rowFits, matrixFits}
use Rattle.d3d9_types.specs.Vector.{vectorFits}
use Rattle.d3d9_types.specs.declared.matrix.Row.{Row}
use Rattle.d3d9_types.specs.declared.matrix.D3DMATRIX.{D3DMATRIX}
use Rattle.d3d9_types.specs.declared.vector.D3DVECTOR.{D3DVECTOR}
use Rattle.std.specs.Prelude.{Some, None}
use Rattle.matrix.specs.Entry.{column, row, entry, row_of, matrix_of}
use Rattle.matrix.specs.Sum.{plus, times, neg_zero, sum_from, sum}
use Rattle.matrix.specs.Product.{dot, mat_mul}
use Rattle.matrix.specs.Transposition.{transposed}
use Rattle.matrix.specs.Inversion.{determinant, cofactor, singular, inverse, inverse_matrix}
use Rattle.matrix.specs.View.{view_transform_point, view_transform_dir}

sum_from_fits : (a : Float) (xs : List Float) → float_fits a → float_fits (sum_from a xs)
unfolding sum_from
sum_from_fits a [] h = h
sum_from_fits a (x ∷ xs) h = sum_from_fits (plus a x) xs (add-fits binary32 a x)

pub sum_fits : (xs : List Float) → float_fits (sum xs)
unfolding fits
sum_fits xs = sum_from_fits neg_zero xs tt

row_of_fits : (f : ℕ → Float) → ((j : ℕ) → float_fits (f j)) → rowFits (row_of f)
row_of_fits f h = record { x = h 0; y = h 1; z = h 2; w = h 3 }

pub matrix_of_fits : (f : ℕ → ℕ → Float) → ((i j : ℕ) → float_fits (f i j)) → matrixFits (matrix_of f)
matrix_of_fits f h =
    record { r0 = row_of_fits (f 0) (h 0); r1 = row_of_fits (f 1) (h 1); r2 = row_of_fits (f 2) (h 2); r3 = row_of_fits (f 3) (h 3) }

pub column_fits : {r : Row} → rowFits r → (j : ℕ) → float_fits (column r j)
unfolding column
column_fits h zero = h.x
column_fits h (suc zero) = h.y
column_fits h (suc (suc zero)) = h.z
column_fits h (suc (suc (suc j))) = h.w

pub row_fits : {m : D3DMATRIX} → matrixFits m → (i : ℕ) → rowFits (row m i)
unfolding row
row_fits h zero = h.r0
row_fits h (suc zero) = h.r1
row_fits h (suc (suc zero)) = h.r2
row_fits h (suc (suc (suc i))) = h.r3

pub mat_mul_fits : (a b : D3DMATRIX) → matrixFits (mat_mul a b)
unfolding mat_mul dot
mat_mul_fits a b = matrix_of_fits (λ i j. dot (row a i) b j) (λ i j. sum_fits _)

pub transposed_fits : {m : D3DMATRIX} → matrixFits m → matrixFits (transposed m)
unfolding transposed
transposed_fits {m} h = matrix_of_fits (λ i j. entry m j i) (λ i j. column_fits (row_fits h j) i)

-- whatever the test of the determinant says
either_fits : (t : Bool) (m : D3DMATRIX) → matrixFits m → matrixFits (inverse_matrix (cond t None (Some m)))
unfolding inverse_matrix
either_fits true m h = identity_fits
either_fits false m h = h

pub inverse_fits : (m : D3DMATRIX) → matrixFits (inverse_matrix (inverse m))
unfolding inverse
inverse_fits m =
    either_fits (singular (determinant m)) _
    (matrix_of_fits (λ i j. times (cofactor m i j) (div binary32 one (determinant m))) (λ i j. mul-fits binary32 (cofactor m i j) (div binary32 one (determinant m))))

pub view_transform_point_fits : (view : D3DMATRIX) (p : D3DVECTOR) → vectorFits (view_transform_point view p)
unfolding view_transform_point
view_transform_point_fits view p = record { x = sum_fits _; y = sum_fits _; z = sum_fits _ }

pub view_transform_dir_fits : (view : D3DMATRIX) (d : D3DVECTOR) → vectorFits (view_transform_dir view d)
unfolding view_transform_dir
view_transform_dir_fits view d = record { x = sum_fits _; y = sum_fits _; z = sum_fits _ }
