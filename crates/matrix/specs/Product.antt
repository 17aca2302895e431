-- The product of two matrices (ff_state.rs 1078–1095).
use Rattle.std.specs.Prelude.{ℕ, [], ◌∷◌, Float}
use Rattle.d3d9_types.specs.declared.matrix.Row.{Row}
use Rattle.d3d9_types.specs.declared.matrix.D3DMATRIX.{D3DMATRIX}
use Rattle.matrix.specs.Entry.{column, row, entry, row_of, matrix_of}
use Rattle.matrix.specs.Sum.{times, sum}

-- a row times column j
unfoldable pub dot : Row → D3DMATRIX → ℕ → Float
dot a m j =
    sum (times (column a 0) (entry m 0 j) ∷ times (column a 1) (entry m 1 j) ∷ times (column a 2) (entry m 2 j) ∷ times (column a 3) (entry m 3 j) ∷ [])

unfoldable pub times_row : Row → D3DMATRIX → Row
times_row a m = row_of (dot a m)

-- entry (i, j) of a × b is row i of a times column j of b
unfoldable pub mat_mul : D3DMATRIX → D3DMATRIX → D3DMATRIX
mat_mul a b = matrix_of (λ i j. dot (row a i) b j)
