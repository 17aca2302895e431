-- A matrix by its entries: row i and column j, each 0 to 3, are the Rust's `m[4 * i + j]`. Past 3 counts as 3.
use Rattle.std.specs.Prelude.{ℕ, zero, suc, Float}
use Rattle.d3d9_types.specs.declared.matrix.Row.{Row}
use Rattle.d3d9_types.specs.declared.matrix.D3DMATRIX.{D3DMATRIX}
use Rattle.d3d9_types.specs.declared.vector.D3DVECTOR.{D3DVECTOR}

unfoldable pub column : Row → ℕ → Float
column r zero = r.x
column r (suc zero) = r.y
column r (suc (suc zero)) = r.z
column r (suc (suc (suc j))) = r.w

unfoldable pub row : D3DMATRIX → ℕ → Row
row m zero = m.r0
row m (suc zero) = m.r1
row m (suc (suc zero)) = m.r2
row m (suc (suc (suc i))) = m.r3

abbrev pub entry : D3DMATRIX → ℕ → ℕ → Float
entry m i j = column (row m i) j

-- the row, the matrix and the vector with given entries
abbrev pub row_of : (ℕ → Float) → Row
row_of f = record { x = f 0; y = f 1; z = f 2; w = f 3 }

abbrev pub matrix_of : (ℕ → ℕ → Float) → D3DMATRIX
matrix_of f = record { r0 = row_of (f 0); r1 = row_of (f 1); r2 = row_of (f 2); r3 = row_of (f 3) }

abbrev pub vector_of : (ℕ → Float) → D3DVECTOR
vector_of f = record { x = f 0; y = f 1; z = f 2 }
