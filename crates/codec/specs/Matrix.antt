-- Rows of four floats, and matrices row by row. Document 01, 'State image'.
use Rattle.std.specs.Prelude.{ℕ, ◌+◌}
use mathlib.Core.List.{List, [], ◌∷◌, flatten}
use Rattle.d3d9_types.specs.declared.matrix.Row.{Row}
use Rattle.d3d9_types.specs.declared.matrix.D3DMATRIX.{D3DMATRIX}
use Rattle.codec.specs.Float.{float_bytes, float_at}

unfoldable pub row_bytes : Row → List ℕ
row_bytes r = flatten (float_bytes r.x ∷ float_bytes r.y ∷ float_bytes r.z ∷ float_bytes r.w ∷ [])

unfoldable pub row_at : List ℕ → ℕ → Row
row_at bytes at =
    record { x = float_at bytes at; y = float_at bytes (at + 4); z = float_at bytes (at + 8); w = float_at bytes (at + 12) }

unfoldable pub matrix_bytes : D3DMATRIX → List ℕ
matrix_bytes m = flatten (row_bytes m.r0 ∷ row_bytes m.r1 ∷ row_bytes m.r2 ∷ row_bytes m.r3 ∷ [])

unfoldable pub matrix_at : List ℕ → ℕ → D3DMATRIX
matrix_at bytes at =
    record { r0 = row_at bytes at; r1 = row_at bytes (at + 16); r2 = row_at bytes (at + 32); r3 = row_at bytes (at + 48) }
