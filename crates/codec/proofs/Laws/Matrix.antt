-- A row or a matrix of f32 values comes back from its bytes, and what is read is one.
use Prim.Native.Nat.{ℕ}
use native.Mathlib.Nat.{add_assoc}
use mathlib.Core.Path.{◌≡◌, sym, ◌∙◌}
use mathlib.Core.List.{List, flatten}
use lib.ListN.{length}
use Rattle.d3d9_types.specs.Matrix.{rowFits, matrixFits}
use Rattle.d3d9_types.specs.declared.matrix.Row.{Row}
use Rattle.d3d9_types.specs.declared.matrix.D3DMATRIX.{D3DMATRIX}
use Rattle.codec.specs.Little.{little_bytes}
use Rattle.codec.specs.Float.{float_bytes, float_at}
use Rattle.codec.specs.Matrix.{row_bytes, row_at, matrix_bytes, matrix_at}
use Rattle.codec.specs.Put.{put}
use Rattle.codec.proofs.Put.{put_whole}
use Rattle.codec.proofs.Inside.{Skips, Starts}
use Rattle.codec.proofs.Laws.Float.{again, again_is, float_at_skips, float_at_fits}
pub use Rattle.codec.specs.Sizes.{length-row_bytes, length-matrix_bytes}

-- put over 64 bytes, nothing of them is left
pub put-matrix_bytes : (m : D3DMATRIX) (out : List ℕ) → length out ≡ 64 → put 0 (matrix_bytes m) out ≡ matrix_bytes m
put-matrix_bytes m out e = put_whole (matrix_bytes m) out (e ∙ sym (length-matrix_bytes m))

pub row_at_skips : Skips row_at
unfolding row_at
row_at_skips p q n = simp (add_assoc, float_at_skips)

pub matrix_at_skips : Skips matrix_at
unfolding matrix_at
matrix_at_skips p q n = simp (add_assoc, row_at_skips)

-- what the bytes of a row read as
abbrev pub row_again : Row → Row
row_again r = record { x = again r.x; y = again r.y; z = again r.z; w = again r.w }

pub row_again_is : {r : Row} → rowFits r → row_again r ≡ r
row_again_is h = rw (again_is h.x, again_is h.y, again_is h.z, again_is h.w)

matrix_again_is : {m : D3DMATRIX} → matrixFits m
    → record { r0 = row_again m.r0; r1 = row_again m.r1; r2 = row_again m.r2; r3 = row_again m.r3 } ≡ m
matrix_again_is h = rw (row_again_is h.r0, row_again_is h.r1, row_again_is h.r2, row_again_is h.r3)

pub row_at_starts : {r : Row} → rowFits r → Starts row_at (row_bytes r) r
unfolding row_at row_bytes flatten float_at float_bytes little_bytes
row_at_starts h rest = row_again_is h

pub matrix_at_starts : {m : D3DMATRIX} → matrixFits m → Starts matrix_at (matrix_bytes m) m
unfolding matrix_at row_at matrix_bytes row_bytes flatten float_at float_bytes little_bytes
matrix_at_starts {m} h rest = matrix_again_is h

pub row_at_fits : (bytes : List ℕ) (at : ℕ) → rowFits (row_at bytes at)
unfolding row_at
row_at_fits bytes at =
    record { x = float_at_fits bytes _; y = float_at_fits bytes _; z = float_at_fits bytes _; w = float_at_fits bytes _ }

pub matrix_at_fits : (bytes : List ℕ) (at : ℕ) → matrixFits (matrix_at bytes at)
unfolding matrix_at
matrix_at_fits bytes at =
    record { r0 = row_at_fits bytes _; r1 = row_at_fits bytes _; r2 = row_at_fits bytes _; r3 = row_at_fits bytes _ }
