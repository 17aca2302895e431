-- Document 02, T-12, of a product's entries: entry (i, j) is row i of the first matrix times column j of the second. Assumes nothing.
use Prim.Native.Nat.{ℕ, ◌<◌}
use mathlib.Core.Path.{sym, subst}
use lib.Dec.{T}
use lib.IntN.{ℤ}
use lib.Ieee.{Float}
use Rattle.d3d9_types.specs.Matrix.{matrixFits}
use Rattle.d3d9_types.specs.declared.matrix.D3DMATRIX.{D3DMATRIX}
use Rattle.matrix.specs.Entry.{row, entry}
use Rattle.matrix.specs.Product.{mat_mul}
use Rattle.matrix.proofs.Entries.{mat_mul-entry}
use Rattle.matrix.proofs.Fits.{row_fits}
use Rattle.matrix_laws.specs.Exact.{moderate, Close, IsWhole, WholeEntries, whole_sum}
use Rattle.matrix_laws.proofs.Dot.{dot_close}
use Rattle.matrix_laws.proofs.Whole.{dot_whole}

module _ (a b : D3DMATRIX) (A : matrixFits a) (B : matrixFits b) (i j : ℕ) (I : i < 4) (J : j < 4) where
  pub product_close : T (moderate (row a i) b j) → Close (entry (mat_mul a b) i j) (row a i) b j
  product_close h = subst (λ (x : Float). Close x (row a i) b j) (sym (mat_mul-entry a b i j I J)) (dot_close (row a i) b j (row_fits A i) B h)

  pub product_whole : (n k : ℕ → ℕ → ℤ) → WholeEntries a n → WholeEntries b k → IsWhole (entry (mat_mul a b) i j) (whole_sum n k i j)
  product_whole n k h g = subst (λ (x : Float). IsWhole x (whole_sum n k i j)) (sym (mat_mul-entry a b i j I J)) (dot_whole a b A B n k h g i j I J)
