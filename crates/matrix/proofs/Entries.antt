-- The entries of a matrix that is made of given entries, and so of a product and of a transpose.
use Prim.Native.Nat.{ℕ, zero, suc, ◌<◌}
use native.Mathlib.Omega.{arith}
use mathlib.Core.Path.{◌≡◌, refl, ap, ◌∙◌}
use lib.Ieee.{Float, binary32, neg, of_bits}
use Rattle.d3d9_types.specs.declared.matrix.Row.{Row}
use Rattle.d3d9_types.specs.declared.matrix.D3DMATRIX.{D3DMATRIX}
use Rattle.matrix.specs.Entry.{column, row, entry, row_of, matrix_of}
use Rattle.matrix.specs.Sum.{neg_zero}
use Rattle.matrix.specs.Product.{dot, times_row, mat_mul}
use Rattle.matrix.specs.Transposition.{transposed}

-- the literal −0.0
pub minus_zero : neg (of_bits binary32 0) ≡ neg_zero
unfolding neg of_bits
minus_zero = refl

pub column_row_of : (f : ℕ → Float) (j : ℕ) → j < 4 → column (row_of f) j ≡ f j
unfolding column
column_row_of f zero h = refl
column_row_of f (suc zero) h = refl
column_row_of f (suc (suc zero)) h = refl
column_row_of f (suc (suc (suc zero))) h = refl
column_row_of f (suc (suc (suc (suc j)))) h = absurd (omega arith)

pub row-matrix_of : (f : ℕ → ℕ → Float) (i : ℕ) → i < 4 → row (matrix_of f) i ≡ row_of (f i)
unfolding row
row-matrix_of f zero h = refl
row-matrix_of f (suc zero) h = refl
row-matrix_of f (suc (suc zero)) h = refl
row-matrix_of f (suc (suc (suc zero))) h = refl
row-matrix_of f (suc (suc (suc (suc i)))) h = absurd (omega arith)

pub entry-matrix_of : (f : ℕ → ℕ → Float) (i j : ℕ) → i < 4 → j < 4 → entry (matrix_of f) i j ≡ f i j
entry-matrix_of f i j p q = ap (λ (r : Row). column r j) (row-matrix_of f i p) ∙ column_row_of (f i) j q

pub mat_mul-row : (a b : D3DMATRIX) (i : ℕ) → i < 4 → row (mat_mul a b) i ≡ times_row (row a i) b
unfolding mat_mul times_row
mat_mul-row a b i h = row-matrix_of (λ k j. dot (row a k) b j) i h

pub mat_mul-entry : (a b : D3DMATRIX) (i j : ℕ) → i < 4 → j < 4 → entry (mat_mul a b) i j ≡ dot (row a i) b j
unfolding mat_mul
mat_mul-entry a b = entry-matrix_of (λ i j. dot (row a i) b j)

pub transposed-entry : (m : D3DMATRIX) (i j : ℕ) → i < 4 → j < 4 → entry (transposed m) i j ≡ entry m j i
unfolding transposed
transposed-entry m = entry-matrix_of (λ i j. entry m j i)

pub transposed_twice : (m : D3DMATRIX) → transposed (transposed m) ≡ m
unfolding transposed column row
transposed_twice m = refl
