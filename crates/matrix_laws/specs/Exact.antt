-- How far an entry of a matrix product lies from the exact one. Document 02, T-12, "written over scaled whole numbers": every finite f32 is a whole number of units of 2 ^ −149, and the product
-- of two a whole number of units of 2 ^ −298.
use Rattle.std.specs.Prelude.{ℕ, ◌+◌, ◌-◌, ◌*◌, ◌^◌, ◌≤◌, ◌<◌, ◌≡◌, Bool, ◌&&◌, ◌||◌, cond, T, leb, ltb, eqb, ℤ, pos, neg_ℤ, nat_abs, ◌+ℤ◌, ◌-ℤ◌, ◌*ℤ◌, Float}
use Rattle.std.specs.Float.{nan, inf, fin}
use Rattle.std.specs.Float.Ieee.Scale.{finite}
use Rattle.d3d9_types.specs.declared.matrix.Row.{Row}
use Rattle.d3d9_types.specs.declared.matrix.D3DMATRIX.{D3DMATRIX}
use Rattle.float32.specs.Root.{in_units}
use Rattle.matrix.specs.Entry.{column, entry}

-- ---- exact values

abbrev pub with_sign : Bool → ℕ → ℤ
with_sign s n = cond s (neg_ℤ (pos n)) (pos n)

-- a finite f32 in units of 2 ^ −149; a NaN and an infinity count as 0
unfoldable pub signed_units : Float → ℤ
signed_units nan = pos 0
signed_units (inf s) = pos 0
signed_units (fin s m e) = with_sign s (in_units (fin s m e))

-- "each exact product": entry i of a row times entry (i, j) of a matrix
unfoldable pub exact_product : Row → D3DMATRIX → ℕ → ℕ → ℤ
exact_product a m j i = signed_units (column a i) *ℤ signed_units (entry m i j)

-- "the exact sum"
unfoldable pub exact_sum : Row → D3DMATRIX → ℕ → ℤ
exact_sum a m j = let p = exact_product a m j in p 0 +ℤ p 1 +ℤ p 2 +ℤ p 3

-- "that sum of magnitudes"
unfoldable pub magnitude_sum : Row → D3DMATRIX → ℕ → ℕ
magnitude_sum a m j = let p = exact_product a m j in nat_abs (p 0) + nat_abs (p 1) + nat_abs (p 2) + nat_abs (p 3)

-- ---- "for finite entries where each exact product is 0 or at least 2^−126 in magnitude and the magnitudes sum below 2^127"

abbrev pub least_product : ℕ
least_product = 2 ^ (298 - 126)

abbrev pub sum_limit : ℕ
sum_limit = 2 ^ (298 + 127)

abbrev pub in_range : ℕ → Bool
in_range n = eqb n 0 || leb least_product n

unfoldable pub moderate_product : Row → D3DMATRIX → ℕ → ℕ → Bool
moderate_product a m j i = finite (column a i) && (finite (entry m i j) && in_range (nat_abs (exact_product a m j i)))

-- of row a and column j of m
unfoldable pub moderate : Row → D3DMATRIX → ℕ → Bool
moderate a m j = let p = moderate_product a m j in p 0 && (p 1 && (p 2 && (p 3 && ltb (magnitude_sum a m j) sum_limit)))

-- ---- "the entry differs from the exact sum by at most 5 × 2^−24 times that sum of magnitudes"

abbrev pub parts : ℕ
parts = 5

pub record Close (x : Float) (a : Row) (m : D3DMATRIX) (j : ℕ) : Type 0 where
  pub is_finite : T (finite x)
  pub near : nat_abs (signed_units x *ℤ pos (2 ^ 149) -ℤ exact_sum a m j) * 2 ^ 24 ≤ parts * magnitude_sum a m j

-- ---- "If all entries are whole numbers of magnitude at most 1,024, each product entry is the exact whole number."

-- the float is the whole number n
pub record IsWhole (x : Float) (n : ℤ) : Type 0 where
  pub is_finite : T (finite x)
  pub is : signed_units x ≡ n *ℤ pos (2 ^ 149)

abbrev pub largest_whole : ℕ
largest_whole = 1024

-- the entries of m are the whole numbers n
pub record WholeEntries (m : D3DMATRIX) (n : ℕ → ℕ → ℤ) : Type 0 where
  pub whole : (i j : ℕ) → i < 4 → j < 4 → IsWhole (entry m i j) (n i j)
  pub small : (i j : ℕ) → i < 4 → j < 4 → nat_abs (n i j) ≤ largest_whole

-- entry (i, j) of the product of two tables of whole numbers
unfoldable pub whole_sum : (ℕ → ℕ → ℤ) → (ℕ → ℕ → ℤ) → ℕ → ℕ → ℤ
whole_sum n k i j = n i 0 *ℤ k 0 j +ℤ n i 1 *ℤ k 1 j +ℤ n i 2 *ℤ k 2 j +ℤ n i 3 *ℤ k 3 j
