-- The count of demand 3. Document 01: "A section's count is the number of its rows in which the mirror differs from that packing."
use Rattle.std.specs.Prelude.{ℕ, zero, suc, ◌+◌, ◌*◌, Bool, cond, not, ◌&&◌, ◌||◌, List, eqb, Float, length, get_or}
use Rattle.std.specs.Float.{nan, binary32}
use Rattle.std.specs.Float.Ieee.{to_bits, is_nan}
use Rattle.sections.specs.declared.sections.Section.{Section}
use Rattle.rows.specs.Rows.{floats}
use Rattle.sections.specs.Sections.{first_row}
use Rattle.sections.specs.declared.key.FfVsKey.{FfVsKey}
use Rattle.d3d9_model.specs.State.{AbstractState}
use Rattle.packing_agreement.specs.Abstract.{abstract_rows}

-- "Two floats are alike if their bits are equal or both are NaN."
unfoldable pub alike : Float → Float → Bool
alike x y = (is_nan x && is_nan y) || eqb (to_bits binary32 x) (to_bits binary32 y)

-- float j of row r of the mirror m and of row i of the packing p
unfoldable pub alike_at : List Float → ℕ → List Float → ℕ → ℕ → Bool
alike_at m r p i j = alike (get_or m (4 * r + j) nan) (get_or p (4 * i + j) nan)

-- "Two rows differ if some float of one is not alike to its fellow."
unfoldable pub row_differs : List Float → ℕ → List Float → ℕ → Bool
row_differs m r p i = not (alike_at m r p i 0 && (alike_at m r p i 1 && (alike_at m r p i 2 && alike_at m r p i 3)))

-- how many of the numbers below n pass the test
unfoldable pub count_below : (ℕ → Bool) → ℕ → ℕ
count_below f zero = 0
count_below f (suc n) = cond (f n) 1 0 + count_below f n

-- "Under a key a section has the rows that its packing of the book gives"
abbrev pub rows_under : FfVsKey → AbstractState → Section → ℕ
rows_under k a σ = length (abstract_rows σ a k)

unfoldable pub differing : List Float → FfVsKey → AbstractState → Section → ℕ
differing m k a σ =
    count_below (λ i. row_differs m (first_row σ + i) (floats (abstract_rows σ a k)) i) (rows_under k a σ)
