-- Worked examples, computed: the hypotheses at their borders; how near the bound comes to what happens, and that it breaks beyond them. `oracle/run products` meets the same numbers. Assumes nothing.
use Prim.Native.Nat.{ℕ, ◌+◌, ◌*◌, ◌^◌}
use native.Mathlib.Nat.{le_of_eq, not-le_of_lt}
use mathlib.Core.Path.{◌≡◌, refl, sym, ap}
use mathlib.Core.Bool.{Bool, true, false, ◌&&◌, beq}
use mathlib.Core.List.{List, [], ◌∷◌}
use lib.Dec.{leb, ltb, lit<}
use lib.IntN.{pos, nat_abs, ◌-ℤ◌, ◌*ℤ◌}
use lib.Ieee.{binary32, of_bits, add, mul}
use lib.Ieee.Scale.{finite}
use lib.ListN.{get_or}
use Rattle.d3d9_types.specs.Numbers.{one}
use Rattle.d3d9_types.specs.declared.matrix.Row.{Row}
use Rattle.d3d9_types.specs.declared.matrix.D3DMATRIX.{D3DMATRIX}
use Rattle.float32.specs.Root.{in_units}
use Rattle.matrix.specs.Entry.{column, row, row_of, matrix_of}
use Rattle.matrix.specs.Sum.{sum_from}
use Rattle.matrix.specs.Product.{dot}
use Rattle.matrix_laws.specs.Exact.{signed_units, exact_product, exact_sum, magnitude_sum, moderate_product, moderate, parts, Close, IsWhole}

-- the bits of a row and of a column; whether they meet the hypotheses; whether the entry is finite and within the bound
record Case : Type 0 where
  left : List ℕ
  right : List ℕ
  meets : Bool
  holds : Bool

case : List ℕ → List ℕ → Bool → Bool → Case
case a b m h = record { left = a; right = b; meets = m; holds = h }

row_with : List ℕ → Row
row_with l = row_of (λ i. of_bits binary32 (get_or l i 0))

columns_with : List ℕ → D3DMATRIX
columns_with l = matrix_of (λ i j. of_bits binary32 (get_or l i 0))

-- how far the entry is off, times 2 ^ 24
apart : List ℕ → List ℕ → ℕ
apart a b = nat_abs (signed_units (dot (row_with a) (columns_with b) 0) *ℤ pos (2 ^ 149) -ℤ exact_sum (row_with a) (columns_with b) 0) * 2 ^ 24

within : List ℕ → List ℕ → Bool
within a b = finite (dot (row_with a) (columns_with b) 0) && leb (apart a b) (parts * magnitude_sum (row_with a) (columns_with b) 0)

unfoldable all_meet : List Case → Bool
all_meet [] = true
all_meet (c ∷ cs) = beq (moderate (row_with c.left) (columns_with c.right) 0) c.meets && all_meet cs

unfoldable all_hold : List Case → Bool
all_hold [] = true
all_hold (c ∷ cs) = beq (within c.left c.right) c.holds && all_hold cs

-- 1.0000001 and three times 2 ^ −24, each a little over a tie: every rounding goes up by nearly half a step
worst_left : List ℕ
worst_left = 0x4b24012b ∷ 0x4b000001 ∷ 0x4b000001 ∷ 0x4b000001 ∷ []

worst_right : List ℕ
worst_right = 0x33c7cca1 ∷ 0x28000000 ∷ 0x28000000 ∷ 0x28000000 ∷ []

-- the row above; 2 ^ −126, 0, −2 ^ −126 and the float below 2 ^ 127; 2 ^ 127; the float below 2 ^ −126
-- just above 2 ^ −129, off by 8 parts; 2 ^ 128 − 2 ^ 103, an infinity; 4,096 × 4,096 + 1; an infinity; a NaN times 0
borders : List Case
borders =
    case worst_left worst_right true true
    ∷ case (0x20000000 ∷ 0x80000000 ∷ 0xa0000000 ∷ 0x657fffff ∷ []) (0x20000000 ∷ 0x7f7fffff ∷ 0x20000000 ∷ 0x59000000 ∷ []) true true
    ∷ case (0x5f800000 ∷ []) (0x5f000000 ∷ []) false true
    ∷ case (0x25ffffff ∷ []) (0x1a000000 ∷ []) false true
    ∷ case (0x24800004 ∷ []) (0x1a000000 ∷ []) false false
    ∷ case (0x5bf80000 ∷ []) (0x63042108 ∷ []) false false
    ∷ case (0x45800000 ∷ 0x3f800000 ∷ []) (0x45800000 ∷ 0x3f800000 ∷ []) true true
    ∷ case (0x7f800000 ∷ []) (0x3f800000 ∷ []) false false
    ∷ case (0x3f800000 ∷ 0x7fc00000 ∷ []) (0x3f800000 ∷ 0 ∷ []) false false
    ∷ []

meets_right : all_meet borders ≡ true
unfolding all_meet borders case worst_left worst_right row_with columns_with moderate moderate_product magnitude_sum exact_product signed_units in_units column row of_bits
meets_right = refl

holds_right : all_hold borders ≡ true
unfolding all_hold borders case worst_left worst_right within apart row_with columns_with exact_sum magnitude_sum exact_product signed_units in_units dot sum_from column row add mul of_bits
holds_right = refl

-- off by more than 3.99999 parts
nearly_four : ltb (399_999 * magnitude_sum (row_with worst_left) (columns_with worst_right) 0) (100_000 * apart worst_left worst_right) ≡ true
unfolding worst_left worst_right apart row_with columns_with exact_sum magnitude_sum exact_product signed_units in_units dot sum_from column row add mul of_bits
nearly_four = refl

-- 1 for 1 + 6 × 2 ^ −24 is not close
six_parts : Close one (row_with (0x3f800003 ∷ [])) (columns_with (0x3f800000 ∷ [])) 0 → ⊥
unfolding row_with columns_with exact_sum magnitude_sum exact_product signed_units in_units column row of_bits
six_parts c = not-le_of_lt (lit< tt) c.near

-- 4,096 × 4,096 + 1 is another whole number than what comes out
too_long : IsWhole (dot (row_with (0x45800000 ∷ 0x3f800000 ∷ [])) (columns_with (0x45800000 ∷ 0x3f800000 ∷ [])) 0) (pos (4_096 * 4_096 + 1)) → ⊥
unfolding row_with columns_with signed_units in_units dot sum_from column row add mul of_bits
too_long w = not-le_of_lt (lit< {m = 4_096 * 4_096 * 2 ^ 149} {n = (4_096 * 4_096 + 1) * 2 ^ 149} tt) (le_of_eq (ap nat_abs (sym w.is)))
