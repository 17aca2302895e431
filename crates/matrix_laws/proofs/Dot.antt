-- Document 02, T-12, in general: a row times a column is off from the exact sum by at most `parts` in 2 ^ 24 of the sum of the magnitudes. Four products that stand for the exact ones are added up
-- (`four_held`), and what they stand for is the exact sum, as integers. Assumes nothing.
use Prim.Native.Nat.{ℕ, ◌+◌, ◌*◌, ◌^◌, ◌≤◌, ◌<◌}
use native.Mathlib.Omega.{arith}
use mathlib.Core.Path.{◌≡◌, refl, sym, ap, ap₂, subst, ◌∙◌}
use mathlib.Core.Bool.{Bool}
use mathlib.Core.Logic.{◌⊎◌}
use lib.Dec.{T, lit≤}
use lib.IntN.{ℤ, pos, nat_abs, ◌+ℤ◌, ◌-ℤ◌, ◌*ℤ◌}
use lib.Ieee.{Float, binary32, unlike}
use lib.Ieee.Scale.{finite, overflow}
use Rattle.d3d9_types.specs.Matrix.{rowFits, matrixFits}
use Rattle.d3d9_types.specs.declared.matrix.Row.{Row}
use Rattle.d3d9_types.specs.declared.matrix.D3DMATRIX.{D3DMATRIX}
use Rattle.float32.specs.Root.{in_units}
use Rattle.float32.proofs.Grid.{unit}
use Rattle.float32.proofs.Units.{Counted, counted}
use Rattle.matrix.specs.Entry.{column, entry}
use Rattle.matrix.specs.Sum.{times}
use Rattle.matrix.specs.Product.{dot}
use Rattle.matrix.proofs.Fits.{column_fits, row_fits}
use Rattle.matrix_laws.specs.Exact.{with_sign, signed_units, exact_product, exact_sum, magnitude_sum, least_product, sum_limit, in_range, moderate, parts, Close}
use Rattle.matrix_laws.proofs.Signed.{gain, loss, gain_scale, loss_scale}
use Rattle.matrix_laws.proofs.Integers.{Is, is_sign, is_add, is_minus, abs_le, abs_sign, sign_mul, sign_scale}
use Rattle.matrix_laws.proofs.Moderate.{in-range, sum_below, each_says}
use Rattle.matrix_laws.proofs.Values.{has_finite, has_units}
use Rattle.matrix_laws.proofs.Held.{Held}
use Rattle.matrix_laws.proofs.Four.{Product, times-held, four_held}

-- ---- what a float holds, as integers

units_are : (s : Bool) (g l : ℕ) → Is (with_sign s g *ℤ pos l) (gain s g * l) (loss s g * l)
units_are s g l =
    subst (λ (z : ℤ). Is z (gain s g * l) (loss s g * l)) (sym (sign_scale s g l))
    (subst (λ (z : ℕ). Is (with_sign s (g * l)) z (loss s g * l)) (gain_scale s g l)
    (subst (λ (z : ℕ). Is (with_sign s (g * l)) (gain s (g * l)) z) (loss_scale s g l) (is_sign s (g * l))))

held_near : (x : Float) (e : ℤ) (P N b w : ℕ) → Is e P N → Held unit x P N b w → nat_abs (signed_units x *ℤ pos unit -ℤ e) * 2 ^ 24 ≤ b
held_near x e P N b w i h =
    let s : Bool = h.sign in
    let g : ℕ = h.count in
    subst (λ (z : ℤ). nat_abs (z *ℤ pos unit -ℤ e) * 2 ^ 24 ≤ b) (sym (has_units x s g h.value))
    (abs_le (with_sign s g *ℤ pos unit -ℤ e) (gain s g * unit + N) (loss s g * unit + P) b
    (is_minus (with_sign s g *ℤ pos unit) e (gain s g * unit) (loss s g * unit) P N (units_are s g unit) i) h.off.0 h.off.1)

-- ---- the row and the column

module _ (a : Row) (m : D3DMATRIX) (j : ℕ) (A : rowFits a) (M : matrixFits m) (h : T (moderate a m j)) where
  abbrev says : (i : ℕ) → T (finite (column a i)) × T (finite (entry m i j)) × T (in_range (nat_abs (exact_product a m j i)))
  says = each_says a m j h

  left : (i : ℕ) → Counted (column a i)
  left i = counted (column a i) (column_fits A i) (says i).0

  right : (i : ℕ) → Counted (entry m i j)
  right i = counted (entry m i j) (column_fits (row_fits M i) j) (says i).1

  abbrev sign : ℕ → Bool
  sign i = unlike (left i).sign (right i).sign

  abbrev size : ℕ → ℕ
  size i = in_units (column a i) * in_units (entry m i j)

  product_is : (i : ℕ) → exact_product a m j i ≡ with_sign (sign i) (size i)
  unfolding exact_product
  product_is i =
      ap₂ (λ (y z : ℤ). y *ℤ z) (has_units (column a i) (left i).sign (in_units (column a i)) (left i).value) (has_units (entry m i j) (right i).sign (in_units (entry m i j)) (right i).value)
      ∙ sign_mul (left i).sign (right i).sign (in_units (column a i)) (in_units (entry m i j))

  product_size : (i : ℕ) → nat_abs (exact_product a m j i) ≡ size i
  product_size i = ap nat_abs (product_is i) ∙ abs_sign (sign i) (size i)

  abbrev total : ℕ
  total = size 0 + size 1 + size 2 + size 3

  all_size : magnitude_sum a m j ≡ total
  unfolding magnitude_sum
  all_size = rw (product_size 0, product_size 1, product_size 2, product_size 3)

  range : (i : ℕ) → (size i ≡ 0) ⊎ (least_product ≤ size i)
  range i = in-range (size i) (subst (λ (z : ℕ). T (in_range z)) (product_size i) (says i).2)

  abbrev P : ℕ → ℕ
  P i = gain (sign i) (size i)

  abbrev N : ℕ → ℕ
  N i = loss (sign i) (size i)

  product_parts : (i : ℕ) → Is (exact_product a m j i) (P i) (N i)
  product_parts i = subst (λ (z : ℤ). Is z (P i) (N i)) (sym (product_is i)) (is_sign (sign i) (size i))

  sum-parts : Is (exact_sum a m j) (P 0 + P 1 + P 2 + P 3) (N 0 + N 1 + N 2 + N 3)
  unfolding exact_sum
  sum-parts =
      let t : ℕ → ℤ = exact_product a m j in
      is_add (t 0 +ℤ t 1 +ℤ t 2) (t 3) (P 0 + P 1 + P 2) (N 0 + N 1 + N 2) (P 3) (N 3)
      (is_add (t 0 +ℤ t 1) (t 2) (P 0 + P 1) (N 0 + N 1) (P 2) (N 2) (is_add (t 0) (t 1) (P 0) (N 0) (P 1) (N 1) (product_parts 0) (product_parts 1)) (product_parts 2))
      (product_parts 3)

  abbrev o : ℕ
  o = overflow binary32 * unit

  -- a sum below the limit is far from an infinity, whatever its roundings add
  room : 2 * sum_limit ≤ o
  room = lit≤ tt

  below : total < sum_limit
  below = subst (λ (z : ℕ). z < sum_limit) all_size (sum_below a m j h)

  product : (i : ℕ) → size i ≤ total → Product (times (column a i) (entry m i j)) (P i) (N i) (size i)
  product i l =
      times-held (column a i) (entry m i j) (left i).sign (right i).sign (in_units (column a i)) (in_units (entry m i j)) o (left i).value (right i).value (range i) refl
      (alone sum_limit o (size i) total room l below)
    where
      alone : (u o S T : ℕ) → 2 * u ≤ o → S ≤ T → T < u → 9 * S < 8 * o
      alone u o S T r h k = omega arith

  pub dot_close : Close (dot a m j) a m j
  unfolding dot
  dot_close =
      let f = four_held sum_limit o room refl below (product 0 (omega arith)) (product 1 (omega arith)) (product 2 (omega arith)) (product 3 (omega arith)) in
      record {
        is_finite = has_finite (dot a m j) f.1.sign f.1.count unit f.1.value;
        near =
            subst (λ (z : ℕ). nat_abs (signed_units (dot a m j) *ℤ pos unit -ℤ exact_sum a m j) * 2 ^ 24 ≤ parts * z) (sym all_size)
            (held_near (dot a m j) (exact_sum a m j) (P 0 + P 1 + P 2 + P 3) (N 0 + N 1 + N 2 + N 3) (parts * total) f.0 sum-parts f.1);
      }
