-- A rounded magnitude is off by at most a part in 2 ^ 24: a count of units of 2 ^ −149 whatever it is, a product, in units of 2 ^ −298, from 2 ^ −126 on. The step is then at most a part in 2 ^ 23
-- of the number, and half of it is the most that rounding drops or adds; a count below 2 ^ 24 is kept as it is. Assumes nothing.
use Prim.Native.Nat.{ℕ, ◌+◌, ◌*◌, ◌/◌, ◌^◌, ◌≤◌, ◌<◌}
use native.Mathlib.Nat.{le_trans, le_of_eq, mul-one, mul_assoc, mul_comm, mul_left_comm, mul-pos, mul-div_cancel, mul-le-mul_right, le_of_mul-le-mul_right, le-div_iff_mul-le, add-mul}
use native.Mathlib.Omega.{arith}
use mathlib.Core.Path.{◌≡◌, refl, sym, ap, subst, ◌∙◌}
use mathlib.Core.Bool.{Bool, true, false}
use lib.Dec.{ltb, lit≤}
use lib.Pow.{pow-add, pow_pos}
use lib.Ieee.{binary32, size}
use lib.Ieee.Digits.{size_reaches}
use lib.Ieee.Nearest.{closest}
use lib.Ieee.Order.{drop}
use lib.Ieee.Scale.{grid, normal_of_fraction}
use borrow.Author.Tests.{ltb-true, ltb-false}
use Rattle.lemmas.proofs.Half.{WithinHalf, half_step}
use Rattle.float32.proofs.Grid.{unit, long, exact}
use Rattle.matrix_laws.specs.Exact.{least_product}

-- g is a to a part in 2 ^ 24 of a
abbrev pub Near : ℕ → ℕ → Type 0
Near a g = (2 ^ 24 * g ≤ 2 ^ 24 * a + a) × (2 ^ 24 * a ≤ 2 ^ 24 * g + a)

from_half : (n u g : ℕ) → 2 ^ 23 * u ≤ n → WithinHalf n u g → Near n g
from_half n u g h w = (omega arith, omega arith)

-- where 24 digits are kept
module _ (a c : ℕ) (C : 0 < c) (digits : 24 ≤ size (a * 2 ^ 149 / c)) where
  abbrev n : ℕ
  n = a * 2 ^ 149

  abbrev k : ℕ
  k = drop 24 n c

  abbrev u : ℕ
  u = c * 2 ^ k

  step_small : 2 ^ 23 * u ≤ n
  step_small =
      let top : 23 + k < size (n / c) = omega (arith, digits) in
      le_trans
      (le_of_eq (mul_left_comm (2 ^ 23) c (2 ^ k) ∙ mul_comm c (2 ^ 23 * 2 ^ k) ∙ ap (λ (x : ℕ). x * c) (sym (pow-add 2 23 k))))
      ((le-div_iff_mul-le C).0 (size_reaches (n / c) (23 + k) top))

  normal_near : Near n (grid binary32 a c * c)
  normal_near =
      subst (Near n) (mul_left_comm (closest n u) c (2 ^ k) ∙ mul_comm c (closest n u * 2 ^ k))
      (from_half n u (closest n u * u) step_small (half_step n u (mul-pos C (pow_pos k))))

-- a common factor is taken off
near_cancel : (a g l : ℕ) → 0 < l → Near (a * l) (g * l) → Near a g
near_cancel a g l L h = (
  le_of_mul-le-mul_right (le_trans (le_of_eq (mul_assoc (2 ^ 24) g l)) (le_trans h.0 (le_of_eq (gather a)))) L,
  le_of_mul-le-mul_right (le_trans (le_of_eq (mul_assoc (2 ^ 24) a l)) (le_trans h.1 (le_of_eq (gather g)))) L,
)
  where
    gather : (x : ℕ) → 2 ^ 24 * (x * l) + a * l ≡ (2 ^ 24 * x + a) * l
    gather x = ap (λ (y : ℕ). y + a * l) (sym (mul_assoc (2 ^ 24) x l)) ∙ sym (add-mul (2 ^ 24 * x) a l)

near_self : (a g : ℕ) → g ≡ a → Near a g
near_self a g e = (omega arith, omega arith)

-- a count of units
pub count_near : (a : ℕ) → Near a (grid binary32 a unit)
count_near a = go (ltb a (2 ^ 24)) refl
  where
    go : (t : Bool) → ltb a (2 ^ 24) ≡ t → Near a (grid binary32 a unit)
    go true e = near_self a (grid binary32 a unit) (subst (λ (x : ℕ). grid binary32 x unit ≡ x) (mul-one a) (exact a 0 (ltb-true a (2 ^ 24) e)))
    go false e =
        near_cancel a (grid binary32 a unit) unit (pow_pos 149)
        (normal_near a unit (pow_pos 149) (subst (λ (x : ℕ). 24 ≤ size x) (sym (mul-div_cancel a (pow_pos 149))) (le_trans (lit≤ tt) (long a 24 (ltb-false a (2 ^ 24) e)))))

-- a product of two, rounded to a count of units
pub product_near : (a : ℕ) → least_product ≤ a → Near a (grid binary32 a (2 ^ 298) * unit)
product_near a h = apart unit (pow_pos 149) (normal_near a (2 ^ 298) (pow_pos 298) (normal_of_fraction binary32 a (2 ^ 298) (pow_pos 298) (le_trans (lit≤ {m = 2 ^ 23 * 2 ^ 298} {n = least_product * 2 ^ 149} tt) (mul-le-mul_right (2 ^ 149) h))))
  where
    apart : (l : ℕ) → 0 < l → Near (a * l) (grid binary32 a (2 ^ 298) * (l * l)) → Near a (grid binary32 a (2 ^ 298) * l)
    apart l L near = near_cancel a (grid binary32 a (2 ^ 298) * l) l L (subst (Near (a * l)) (sym (mul_assoc (grid binary32 a (2 ^ 298)) l l)) near)
