-- A sum of two floats is one rounding of the exact sum of their counts. A count with a sign is the difference of two numbers, `gain` and `loss`, one of which is 0, so that the sum is said without
-- integers. Assumes nothing.
use Prim.Native.Nat.{ℕ, ◌+◌, ◌-◌, ◌*◌, ◌≤◌, ◌<◌}
use native.Mathlib.Nat.{le_trans, le_of_eq, le_of_lt, zero-mul, mul_comm, mul-le-mul_right, le_of_mul-le-mul_right, mul-sub}
use native.Mathlib.Omega.{arith}
use mathlib.Core.Path.{◌≡◌, refl, sym, ap₂, subst, ◌∙◌}
use mathlib.Core.Bool.{Bool, true, false, cond}
use lib.Dec.{ltb}
use lib.Ieee.{Float, binary32, round, sum, add}
use lib.Ieee.Exact.{HasValue}
use lib.Ieee.Scale.{round_same}
use borrow.Author.Tests.{ltb-true, ltb-false}
use Rattle.lemmas.proofs.Branch.{branch}
use Rattle.float32.proofs.Arithmetic.{common, add-alike}

abbrev pub gain : Bool → ℕ → ℕ
gain s a = cond s 0 a

abbrev pub loss : Bool → ℕ → ℕ
loss s a = cond s a 0

pub gain_scale : (s : Bool) (a l : ℕ) → gain s (a * l) ≡ gain s a * l
gain_scale true a l = sym (zero-mul l)
gain_scale false a l = refl

pub loss_scale : (s : Bool) (a l : ℕ) → loss s (a * l) ≡ loss s a * l
loss_scale true a l = refl
loss_scale false a l = sym (zero-mul l)

pub even : (s : Bool) (a : ℕ) → gain s a + loss s a ≡ loss s a + gain s a
even true a = omega arith
even false a = omega arith

-- x is count / l rounded, with its sign; and that is A / l and B / l, with theirs, added
pub record Sums (x : Float) (l : ℕ) (s : Bool) (A : ℕ) (t : Bool) (B : ℕ) : Type 0 where
  pub sign : Bool
  pub count : ℕ
  pub is : x ≡ round binary32 sign count l
  pub balance : gain sign count + (loss s A + loss t B) ≡ loss sign count + (gain s A + gain t B)
  pub small : count ≤ A + B

-- a / c is A / l, and b / c is B / l
module _ (a A b B c l : ℕ) (C : 0 < c) (L : 0 < l) (p : a * l ≡ A * c) (q : b * l ≡ B * c) where
  order : a ≤ b → A ≤ B
  order h = le_of_mul-le-mul_right (le_trans (le_of_eq (sym p)) (le_trans (mul-le-mul_right l h) (le_of_eq q))) C

  apart : (a - b) * l ≡ (A - B) * c
  apart = mul_comm (a - b) l ∙ mul-sub l a b ∙ ap₂ (λ (x y : ℕ). x - y) (mul_comm l a ∙ p ∙ mul_comm A c) (mul_comm l b ∙ q ∙ mul_comm B c) ∙ sym (mul-sub c A B) ∙ mul_comm c (A - B)

  difference : (s : Bool) → round binary32 s (a - b) c ≡ round binary32 s (A - B) l
  difference s = round_same binary32 s (a - b) c (A - B) l C L apart

-- of unlike signs
module _ (a A b B c l : ℕ) (C : 0 < c) (L : 0 < l) (p : a * l ≡ A * c) (q : b * l ≡ B * c) where
  from_gain : Sums (sum binary32 false a true b c) l false A true B
  unfolding sum
  from_gain =
      branch (λ (x : Float). Sums x l false A true B) (ltb a b) (round binary32 true (b - a) c) (round binary32 false (a - b) c)
      (λ (e : ltb a b ≡ true).
      let k : A ≤ B = order a A b B c l C L p q (le_of_lt (ltb-true a b e)) in
      record { sign = true; count = B - A; is = difference b B a A c l C L q p true; balance = omega arith; small = omega arith })
      (λ (e : ltb a b ≡ false).
      let k : B ≤ A = order b B a A c l C L q p (ltb-false a b e) in
      record { sign = false; count = A - B; is = difference a A b B c l C L p q false; balance = omega arith; small = omega arith })

  -- a sum that is 0 has no sign to speak of
  level : (r : Bool) → B ≤ A → (r ≡ false → A ≤ B) → gain r (A - B) + (A + 0) ≡ loss r (A - B) + (0 + B)
  level true k f = omega arith
  level false k f = let g : A ≤ B = f refl in omega arith

  from_loss : Sums (sum binary32 true a false b c) l true A false B
  unfolding sum
  from_loss =
      branch (λ (x : Float). Sums x l true A false B) (ltb a b) (round binary32 false (b - a) c) (round binary32 (ltb b a) (a - b) c)
      (λ (e : ltb a b ≡ true).
      let k : A ≤ B = order a A b B c l C L p q (le_of_lt (ltb-true a b e)) in
      record { sign = false; count = B - A; is = difference b B a A c l C L q p false; balance = omega arith; small = omega arith })
      (λ (e : ltb a b ≡ false).
      let k : B ≤ A = order b B a A c l C L q p (ltb-false a b e) in
      record {
        sign = ltb b a;
        count = A - B;
        is = difference a A b B c l C L p q (ltb b a);
        balance = level (ltb b a) k (λ (w : ltb b a ≡ false). order a A b B c l C L p q (ltb-false b a w));
        small = omega arith;
      })

pub add_is : (x y : Float) (s t : Bool) (A B l : ℕ) → 0 < l → HasValue x s A l → HasValue y t B l → Sums (add binary32 x y) l s A t B
add_is x y true true A B l L h k = record { sign = true; count = A + B; is = add-alike x y true A B l L h k; balance = omega arith; small = omega arith }
add_is x y false false A B l L h k = record { sign = false; count = A + B; is = add-alike x y false A B l L h k; balance = omega arith; small = omega arith }
add_is x y false true A B l L h k =
    let c = common x y false true A B l h k in
    subst (λ (z : Float). Sums z l false A true B) (sym c.is) (from_gain c.first A c.second B c.below l c.below_pos L c.first-is c.second_is)
add_is x y true false A B l L h k =
    let c = common x y true false A B l h k in
    subst (λ (z : Float). Sums z l true A false B) (sym c.is) (from_loss c.first A c.second B c.below l c.below_pos L c.first-is c.second_is)
