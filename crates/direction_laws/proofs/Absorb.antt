-- Two sums of the same terms, the second of terms 2 ^ s times as large: either it is 2 ^ s times the first exactly, or both are small; and what is small vanishes beside what is large.
-- Assumes nothing.
use Prim.Native.Nat.{ℕ, ◌+◌, ◌-◌, ◌*◌, ◌^◌, ◌≤◌, ◌<◌}
use native.Mathlib.Nat.{le_trans, le_of_eq, le_antisymm, le-add_right, lt_of_lt_of_le, lt_of_le_of_lt, add_comm, add-mul, mul-le-mul_right, mul-lt-mul_of_pos_right, lt_of_mul-lt-mul_right}
use native.Mathlib.Omega.{arith}
use mathlib.Core.Path.{◌≡◌, refl, sym, ap, ap₂, subst, ◌∙◌}
use mathlib.Core.Bool.{Bool, true, false}
use lib.Dec.{leb}
use lib.Pow.{pow-add, pow_mono, pow_pos}
use lib.Ieee.{binary32, size}
use lib.Ieee.Digits.{size-lt, size-le}
use lib.Ieee.Scale.{grid}
use borrow.Author.Tests.{leb-true, leb-false}
use Rattle.float32.proofs.Grid.{unit, Short, long, power_below, power_above, absorb, split_off, whole_scale}

-- ---- a sum rounded, in units, and powers of two

pub sum_above : (n j : ℕ) → n < 2 ^ j → grid binary32 n unit ≤ 2 ^ j
sum_above n j h = power_above n unit (pow_pos 149) j (mul-lt-mul_of_pos_right h (pow_pos 149))

pub sum_below : (n j : ℕ) → 2 ^ j ≤ n → 2 ^ j ≤ grid binary32 n unit
sum_below n j h = power_below n unit (pow_pos 149) j (mul-le-mul_right (2 ^ 149) h)

-- ---- the small one of two terms vanishes

vanish : (p e k : ℕ) → Short p → 2 ^ (k + 28) ≤ p → e ≤ 2 ^ k → grid binary32 (p + e) unit ≡ p
vanish p e k h large small =
    let m : ℕ = h.m in
    let j : ℕ = h.j in
    let p' : ℕ = m * 2 ^ j in
    let i : ℕ = size p' - 24 in
    let q : ℕ = m * 2 ^ (j - i) in
    let digits : k + 28 < size p' = subst (λ (x : ℕ). k + 28 < size x) h.is (long p (k + 28) large) in
    let whole : 24 + i ≡ size p' = omega arith in
    let place : 2 ^ (k + 2) ≤ 2 ^ i = pow_mono {i = k + 2} {j = i} (omega arith) in
    let four : 2 ^ (k + 2) ≡ 2 ^ k * 4 = pow-add 2 k 2 in
    let off : q * 2 ^ i ≡ p' = split_off m j e h.few in
    let top : p' < 2 ^ 24 * 2 ^ i = lt_of_lt_of_le (size-lt p') (le_of_eq (ap (λ (x : ℕ). 2 ^ x) (sym whole) ∙ pow-add 2 24 i)) in
    let fewer : q < 2 ^ 24 = lt_of_mul-lt-mul_right (2 ^ i) (lt_of_le_of_lt (le_of_eq off) top) in
    let next : (q + 1) * 2 ^ i ≤ 2 ^ 24 * 2 ^ i = mul-le-mul_right (2 ^ i) (let z : q + 1 ≤ 2 ^ 24 = omega arith in z) in
    let dist : (q + 1) * 2 ^ i ≡ q * 2 ^ i + 1 * 2 ^ i = add-mul q 1 (2 ^ i) in
    let power : 0 < 2 ^ k = pow_pos k in
    let under : p' + e < 2 ^ 24 * 2 ^ i = omega arith in
    let same : size (p' + e) ≡ size p' =
    le_antisymm
    (size-le (p' + e) (size p') (lt_of_lt_of_le under (le_of_eq (sym (pow-add 2 24 i) ∙ ap (λ (x : ℕ). 2 ^ x) whole))))
    (le_trans (size-le p' (size (p' + e)) (lt_of_le_of_lt (le-add_right p' e) (size-lt (p' + e)))) (le_of_eq refl)) in
    ap (λ (x : ℕ). grid binary32 (x + e) unit) h.is ∙ absorb m j e h.few same (omega arith) ∙ sym h.is

-- ---- alike: exactly, or both small

pub data Alike (s k p q : ℕ) : Type 0 where
  exactly : q ≡ p * 2 ^ s → Alike s k p q
  small : p ≤ 2 ^ k → q ≤ 2 ^ (k + s) → Alike s k p q

pub weaker : (s k l p q : ℕ) → k ≤ l → Alike s k p q → Alike s l p q
weaker s k l p q h (exactly e) = exactly e
weaker s k l p q h (small a b) = small (le_trans a (pow_mono h)) (le_trans b (pow_mono {i = k + s} {j = l + s} (omega arith)))

-- one term exactly, the other small
mixed : (s k p q p' q' : ℕ) → Short p → Short q → q ≡ p * 2 ^ s → p' ≤ 2 ^ k → q' ≤ 2 ^ (k + s) → Alike s (k + 30) (grid binary32 (p + p') unit) (grid binary32 (q + q') unit)
mixed s k p q p' q' P Q e a b = go (leb (2 ^ (k + 28)) p) refl
  where
    go : (t : Bool) → leb (2 ^ (k + 28)) p ≡ t → Alike s (k + 30) (grid binary32 (p + p') unit) (grid binary32 (q + q') unit)
    go true t =
        let l : 2 ^ (k + 28) ≤ p = leb-true _ _ t in
        let sum : k + 28 + s ≡ k + s + 28 = omega arith in
        let l' : 2 ^ (k + s + 28) ≤ q = le_trans (le_of_eq (ap (λ (x : ℕ). 2 ^ x) (sym sum) ∙ pow-add 2 (k + 28) s)) (le_trans (mul-le-mul_right (2 ^ s) l) (le_of_eq (sym e))) in
        exactly (vanish q q' (k + s) Q l' b ∙ e ∙ ap (λ (x : ℕ). x * 2 ^ s) (sym (vanish p p' k P l a)))
    go false t =
        let l : p < 2 ^ (k + 28) = leb-false (2 ^ (k + 28)) p t in
        let l' : q < 2 ^ (k + 28) * 2 ^ s = lt_of_le_of_lt (le_of_eq e) (mul-lt-mul_of_pos_right l (pow_pos s)) in
        let w : 2 ^ (k + 28) ≡ 2 ^ k * 2 ^ 28 = pow-add 2 k 28 in
        let w' : 2 ^ (k + 28) * 2 ^ s ≡ 2 ^ (k + s) * 2 ^ 28 = sym (pow-add 2 (k + 28) s) ∙ ap (λ (x : ℕ). 2 ^ x) (let z : k + 28 + s ≡ k + s + 28 = omega arith in z) ∙ pow-add 2 (k + s) 28 in
        let v : 2 ^ (k + 30) ≡ 2 ^ k * 2 ^ 30 = pow-add 2 k 30 in
        let v' : 2 ^ (k + 30 + s) ≡ 2 ^ (k + s) * 2 ^ 30 = ap (λ (x : ℕ). 2 ^ x) (let z : k + 30 + s ≡ k + s + 30 = omega arith in z) ∙ pow-add 2 (k + s) 30 in
        small (sum_above (p + p') (k + 30) (omega arith)) (sum_above (q + q') (k + 30 + s) (omega arith))

pub joined : (s k p q p' q' : ℕ) → Short p → Short q → Short p' → Short q' → Alike s k p q → Alike s k p' q' → Alike s (k + 30) (grid binary32 (p + p') unit) (grid binary32 (q + q') unit)
joined s k p q p' q' P Q P' Q' (exactly e) (exactly f) =
    exactly (ap (λ (x : ℕ). grid binary32 x unit) (ap₂ (λ (x y : ℕ). x + y) e f ∙ sym (add-mul p p' (2 ^ s))) ∙ whole_scale (p + p') s)
joined s k p q p' q' P Q P' Q' (exactly e) (small a b) = mixed s k p q p' q' P Q e a b
joined s k p q p' q' P Q P' Q' (small a b) (exactly f) = rw (add_comm p p', add_comm q q') (mixed s k p' q' p q P' Q' f a b)
joined s k p q p' q' P Q P' Q' (small a b) (small c d) =
    let v : 2 ^ (k + 30) ≡ 2 ^ k * 2 ^ 30 = pow-add 2 k 30 in
    let v' : 2 ^ (k + 30 + s) ≡ 2 ^ (k + s) * 2 ^ 30 = ap (λ (x : ℕ). 2 ^ x) (let z : k + 30 + s ≡ k + s + 30 = omega arith in z) ∙ pow-add 2 (k + s) 30 in
    let w : 0 < 2 ^ k = pow_pos k in
    let w' : 0 < 2 ^ (k + s) = pow_pos (k + s) in
    small (sum_above (p + p') (k + 30) (omega arith)) (sum_above (q + q') (k + 30 + s) (omega arith))
