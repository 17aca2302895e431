-- The length, and what is divided by it: the root of 2 ^ (2 t) times a sum is 2 ^ t times its root, so that components 2 ^ t times as large have the same quotients. Assumes nothing.
use Prim.Native.Nat.{ℕ, suc, ◌+◌, ◌-◌, ◌*◌, ◌/◌, ◌^◌, ◌≤◌, ◌<◌}
use native.Mathlib.Nat.{le_trans, le_of_eq, lt_of_lt_of_le, lt_irrefl, zero-mul, one-mul, mul_assoc, mul_comm, mul_left_comm, mul_right_comm, mul-mul-mul_comm, mul-pos, mul-le-mul_right, mul-lt-mul_of_pos_right, mul-div-mul_right, eq_of_mul-eq-mul_right}
use native.Mathlib.Omega.{arith}
use mathlib.Core.Path.{◌≡◌, refl, sym, ap, ap₂, subst, ◌∙◌}
use mathlib.Core.Bool.{Bool, true, false, cond, true≢false}
use lib.Dec.{T, ltb, eqb, lit<}
use lib.Pow.{pow-add, pow_pos}
use lib.Ieee.{Float, nan, inf, fin, binary32, up, down, size, unlike, round, div, lt}
use lib.Ieee.Digits.{size-lt, size_reaches}
use lib.Ieee.Exact.{HasValue, odd_sign}
use lib.Ieee.Fits.{up_pos, down_pos}
use lib.Ieee.Positive.{first_pos}
use lib.Ieee.Scale.{round_same}
use borrow.Author.Tests.{lt-ltb, ne_eqb}
use Rattle.d3d9_types.specs.Numbers.{zero, float_fits}
use Rattle.float32.specs.Root.{nearest_root, root_of, sqrt_of, in_units, unsigned}
use Rattle.float32.proofs.Laws.{size_is, root_of_value, units_of_value, sqrt_normal}
use Rattle.float32.proofs.Grid.{unit, long}
use Rattle.float32.proofs.Arithmetic.{unlike_false}

-- ---- the root

size_moved : (n s : ℕ) → 0 < n → size (n * 2 ^ s) ≡ size n + s
size_moved n s p =
    let z : ℕ = size n in
    let Z : 0 < z = long n 0 p in
    let lo : 2 ^ (z - 1) ≤ n = size_reaches n (z - 1) (omega arith) in
    let i : suc (z - 1 + s) ≡ z + s = omega arith in
    size_is (n * 2 ^ s) (z - 1 + s)
    (le_trans (le_of_eq (pow-add 2 (z - 1) s)) (mul-le-mul_right (2 ^ s) lo))
    (lt_of_lt_of_le (mul-lt-mul_of_pos_right (size-lt n) (pow_pos s)) (le_of_eq (sym (pow-add 2 z s) ∙ ap (λ (x : ℕ). 2 ^ x) (sym i))))
    ∙ i

-- the root of n units, in units
abbrev halved : ℕ → ℕ
halved n = (size n - 47) / 2

abbrev digits : ℕ → ℕ
digits n = nearest_root (n / (2 ^ halved n * 2 ^ halved n))

abbrev pub root : ℕ → ℕ
root n = digits (n * 2 ^ 149) * 2 ^ halved (n * 2 ^ 149)

pub root_value : (x : Float) (n : ℕ) → HasValue x false n unit → 0 < n → HasValue (sqrt_of x) false (root n) unit
unfolding root_of
root_value x n h p = subst (λ (y : Float). HasValue y false (root n) unit) (sym (root_of_value x n h p)) (odd_sign 25 false (digits (n * 2 ^ 149)) (halved (n * 2 ^ 149)) 149)

module _ (n t : ℕ) (p : 0 < n) where
  abbrev a : ℕ
  a = n * 2 ^ 149

  abbrev k : ℕ
  k = halved a

  moved : n * 2 ^ (t + t) * 2 ^ 149 ≡ a * 2 ^ (t + t)
  moved = mul_right_comm n (2 ^ (t + t)) (2 ^ 149)

  more : halved (n * 2 ^ (t + t) * 2 ^ 149) ≡ k + t
  more =
      let s : size (n * 2 ^ (t + t) * 2 ^ 149) ≡ size a + (t + t) = ap size moved ∙ size_moved a (t + t) (mul-pos p (pow_pos 149)) in
      let far : 149 < size a = long a 149 (le_trans (le_of_eq (sym (one-mul (2 ^ 149)))) (mul-le-mul_right (2 ^ 149) p)) in
      omega arith

  same_digits : digits (n * 2 ^ (t + t) * 2 ^ 149) ≡ digits a
  same_digits =
      let w : 2 ^ (k + t) * 2 ^ (k + t) ≡ 2 ^ k * 2 ^ k * 2 ^ (t + t) = ap₂ (λ (x y : ℕ). x * y) (pow-add 2 k t) (pow-add 2 k t) ∙ mul-mul-mul_comm (2 ^ k) (2 ^ t) (2 ^ k) (2 ^ t) ∙ ap (λ (x : ℕ). 2 ^ k * 2 ^ k * x) (sym (pow-add 2 t t)) in
      ap (λ (j : ℕ). nearest_root (n * 2 ^ (t + t) * 2 ^ 149 / (2 ^ j * 2 ^ j))) more
      ∙ ap nearest_root (ap₂ (λ (x y : ℕ). x / y) moved w ∙ mul-div-mul_right a (2 ^ k * 2 ^ k) (pow_pos (t + t)))

  pub root_moved : root (n * 2 ^ (t + t)) ≡ root n * 2 ^ t
  root_moved =
      ap₂ (λ (x y : ℕ). x * 2 ^ y) same_digits more
      ∙ ap (λ (x : ℕ). digits a * x) (pow-add 2 k t)
      ∙ sym (mul_assoc (digits a) (2 ^ k) (2 ^ t))

-- it is above zero
unsigned_of : (x : Float) (n : ℕ) → HasValue x false n unit → T (unsigned x)
unsigned_of nan n h = absurd h
unsigned_of (inf s) n h = absurd h
unsigned_of (fin true m e) n h = absurd (true≢false h.0)
unsigned_of (fin false m e) n h = tt

pub root_above : (x : Float) (n : ℕ) → float_fits x → HasValue x false n unit → 0 < n → 0 < root n
root_above x n f h p =
    let c : 0 < in_units x = subst (λ (a : ℕ). 0 < a) (sym (units_of_value x n h)) p in
    lt_of_lt_of_le (lit< {m = 0} {n = 2 ^ 23} tt) (subst (λ (a : ℕ). 2 ^ 23 ≤ a) (units_of_value (sqrt_of x) (root n) (root_value x n h p)) (sqrt_normal x f (unsigned_of x n h) c).1)

-- ---- what is above zero exceeds it

pub exceeds : (l : Float) (n : ℕ) → HasValue l false n unit → 0 < n → lt zero l ≡ true
unfolding lt
exceeds nan n h p = absurd h
exceeds (inf s) n h p = absurd h
exceeds (fin true m e) n h p = absurd (true≢false h.0)
exceeds (fin false m e) n h p =
    let some : 0 < m * up e = first_pos (m * up e) unit (subst (λ (a : ℕ). 0 < a) (sym h.1) (mul-pos p (down_pos e))) in
    ap₂ ltb (zero-mul (down e)) refl ∙ lt-ltb 0 (m * up e * 1) (mul-pos some (pow_pos 0))

-- ---- a quotient

quotient_is : (x l : Float) (s : Bool) (a n : ℕ) → HasValue x s a unit → HasValue l false n unit → 0 < n → div binary32 x l ≡ round binary32 s a n
unfolding div
quotient_is nan l s a n h k p = absurd h
quotient_is (inf t) l s a n h k p = absurd h
quotient_is (fin t m e) nan s a n h k p = absurd k
quotient_is (fin t m e) (inf u) s a n h k p = absurd k
quotient_is (fin t m e) (fin true i d) s a n h k p = absurd (true≢false k.0)
quotient_is (fin t m e) (fin false i d) s a n h k p =
    let some : 0 < i = first_pos i (up d) (first_pos (i * up d) unit (subst (λ (b : ℕ). 0 < b) (sym k.1) (mul-pos p (down_pos d)))) in
    let test : eqb i 0 ≡ false = ne_eqb i 0 (λ (z : i ≡ 0). lt_irrefl 0 (subst (λ (b : ℕ). 0 < b) z some)) in
    ap (λ (b : Bool). cond b (cond (eqb m 0) nan (inf (unlike t false))) (round binary32 (unlike t false) (m * up e * down d) (i * up d * down e))) test
    ∙ ap (λ (b : Bool). round binary32 b (m * up e * down d) (i * up d * down e)) (unlike_false t ∙ h.0)
    ∙ round_same binary32 s (m * up e * down d) (i * up d * down e) a n (mul-pos (mul-pos some (up_pos d)) (down_pos e)) p
    (eq_of_mul-eq-mul_right unit (pow_pos 149) (m * up e * down d * n) (a * (i * up d * down e))
    (let l : m * up e * down d * n * unit ≡ m * up e * unit * (n * down d) = simp (mul_assoc, mul_comm, mul_left_comm) in
    let r : a * (i * up d * down e) * unit ≡ a * down e * (i * up d * unit) = simp (mul_assoc, mul_comm, mul_left_comm) in
    l ∙ ap₂ (λ (b c : ℕ). b * c) h.1 (sym k.1) ∙ sym r))

pub quotient_same : (x l x' l' : Float) (s : Bool) (a n t : ℕ) → HasValue x s a unit → HasValue l false n unit → HasValue x' s (a * 2 ^ t) unit → HasValue l' false (n * 2 ^ t) unit → 0 < n
    → div binary32 x l ≡ div binary32 x' l'
quotient_same x l x' l' s a n t h k h' k' p =
    let p' : 0 < n * 2 ^ t = mul-pos p (pow_pos t) in
    quotient_is x l s a n h k p
    ∙ round_same binary32 s a n (a * 2 ^ t) (n * 2 ^ t) p p' (sym (mul_assoc a n (2 ^ t)) ∙ mul_right_comm a n (2 ^ t))
    ∙ sym (quotient_is x' l' s (a * 2 ^ t) (n * 2 ^ t) h' k' p')
