-- What rounding does to a fraction a / c, in units of 2 ^ −149 (`grid binary32 a c`): it stays on its side of a power of two, it has at most 24 digits, and whole units moved up are rounded alike.
-- Assumes nothing.
use Prim.Native.Nat.{ℕ, ◌+◌, ◌-◌, ◌*◌, ◌/◌, ◌%◌, ◌^◌, ◌≤◌, ◌<◌, compare, Ordering}
use native.Mathlib.Nat.{le_trans, le_of_eq, lt_of_lt_of_le, lt_of_not-le, not-le_of_lt, eq-or-lt_of_le, add-zero, one-mul, mul-one, mul_assoc, mul-pos, mul-le-mul_right, mul-div_cancel, le-div_iff_mul-le, div-lt_iff_lt-mul, div-div-eq-div-mul}
use native.Mathlib.Omega.{arith}
use mathlib.Core.Path.{◌≡◌, refl, sym, ap, ap₂, subst, ◌∙◌}
use mathlib.Core.Bool.{Bool, true, false}
use mathlib.Core.Logic.{⊎_elim}
use lib.Dec.{ltb, lit<, lit≤}
use lib.Pow.{pow-add, pow_mono, pow_pos, shl_lt, shr_lt, high, low}
use lib.Ieee.{binary32, size, nearest}
use lib.Ieee.Digits.{size-lt, size-le, size_reaches, back}
use lib.Ieee.Fits.{nearest-le, kept-lt}
use lib.Ieee.Nearest.{closest, closest_same, nearest-ge}
use lib.Ieee.Scale.{grid, grid_scale}
use borrow.Author.Tests.{ltb-true, ltb-false}
use Rattle.lemmas.proofs.Half.{less}

-- the denominator of whole units
abbrev pub unit : ℕ
unit = 2 ^ 149

-- a number of at most 24 digits, moved up
pub record Short (p : ℕ) : Type 0 where
  pub m : ℕ
  pub j : ℕ
  pub few : m < 2 ^ 24
  pub is : p ≡ m * 2 ^ j

pub long : (n j : ℕ) → 2 ^ j ≤ n → j < size n
long n j h = lt_of_not-le (λ (g : size n ≤ j). not-le_of_lt (lt_of_lt_of_le (size-lt n) (pow_mono g)) h)

module _ (a c : ℕ) (C : 0 < c) where
  abbrev w : ℕ
  w = a * 2 ^ 149 / c

  abbrev k : ℕ
  k = size w - 24

  abbrev u : ℕ
  u = c * 2 ^ k

  abbrev half : Ordering
  half = compare (a * 2 ^ 149 % u * 2) u

  -- what is kept, before the rounding
  cut : w / 2 ^ k ≡ a * 2 ^ 149 / u
  cut = div-div-eq-div-mul (a * 2 ^ 149) c (2 ^ k)

  pub power_below : (j : ℕ) → 2 ^ j * c ≤ a * 2 ^ 149 → 2 ^ j ≤ grid binary32 a c
  power_below j h =
      let i : ℕ = j - k in
      let far : j < size w = long w j ((le-div_iff_mul-le C).1 h) in
      let reach : 2 ^ (i + k) ≤ w = size_reaches w (i + k) (omega arith) in
      let q : 2 ^ i ≤ a * 2 ^ 149 / u = subst (λ (x : ℕ). 2 ^ i ≤ x) cut ((le-div_iff_mul-le (pow_pos k)).1 (le_trans (le_of_eq (sym (pow-add 2 i k))) reach)) in
      le_trans (pow_mono {i = j} {j = i + k} (omega arith)) (le_trans (le_of_eq (pow-add 2 i k)) (mul-le-mul_right (2 ^ k) (le_trans q (nearest-ge (a * 2 ^ 149 / u) half))))

  pub power_above : (j : ℕ) → a * 2 ^ 149 < 2 ^ j * c → grid binary32 a c ≤ 2 ^ j
  power_above j h =
      let i : ℕ = size w - k in
      let few : size w ≤ j = size-le w j ((div-lt_iff_lt-mul C).1 h) in
      let whole : size w ≡ i + k = omega arith in
      let q : a * 2 ^ 149 / u < 2 ^ i = subst (λ (x : ℕ). x < 2 ^ i) cut (shr_lt i k (subst (λ (x : ℕ). w < 2 ^ x) whole (size-lt w))) in
      le_trans (mul-le-mul_right (2 ^ k) (le_trans (nearest-le (a * 2 ^ 149 / u) half) q)) (le_trans (le_of_eq (sym (pow-add 2 i k))) (pow_mono {i = i + k} {j = j} (omega arith)))

  pub short : Short (grid binary32 a c)
  short =
      let q : ℕ = closest (a * 2 ^ 149) u in
      let top : q ≤ 2 ^ 24 = le_trans (nearest-le (a * 2 ^ 149 / u) half) (subst (λ (x : ℕ). x < 2 ^ 24) cut (kept-lt 24 w)) in
      ⊎_elim
      (λ (e : q ≡ 2 ^ 24). record { m = 1; j = 24 + k; few = lit< tt; is = ap (λ (x : ℕ). x * 2 ^ k) e ∙ sym (pow-add 2 24 k) ∙ sym (one-mul (2 ^ (24 + k))) })
      (λ (l : q < 2 ^ 24). record { m = q; j = k; few = l; is = refl })
      (eq-or-lt_of_le top)

-- ---- whole units

-- e beside a number of at most 24 digits: less than half of its last place vanishes
module _ (m j e : ℕ) (few : m < 2 ^ 24) where
  abbrev p : ℕ
  p = m * 2 ^ j

  abbrev i : ℕ
  i = size p - 24

  abbrev q : ℕ
  q = m * 2 ^ (j - i)

  pub split_off : q * 2 ^ i ≡ p
  split_off =
      let near : i ≤ j = omega (arith, size-le p (24 + j) (shl_lt 24 j few)) in
      mul_assoc m (2 ^ (j - i)) (2 ^ i) ∙ ap (λ (x : ℕ). m * x) (sym (pow-add 2 (j - i) i) ∙ ap (λ (x : ℕ). 2 ^ x) (back j i near))

  pub absorb : size (p + e) ≡ size p → e * 2 < 2 ^ i → grid binary32 (p + e) unit ≡ p
  absorb same small =
      let under : e < 2 ^ i = omega arith in
      let whole : (p + e) * 2 ^ 149 / unit ≡ p + e = mul-div_cancel (p + e) (pow_pos 149) in
      let dropped : size ((p + e) * 2 ^ 149 / unit) - 24 ≡ i = ap (λ (x : ℕ). size x - 24) whole ∙ ap (λ (x : ℕ). x - 24) same in
      let n : p + e ≡ q * 2 ^ i + e = ap (λ (x : ℕ). x + e) (sym split_off) in
      let kept-is : closest ((p + e) * 2 ^ 149) (unit * 2 ^ i) ≡ q =
      closest_same ((p + e) * 2 ^ 149) (unit * 2 ^ i) (p + e) (2 ^ i) (mul-pos (pow_pos 149) (pow_pos i)) (pow_pos i) (mul_assoc (p + e) unit (2 ^ i))
      ∙ ap (λ (x : ℕ). closest x (2 ^ i)) n
      ∙ ap₂ nearest (high q i under) (ap (λ (x : ℕ). compare (x * 2) (2 ^ i)) (low q i under) ∙ less (e * 2) (2 ^ i) small) in
      ap (λ (x : ℕ). closest ((p + e) * 2 ^ 149) (unit * 2 ^ x) * 2 ^ x) dropped
      ∙ ap (λ (x : ℕ). x * 2 ^ i) kept-is
      ∙ split_off

pub exact : (m j : ℕ) → m < 2 ^ 24 → grid binary32 (m * 2 ^ j) unit ≡ m * 2 ^ j
exact m j few = ap (λ (x : ℕ). grid binary32 x unit) (sym (add-zero (m * 2 ^ j))) ∙ absorb m j 0 few (ap size (add-zero (m * 2 ^ j))) (pow_pos (size (m * 2 ^ j) - 24))

pub whole_scale : (n s : ℕ) → grid binary32 (n * 2 ^ s) unit ≡ grid binary32 n unit * 2 ^ s
whole_scale n s = go (ltb n (2 ^ 24)) refl
  where
    go : (t : Bool) → ltb n (2 ^ 24) ≡ t → grid binary32 (n * 2 ^ s) unit ≡ grid binary32 n unit * 2 ^ s
    go true e =
        let few : n < 2 ^ 24 = ltb-true n (2 ^ 24) e in
        let one : n * 2 ^ 0 ≡ n = mul-one n in
        exact n s few ∙ ap (λ (x : ℕ). x * 2 ^ s) (sym (ap (λ (x : ℕ). grid binary32 x unit) (sym one) ∙ exact n 0 few ∙ one))
    go false e =
        grid_scale binary32 n unit s (pow_pos 149) (subst (λ (x : ℕ). 24 ≤ size x) (sym (mul-div_cancel n (pow_pos 149))) (le_trans (lit≤ tt) (long n 24 (ltb-false n (2 ^ 24) e))))
