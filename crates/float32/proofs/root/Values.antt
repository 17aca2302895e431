-- A finite float as a count of the format's least value, 2 ^ -149: what its bits, its root and the float made of a count are in terms of the count.
-- `HasValue x false a (2 ^ 149)` says that x is a of these units, with the sign clear. Assumes nothing.
use Prim.Native.Nat.{ℕ, zero, suc, ◌+◌, ◌-◌, ◌*◌, ◌/◌, ◌%◌, ◌^◌, ◌≤◌, ◌<◌}
use native.Mathlib.Nat.{le_refl, le_trans, le_of_eq, le_antisymm, lt_of_lt_of_le, lt_of_le_of_lt, lt_of_not-le, lt_irrefl, eq-or-lt_of_le, eq-zero-or-pos, suc-add, zero-add, zero-mul, mul-one, mul_assoc, mul_right_comm, mul-pos, mul-le-mul_right, mul-div_cancel, mod-eq_of_lt}
use native.Mathlib.Omega.{arith}
use mathlib.Core.Path.{◌≡◌, refl, sym, ap, subst, ◌∙◌}
use mathlib.Core.Bool.{false}
use mathlib.Core.Logic.{⊎_elim}
use lib.IntN.{ℤ}
use lib.Dec.{T, lit<}
use lib.Pow.{pow-add, pow_mono, pow_pos, shl_lt, shl-shr}
use lib.Ieee.{Float, nan, inf, fin, binary32, up, down, size, odd, fits, of_bits, of_fields, to_bits}
use lib.Ieee.Fits.{odd-fits, down_pos}
use lib.Ieee.Bits.{of_bits-to_bits}
use lib.Ieee.Digits.{size-lt, size-le}
use lib.Ieee.Exact.{HasValue, odd_sign}
use borrow.Author.Tests.{lt-leb, ne_eqb}
use Rattle.float32.specs.Root.{nearest_root, root_of, sqrt_of}

-- ---- the count, as `to_bits` and `sqrt_of` compute it

pub cut : (m : ℕ) (e : ℤ) (a : ℕ) → m * up e * 2 ^ 149 ≡ a * down e → m * up e * 2 ^ 149 / down e ≡ a
cut m e a h = ap (λ (x : ℕ). x / down e) h ∙ mul-div_cancel a (down_pos e)

cut_twice : (m : ℕ) (e : ℤ) (a : ℕ) → m * up e * 2 ^ 149 ≡ a * down e → m * up e * 2 ^ 298 / down e ≡ a * 2 ^ 149
cut_twice m e a h =
    ap (λ (x : ℕ). x / down e)
    (sym (mul_assoc (m * up e) (2 ^ 149) (2 ^ 149)) ∙ ap (λ (x : ℕ). x * 2 ^ 149) h ∙ mul_right_comm a (down e) (2 ^ 149))
    ∙ mul-div_cancel (a * 2 ^ 149) (down_pos e)

-- ---- the bits, from the count: two floats with one count are the same

pub bits_of_value : (x : Float) (a : ℕ) → HasValue x false a (2 ^ 149) → to_bits binary32 x ≡ (size a - 24) * 2 ^ 23 + a / 2 ^ (size a - 24)
unfolding to_bits
bits_of_value nan a h = absurd h
bits_of_value (inf s) a h = absurd h
bits_of_value (fin t m e) a h = rw (h.0, cut m e a h.1, zero-add)

pub value_unique : (x y : Float) (a : ℕ) → T (fits binary32 x) → T (fits binary32 y) → HasValue x false a (2 ^ 149) → HasValue y false a (2 ^ 149) → x ≡ y
value_unique x y a p q h k =
    sym (of_bits-to_bits binary32 x p)
    ∙ ap (of_bits binary32) (bits_of_value x a h ∙ sym (bits_of_value y a k))
    ∙ of_bits-to_bits binary32 y q

-- ---- digits

pub size_is : (n j : ℕ) → 2 ^ j ≤ n → n < 2 ^ suc j → size n ≡ suc j
size_is n j h k =
    le_antisymm (size-le n (suc j) k)
    (lt_of_not-le (λ (g : size n ≤ j). lt_irrefl n (lt_of_lt_of_le (size-lt n) (le_trans (pow_mono g) h))))

-- a number of d + 1 digits, moved up by k
size_scaled : (d n k : ℕ) → 2 ^ d ≤ n → n < 2 ^ suc d → size (n * 2 ^ k) ≡ suc d + k
size_scaled d n k h l =
    size_is (n * 2 ^ k) (d + k)
    (le_trans (le_of_eq (pow-add 2 d k)) (mul-le-mul_right (2 ^ k) h))
    (subst (λ (j : ℕ). n * 2 ^ k < 2 ^ j) (suc-add d k) (shl_lt (suc d) k l))
    ∙ sym (suc-add d k)

pub size_moved : (q k : ℕ) → 2 ^ 23 ≤ q → q < 2 ^ 24 → size (q * 2 ^ k) ≡ 24 + k
size_moved q k = size_scaled 23 q k

-- ---- the float with the exponent field k + 1 and the significand r, carried where r is 2 ^ 24

module _ (r k : ℕ) (low : 2 ^ 23 ≤ r) (high : r ≤ 2 ^ 24) (far : k ≤ 200) where
  pub made_fits : T (fits binary32 (odd 25 false r k 149))
  made_fits =
      odd-fits binary32 25 false r k (lt_of_le_of_lt high (lit< tt)) high
      (lt_of_le_of_lt (mul-le-mul_right (2 ^ k) high) (lt_of_le_of_lt (le_of_eq (sym (pow-add 2 24 k))) (lt_of_le_of_lt (pow_mono {i = 24 + k} {j = 224} (omega arith)) (lit< tt))))

  split_off : (a j q : ℕ) → size a - 24 ≡ j → a ≡ q * 2 ^ j → (size a - 24) * 2 ^ 23 + a / 2 ^ (size a - 24) ≡ j * 2 ^ 23 + q
  split_off a j q e d = rw e (ap (λ (x : ℕ). j * 2 ^ 23 + x) (ap (λ (x : ℕ). x / 2 ^ j) d ∙ shl-shr q j))

  made_bits : (size (r * 2 ^ k) - 24) * 2 ^ 23 + r * 2 ^ k / 2 ^ (size (r * 2 ^ k) - 24) ≡ k * 2 ^ 23 + r
  made_bits = ⊎_elim carried plain (eq-or-lt_of_le high)
    where
      plain : r < 2 ^ 24 → (size (r * 2 ^ k) - 24) * 2 ^ 23 + r * 2 ^ k / 2 ^ (size (r * 2 ^ k) - 24) ≡ k * 2 ^ 23 + r
      plain l = split_off (r * 2 ^ k) k r (rw (size_moved r k low l) (omega arith)) refl

      carried : r ≡ 2 ^ 24 → (size (r * 2 ^ k) - 24) * 2 ^ 23 + r * 2 ^ k / 2 ^ (size (r * 2 ^ k) - 24) ≡ k * 2 ^ 23 + r
      carried e =
          let d : r * 2 ^ k ≡ 2 ^ 23 * 2 ^ (1 + k) = ap (λ (x : ℕ). x * 2 ^ k) e ∙ sym (pow-add 2 24 k) ∙ ap (λ (j : ℕ). 2 ^ j) (let z : 24 + k ≡ 23 + (1 + k) = omega arith in z) ∙ pow-add 2 23 (1 + k) in
          let z : size (r * 2 ^ k) - 24 ≡ 1 + k = rw (d, size_moved (2 ^ 23) (1 + k) (le_refl (2 ^ 23)) (lit< tt)) (omega arith) in
          split_off (r * 2 ^ k) (1 + k) (2 ^ 23) z d ∙ (let w : (1 + k) * 2 ^ 23 + 2 ^ 23 ≡ k * 2 ^ 23 + r = omega arith in w)

  pub made : of_bits binary32 (k * 2 ^ 23 + r) ≡ odd 25 false r k 149
  made =
      let y : Float = odd 25 false r k 149 in
      ap (of_bits binary32) (sym (bits_of_value y (r * 2 ^ k) (odd_sign 25 false r k 149) ∙ made_bits))
      ∙ of_bits-to_bits binary32 y made_fits

-- ---- the count, from the bits

fields : (b : ℕ) → b < 2 ^ 31 → of_bits binary32 b ≡ of_fields binary32 false (b / 2 ^ 23) (b % 2 ^ 23)
unfolding of_bits
fields b h = rw (lt-leb (2 ^ 31) b h, mod-eq_of_lt h)

pub subnormal_value : (b : ℕ) → b < 2 ^ 31 → b / 2 ^ 23 ≡ 0 → HasValue (of_bits binary32 b) false b (2 ^ 149)
unfolding of_fields
subnormal_value b h z =
    let d : b % 2 ^ 23 ≡ b = omega arith in
    let p : of_bits binary32 b ≡ odd 24 false b 0 149 = fields b h ∙ rw (z, d) in
    rw p (rw mul-one at (odd_sign 24 false b 0 149))

pub normal_value : (b x : ℕ) → b < 0x7F80_0000 → b / 2 ^ 23 ≡ suc x → HasValue (of_bits binary32 b) false ((2 ^ 23 + b % 2 ^ 23) * 2 ^ x) (2 ^ 149)
unfolding of_fields
normal_value b x h f =
    let small : suc x ≡ 255 → ⊥ = λ (e : suc x ≡ 255). omega arith in
    let p : of_bits binary32 b ≡ odd 24 false (2 ^ 23 + b % 2 ^ 23) x 149 = fields b (omega arith) ∙ rw (f, ne_eqb (suc x) 255 small) in
    rw p (odd_sign 24 false (2 ^ 23 + b % 2 ^ 23) x 149)

-- ---- the root, from the count

pub no_count : (e : ℤ) (a : ℕ) → zero * up e * 2 ^ 149 ≡ a * down e → 0 < a → ⊥
no_count e a h p = lt_irrefl 0 (subst (λ (x : ℕ). 0 < x) (sym h ∙ ap (λ (x : ℕ). x * 2 ^ 149) (zero-mul (up e)) ∙ zero-mul (2 ^ 149)) (mul-pos p (down_pos e)))

pub root_of_value : (x : Float) (a : ℕ) → HasValue x false a (2 ^ 149) → 0 < a → sqrt_of x ≡ root_of (a * 2 ^ 149)
unfolding sqrt_of
root_of_value nan a h p = absurd h
root_of_value (inf s) a h p = absurd h
root_of_value (fin t zero e) a h p = absurd (no_count e a h.1 p)
root_of_value (fin t (suc m) e) a h p = rw (h.0, cut_twice (suc m) e a h.1)

-- an even number of digits moved out of the operand is half as many moved into the root
pub root_scaled : (n k : ℕ) → 2 ^ 46 ≤ n → n < 2 ^ 48 → root_of (n * (2 ^ k * 2 ^ k)) ≡ odd 25 false (nearest_root n) k 149
unfolding root_of
root_scaled n k long short = rw (half, mul-div_cancel n (mul-pos (pow_pos k) (pow_pos k)))
  where
    twice : n * (2 ^ k * 2 ^ k) ≡ n * 2 ^ (k + k)
    twice = ap (λ (x : ℕ). n * x) (sym (pow-add 2 k k))

    half : (size (n * (2 ^ k * 2 ^ k)) - 47) / 2 ≡ k
    half =
        ⊎_elim
        (λ (l : n / 2 ^ 47 ≡ 0). rw (twice, size_scaled 46 n (k + k) long (omega arith)) (omega arith))
        (λ (l : 0 < n / 2 ^ 47). rw (twice, size_scaled 47 n (k + k) (omega arith) short) (omega arith))
        (eq-zero-or-pos (n / 2 ^ 47))
