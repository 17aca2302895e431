-- One bit of a word: `with_bit` by an or and an and, that it stays in its width, and which bits it, an or and an and have. Each law is once over the bit.
use Prim.Native.Nat.{ℕ, zero, suc, ◌+◌, ◌-◌, ◌*◌, ◌/◌, ◌%◌, ◌^◌, ◌<◌, ◌≤◌, max, min}
use native.Mathlib.Nat.{one-mul, pow-suc, div-one, div-div-eq-div-mul, mod-eq_of_lt, pow-succ', le_of_suc-le-suc, max-le, min-le_left, zero-div}
use native.Mathlib.Omega.{arith}
use mathlib.Core.Path.{◌≡◌, refl, sym, ap, ap₂, ◌∙◌}
use mathlib.Core.Bool.{Bool, true, false, cond, ◌&&◌, ◌||◌}
use lib.Dec.{lit<, eqb, eqb-zero-suc, eqb-suc-zero, eqb-suc-suc}
use lib.Bits.{bit_or, bit_and, or_step, and_step, or_zero_r}
use lib.Pow.{pow_pos, shl_exact}
use Rattle.std.proofs.lemmas.Nat.{and_mask, pow_below}
use mir.Val.{bool_byte}
use Rattle.words.specs.Bits.{has_bit, with_bit}

pub flag_is : (b : Bool) → bool_byte b ≡ cond b 1 0
flag_is true = refl
flag_is false = refl

halves : (w i : ℕ) → w / 2 ^ suc i ≡ w / 2 / 2 ^ i
halves w i = ap (λ (n : ℕ). w / n) (pow-succ' 2 i) ∙ sym (div-div-eq-div-mul w 2 (2 ^ i))

-- the code's `1 << i` at 32 bits
pub one_shl : (i : ℕ) → i < 32 → (1 * 2 ^ i) % 2 ^ 32 ≡ 2 ^ i
one_shl i h = shl_exact {a = 1} 1 i 32 (lit< tt) (omega arith) ∙ one-mul (2 ^ i)

-- `1 << i` at 8 bits
pub bit_shl : (i : ℕ) → i < 8 → (1 * 2 ^ i) % 256 ≡ 2 ^ i
bit_shl i h = shl_exact {a = 1} 1 i 8 (lit< tt) (omega arith) ∙ one-mul (2 ^ i)

-- the code's two forms
pub set_bit : (w i : ℕ) → bit_or w (2 ^ i) ≡ with_bit w i true
unfolding with_bit
set_bit w zero = rw (or_step w 1, or_zero_r (w / 2)) (omega arith)
set_bit w (suc i) =
    let p : 2 ^ suc i / 2 ≡ 2 ^ i = omega (arith, pow-suc 2 i) in
    let q : 2 ^ suc i % 2 ≡ 0 = omega (arith, pow-suc 2 i) in
    rw (or_step w (2 ^ suc i), p, q, set_bit (w / 2) i) (omega arith)

pub clear_bit : (n w i : ℕ) → i < n → w < 2 ^ n → bit_and w (2 ^ n - 1 - 2 ^ i) ≡ with_bit w i false
unfolding with_bit
clear_bit zero w i l h = absurd (omega arith)
clear_bit (suc n) w zero l h =
    let k : w / 2 < 2 ^ n = omega (arith, pow-suc 2 n) in
    let p : (2 ^ suc n - 1 - 1) / 2 ≡ 2 ^ n - 1 = omega (arith, pow-suc 2 n) in
    let q : (2 ^ suc n - 1 - 1) % 2 ≡ 0 = omega (arith, pow-suc 2 n, pow_pos n) in
    rw (and_step w (2 ^ suc n - 1 - 1), p, q, and_mask (w / 2) n, mod-eq_of_lt k) (omega arith)
clear_bit (suc n) w (suc i) l h =
    let k : w / 2 < 2 ^ n = omega (arith, pow-suc 2 n) in
    let f : 2 ^ i < 2 ^ n = pow_below i n (le_of_suc-le-suc l) in
    let p : (2 ^ suc n - 1 - 2 ^ suc i) / 2 ≡ 2 ^ n - 1 - 2 ^ i = omega (arith, pow-suc 2 n, pow-suc 2 i) in
    let q : (2 ^ suc n - 1 - 2 ^ suc i) % 2 ≡ 1 = omega (arith, pow-suc 2 n, pow-suc 2 i) in
    rw (and_step w (2 ^ suc n - 1 - 2 ^ suc i), p, q, clear_bit n (w / 2) i (le_of_suc-le-suc l) k) (omega arith)

pub flag_small_cond : (b : Bool) → cond b 1 0 ≤ 1
flag_small_cond true = omega arith
flag_small_cond false = omega arith

pub with_bit_lt : (n w i : ℕ) (b : Bool) → i < n → w < 2 ^ n → with_bit w i b < 2 ^ n
unfolding with_bit
with_bit_lt zero w i b l h = absurd (omega arith)
with_bit_lt (suc n) w zero b l h = omega (arith, flag_small_cond b, pow-suc 2 n)
with_bit_lt (suc n) w (suc i) b l h =
    let k : w / 2 < 2 ^ n = omega (arith, pow-suc 2 n) in
    omega (arith, with_bit_lt n (w / 2) i b (le_of_suc-le-suc l) k, pow-suc 2 n)

-- ---- which bits a word has

pub has_bit_suc : (w i : ℕ) → has_bit w (suc i) ≡ has_bit (w / 2) i
unfolding has_bit
has_bit_suc w i = ap (λ (n : ℕ). eqb (n % 2) 1) (halves w i)

has_bit_zero : (w : ℕ) → has_bit w zero ≡ eqb (w % 2) 1
unfolding has_bit
has_bit_zero w = ap (λ (n : ℕ). eqb (n % 2) 1) (div-one w)

pub has_with_bit : (w i j : ℕ) (b : Bool) → has_bit (with_bit w i b) j ≡ cond (eqb i j) b (has_bit w j)
unfolding with_bit
has_with_bit w zero zero true = has_bit_zero (w / 2 * 2 + 1) ∙ ap (λ (n : ℕ). eqb n 1) (let p : (w / 2 * 2 + 1) % 2 ≡ 1 = omega arith in p)
has_with_bit w zero zero false = has_bit_zero (w / 2 * 2 + 0) ∙ ap (λ (n : ℕ). eqb n 1) (let p : (w / 2 * 2 + 0) % 2 ≡ 0 = omega arith in p)
has_with_bit w zero (suc j) b =
    let h : (w / 2 * 2 + cond b 1 0) / 2 ≡ w / 2 = omega (arith, flag_small_cond b) in
    has_bit_suc (w / 2 * 2 + cond b 1 0) j
    ∙ ap (λ (n : ℕ). has_bit n j) h
    ∙ sym (has_bit_suc w j)
    ∙ ap (λ (t : Bool). cond t b (has_bit w (suc j))) (sym (eqb-zero-suc j))
has_with_bit w (suc i) zero b =
    let h : (with_bit (w / 2) i b * 2 + w % 2) % 2 ≡ w % 2 = omega arith in
    has_bit_zero (with_bit (w / 2) i b * 2 + w % 2)
    ∙ ap (λ (n : ℕ). eqb n 1) h
    ∙ sym (has_bit_zero w)
    ∙ ap (λ (t : Bool). cond t b (has_bit w zero)) (sym (eqb-suc-zero i))
has_with_bit w (suc i) (suc j) b =
    let h : (with_bit (w / 2) i b * 2 + w % 2) / 2 ≡ with_bit (w / 2) i b = omega arith in
    has_bit_suc (with_bit (w / 2) i b * 2 + w % 2) j
    ∙ ap (λ (n : ℕ). has_bit n j) h
    ∙ has_with_bit (w / 2) i j b
    ∙ ap₂ (λ (t u : Bool). cond t b u) (sym (eqb-suc-suc i j)) (sym (has_bit_suc w j))

-- an or has the bits of either word
or_digit : (x y : ℕ) → x < 2 → y < 2 → eqb (max x y) 1 ≡ (eqb x 1 || eqb y 1)
or_digit zero zero p q = refl
or_digit zero (suc zero) p q = refl
or_digit (suc zero) zero p q = refl
or_digit (suc zero) (suc zero) p q = refl
or_digit zero (suc (suc y)) p q = absurd (omega arith)
or_digit (suc zero) (suc (suc y)) p q = absurd (omega arith)
or_digit (suc (suc x)) zero p q = absurd (omega arith)
or_digit (suc (suc x)) (suc zero) p q = absurd (omega arith)
or_digit (suc (suc x)) (suc (suc y)) p q = absurd (omega arith)

pub has_or : (a b i : ℕ) → has_bit (bit_or a b) i ≡ (has_bit a i || has_bit b i)
has_or a b zero =
    let d : (bit_or (a / 2) (b / 2) * 2 + max (a % 2) (b % 2)) % 2 ≡ max (a % 2) (b % 2) = omega (arith, max-le {a = a % 2} {b = b % 2} {k = 1} (omega arith) (omega arith)) in
    has_bit_zero (bit_or a b)
    ∙ ap (λ (n : ℕ). eqb n 1) (ap (λ (n : ℕ). n % 2) (or_step a b) ∙ d)
    ∙ or_digit (a % 2) (b % 2) (omega arith) (omega arith)
    ∙ ap₂ (λ (t u : Bool). t || u) (sym (has_bit_zero a)) (sym (has_bit_zero b))
has_or a b (suc i) =
    let d : (bit_or (a / 2) (b / 2) * 2 + max (a % 2) (b % 2)) / 2 ≡ bit_or (a / 2) (b / 2) = omega (arith, max-le {a = a % 2} {b = b % 2} {k = 1} (omega arith) (omega arith)) in
    has_bit_suc (bit_or a b) i
    ∙ ap (λ (n : ℕ). has_bit n i) (ap (λ (n : ℕ). n / 2) (or_step a b) ∙ d)
    ∙ has_or (a / 2) (b / 2) i
    ∙ ap₂ (λ (t u : Bool). t || u) (sym (has_bit_suc a i)) (sym (has_bit_suc b i))

-- an and has the bits of both words
and_digit : (x y : ℕ) → x < 2 → y < 2 → eqb (min x y) 1 ≡ (eqb x 1 && eqb y 1)
and_digit zero zero p q = refl
and_digit zero (suc zero) p q = refl
and_digit (suc zero) zero p q = refl
and_digit (suc zero) (suc zero) p q = refl
and_digit zero (suc (suc y)) p q = absurd (omega arith)
and_digit (suc zero) (suc (suc y)) p q = absurd (omega arith)
and_digit (suc (suc x)) zero p q = absurd (omega arith)
and_digit (suc (suc x)) (suc zero) p q = absurd (omega arith)
and_digit (suc (suc x)) (suc (suc y)) p q = absurd (omega arith)

pub has_and : (a b i : ℕ) → has_bit (bit_and a b) i ≡ (has_bit a i && has_bit b i)
has_and a b zero =
    let d : (bit_and (a / 2) (b / 2) * 2 + min (a % 2) (b % 2)) % 2 ≡ min (a % 2) (b % 2) = omega (arith, min-le_left (a % 2) (b % 2)) in
    has_bit_zero (bit_and a b)
    ∙ ap (λ (n : ℕ). eqb n 1) (ap (λ (n : ℕ). n % 2) (and_step a b) ∙ d)
    ∙ and_digit (a % 2) (b % 2) (omega arith) (omega arith)
    ∙ ap₂ (λ (t u : Bool). t && u) (sym (has_bit_zero a)) (sym (has_bit_zero b))
has_and a b (suc i) =
    let d : (bit_and (a / 2) (b / 2) * 2 + min (a % 2) (b % 2)) / 2 ≡ bit_and (a / 2) (b / 2) = omega (arith, min-le_left (a % 2) (b % 2)) in
    has_bit_suc (bit_and a b) i
    ∙ ap (λ (n : ℕ). has_bit n i) (ap (λ (n : ℕ). n / 2) (and_step a b) ∙ d)
    ∙ has_and (a / 2) (b / 2) i
    ∙ ap₂ (λ (t u : Bool). t && u) (sym (has_bit_suc a i)) (sym (has_bit_suc b i))

pub has_none : (i : ℕ) → has_bit 0 i ≡ false
unfolding has_bit
has_none i = rw (zero-div (2 ^ i))
