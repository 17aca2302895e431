-- Products with powers of two.
use Prim.Native.Nat.{ℕ, zero, suc, ◌+◌, ◌-◌, ◌*◌, ◌/◌, ◌%◌, ◌^◌, ◌≤◌, ◌<◌}
use native.Mathlib.Nat.{mul-one, one-mul, mul_assoc, mul_right_comm, mul-pos, lt_of_lt_of_le}
use native.Mathlib.Omega.{arith}
use mathlib.Core.Path.{◌≡◌, refl, sym, ap, ap₂, ◌∙◌}
use mathlib.Core.Bool.{Bool, true, false}
use lib.Dec.{T, leb, eqb, lit<}
use lib.IntN.{ℤ, pos, negsuc}
use lib.Pow.{pow-add, pow_mono, shl_lt}
use lib.Ieee.{Float, nan, inf, fin, binary32, up, down, minus, round, mul, odd, of_bits, of_fields}
use lib.Ieee.Fits.{down_pos}
use lib.Ieee.Exact.{HasValue, round_exact}
use lib.Ieee.Scale.{finite}
use borrow.Author.Tests.{leb-true, leb-false, le-leb, lt-leb, ne_eqb}
use Rattle.d3d9_types.specs.Numbers.{float_fits}
use Rattle.float32.specs.Root.{in_units}
use Rattle.float32.proofs.Units.{counted}
use Rattle.float32.proofs.Arithmetic.{unlike_false, mul_is}

-- a difference depends on nothing else
pub minus_same : (a b c d : ℕ) → a + d ≡ c + b → minus a b ≡ minus c d
minus_same a b c d e = go (leb b a) refl
  where
    go : (t : Bool) → leb b a ≡ t → minus a b ≡ minus c d
    go true q =
        let h : b ≤ a = leb-true b a q in
        let g : a - b ≡ c - d = omega arith in
        rw (q, le-leb d c (omega arith)) (ap pos g)
    go false q =
        let h : a < b = leb-false b a q in
        let g : b - suc a ≡ d - suc c = omega arith in
        rw (q, lt-leb d c (omega arith)) (ap negsuc g)

-- the product of a value a / c with 2 ^ e
pub times_value : (y : Float) (s : Bool) (a c : ℕ) (e : ℤ) → 0 < c → HasValue y s a c → mul binary32 y (fin false 1 e) ≡ round binary32 s (a * up e) (c * down e)
times_value y s a c e C h =
    mul_is y (fin false 1 e) s false a (up e) c (down e) C (down_pos e) h (refl, ap (λ (n : ℕ). n * down e) (one-mul (up e)))
    ∙ ap (λ (b : Bool). round binary32 b (a * up e) (c * down e)) (unlike_false s)

pub minus_pos : (a b : ℕ) → b ≤ a → minus a b ≡ pos (a - b)
minus_pos a b h = rw (le-leb b a h)

-- a subnormal float times 2 ^ 127 is exact, so that a second factor rounds once
times_twice_fin : (s : Bool) (m : ℕ) (e : ℤ) (j : ℕ) → float_fits (fin s m e) → in_units (fin s m e) < 2 ^ 23
    → mul binary32 (mul binary32 (fin s m e) (fin false 1 (pos 127))) (fin false 1 (pos j)) ≡ mul binary32 (fin s m e) (fin false 1 (pos (127 + j)))
times_twice_fin s m e j h l =
    let x : Float = fin s m e in
    let n : ℕ = in_units x in
    let value : m * up e * 2 ^ 149 ≡ n * down e = (counted (fin s m e) h tt).value.1 in
    let first : mul binary32 x (fin false 1 (pos 127)) ≡ round binary32 s (m * up e * 2 ^ 127) (down e * 1) = times_value x s (m * up e) (down e) (pos 127) (down_pos e) (refl, refl) in
    let exact : HasValue (round binary32 s (m * up e * 2 ^ 127) (down e * 1)) s (m * up e * 2 ^ 127) (down e * 1) =
    round_exact binary32 s (m * up e * 2 ^ 127) (down e * 1) n 127 (mul-pos (down_pos e) (lit< tt)) (lt_of_lt_of_le l (pow_mono {i = 23} {j = 24} (omega arith))) (lt_of_lt_of_le (shl_lt 23 127 l) (pow_mono {i = 150} {j = 277} (omega arith)))
    (mul_right_comm (m * up e) (2 ^ 127) (2 ^ 149) ∙ ap (λ (z : ℕ). z * 2 ^ 127) value ∙ mul_right_comm n (down e) (2 ^ 127) ∙ ap (λ (z : ℕ). n * 2 ^ 127 * z) (sym (mul-one (down e)))) in
    rw first
    (times_value (round binary32 s (m * up e * 2 ^ 127) (down e * 1)) s (m * up e * 2 ^ 127) (down e * 1) (pos j) (mul-pos (down_pos e) (lit< tt)) exact
    ∙ ap₂ (round binary32 s) (mul_assoc (m * up e) (2 ^ 127) (2 ^ j) ∙ ap (λ (z : ℕ). m * up e * z) (sym (pow-add 2 127 j))) (mul-one (down e * 1))
    ∙ sym (times_value x s (m * up e) (down e) (pos (127 + j)) (down_pos e) (refl, refl)))

pub times_twice : (x : Float) (j : ℕ) → float_fits x → T (finite x) → in_units x < 2 ^ 23
    → mul binary32 (mul binary32 x (fin false 1 (pos 127))) (fin false 1 (pos j)) ≡ mul binary32 x (fin false 1 (pos (127 + j)))
times_twice nan j h f l = absurd f
times_twice (inf s) j h f l = absurd f
times_twice (fin s m e) j h f l = times_twice_fin s m e j h l

-- the float with the exponent's field n and no further digits
pub power_bits : (n : ℕ) → 0 < n → n < 255 → of_bits binary32 (n * 2 ^ 23) ≡ fin false 1 (minus n 127)
unfolding of_bits of_fields odd
power_bits zero p h = absurd (omega arith)
power_bits (suc x) p h =
    let b : ℕ = suc x * 2 ^ 23 in
    let unsigned : leb (2 ^ 31) b ≡ false = lt-leb (2 ^ 31) b (omega arith) in
    let field : b % 2 ^ 31 / 2 ^ 23 ≡ suc x = omega arith in
    let digits : b % 2 ^ 23 ≡ 0 = omega arith in
    let finite : eqb (suc x) 255 ≡ false = ne_eqb (suc x) 255 (λ (e : suc x ≡ 255). omega arith) in
    rw (unsigned, field, digits, finite) (ap (fin false 1) (minus_same (x + 23) 149 (suc x) 127 (omega arith)))
