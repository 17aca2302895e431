-- The significand of 24 digits and the power of two are the operand's count of the least value, times 2 ^ 149. A subnormal's digits are counted by its leading zeros.
use Prim.Native.Nat.{ℕ, suc, ◌+◌, ◌-◌, ◌*◌, ◌/◌, ◌%◌, ◌^◌, ◌≤◌, ◌<◌}
use native.Mathlib.Nat.{mul_assoc, lt_of_le_of_lt, lt_of_lt_of_le, le_trans, le_of_eq, mul-le-mul_right, mod-eq_of_lt, mul-lt-mul_of_pos_right, lt_of_not-le, lt_irrefl}
use native.Mathlib.Omega.{arith}
use mathlib.Core.Path.{◌≡◌, sym, ap, ◌∙◌}
use lib.Count.{count_leading_zeros, leading_top}
use lib.Dec.{lit<}
use lib.Pow.{pow-add, pow_mono, pow_pos}
use lib.Ieee.{binary32, of_bits}
use Rattle.float32.specs.Steps.{FieldsOf}
use Rattle.float32.proofs.root.Values.{subnormal_value, normal_value}
use Rattle.float32.proofs.root.Laws.{units_of_value}
use Rattle.float32.proofs.root.fields_of.Goals as goal

-- how far a number of fewer than 24 digits is moved, and where to
record Moved (b : ℕ) : Type 0 where
  pub enough : 9 ≤ count_leading_zeros 32 b
  pub few : count_leading_zeros 32 b - 8 ≤ 23
  pub low : 2 ^ 23 ≤ b * 2 ^ (count_leading_zeros 32 b - 8)
  pub high : b * 2 ^ (count_leading_zeros 32 b - 8) < 2 ^ 24

moved : (b : ℕ) → 0 < b → b < 2 ^ 23 → Moved b
moved b p h =
    let l = leading_top 32 b p (lt_of_le_of_lt (omega arith) (lit< {m = 2 ^ 23} tt)) in
    let j : ℕ = l.0 in
    let short : j < 23 = lt_of_not-le (λ (g : 23 ≤ j). lt_irrefl b (lt_of_lt_of_le h (le_trans (pow_mono g) l.2))) in
    let sum = l.1 in
    let z : ℕ = count_leading_zeros 32 b - 8 in
    let up : j + z ≡ 23 = omega arith in
    let up' : suc j + z ≡ 24 = omega arith in
    record {
      enough = omega arith;
      few = omega arith;
      low = le_trans (le_of_eq (ap (λ (i : ℕ). 2 ^ i) (sym up) ∙ pow-add 2 j z)) (mul-le-mul_right (2 ^ z) l.2);
      high = lt_of_lt_of_le (mul-lt-mul_of_pos_right l.3 (pow_pos z)) (le_of_eq (sym (pow-add 2 (suc j) z) ∙ ap (λ (i : ℕ). 2 ^ i) up'));
    }

-- a power of two taken from the one factor and given to the other
given : (q x y s : ℕ) → x + y ≡ s → q * 2 ^ x * 2 ^ y ≡ q * 2 ^ s
given q x y s e = mul_assoc q (2 ^ x) (2 ^ y) ∙ ap (λ (n : ℕ). q * n) (sym (pow-add 2 x y) ∙ ap (λ (i : ℕ). 2 ^ i) e)

-- a subnormal moved up by z to 24 digits, as the code's `b << z` has it
subnormal : (b z : ℕ) → b / 2 ^ 23 ≡ 0 → z ≤ 23 → 2 ^ 23 ≤ b * 2 ^ z → b * 2 ^ z < 2 ^ 24 → FieldsOf (of_bits binary32 b) (record { significand = (b * 2 ^ z) % 2 ^ 32; exponent = 149 - z })
subnormal b z field few low high =
    let kept : (b * 2 ^ z) % 2 ^ 32 ≡ b * 2 ^ z = mod-eq_of_lt (lt_of_lt_of_le high (omega arith)) in
    let sum : z + (149 - z) ≡ 149 = omega arith in
    record {
      value =
          ap (λ (a : ℕ). a * 2 ^ 149) (units_of_value (of_bits binary32 b) b (subnormal_value b (omega arith) field))
          ∙ sym (ap (λ (q : ℕ). q * 2 ^ (149 - z)) kept ∙ given b z (149 - z) 149 sum);
      low = rw kept low;
      high = rw kept high;
      least = omega arith;
      most = omega arith;
    }

pub overflow_sub-z : goal.overflow_sub-z
overflow_sub-z c = omega (arith, (moved c.args.b c.requires.0 (omega (arith, c.if-field-eq0.true))).enough)

pub overflow_shl-result : goal.overflow_shl-result
overflow_shl-result c = omega (arith, (moved c.args.b c.requires.0 (omega (arith, c.if-field-eq0.true))).few)

pub overflow_sub-result : goal.overflow_sub-result
overflow_sub-result c = omega (arith, (moved c.args.b c.requires.0 (omega (arith, c.if-field-eq0.true))).few)

pub returns-then-field-eq0 : goal.returns-then-field-eq0
returns-then-field-eq0 c =
    let m = moved c.args.b c.requires.0 (omega (arith, c.if-field-eq0.true)) in
    subnormal c.args.b _ c.if-field-eq0.true (omega (arith, m.few)) m.low m.high

pub returns : goal.returns
returns c =
    let b = c.args.b in
    let f : ℕ = b / 2 ^ 23 in
    let q : ℕ = 2 ^ 23 + b % 2 ^ 23 in
    let field : f ≡ suc (f - 1) = omega (arith, c.if-field-eq0.false) in
    let sum : f - 1 + 149 ≡ f + 148 = omega arith in
    record {
      value =
          ap (λ (a : ℕ). a * 2 ^ 149) (units_of_value (of_bits binary32 b) (q * 2 ^ (f - 1)) (normal_value b (f - 1) c.requires.1 field))
          ∙ given q (f - 1) 149 (f + 148) sum;
      low = omega arith;
      high = omega arith;
      least = omega arith;
      most = omega (arith, c.requires.1);
    }
