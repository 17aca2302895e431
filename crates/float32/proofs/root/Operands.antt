-- Which operand bits are, as `operand_of` has it: a zero, one below zero, +infinity, or one that is finite and above zero. A finite one is told by its count of the least value.
use Prim.Native.Nat.{ℕ, zero, suc, ◌+◌, ◌-◌, ◌*◌, ◌/◌, ◌%◌, ◌^◌, ◌<◌}
use native.Mathlib.Nat.{le_of_lt, lt_irrefl, mul-pos, eq-zero-or-pos}
use native.Mathlib.Omega.{arith}
use mathlib.Core.Path.{◌≡◌, refl}
use mathlib.Core.Bool.{true, false, cond}
use mathlib.Core.Logic.{◌⊎◌, inl, inr, ⊎_elim}
use lib.Dec.{eqb}
use lib.Pow.{pow_pos}
use lib.Ieee.{Float, nan, inf, fin, binary32, odd, of_bits, of_fields, to_bits}
use lib.Ieee.Exact.{HasValue, odd_sign}
use borrow.Author.Tests.{le-leb}
use Rattle.lemmas.proofs.Branch.{branch}
use Rattle.float32.specs.Steps.{operand_of}
use Rattle.std.specs.declared.ops.ControlFlow.TheVariants.{Break, Continue}
use Rattle.float32.proofs.root.Values.{no_count, subnormal_value, normal_value}

nan_of_value : (x : Float) (a : ℕ) → HasValue x true a (2 ^ 149) → 0 < a → operand_of x ≡ Break nan
unfolding operand_of
nan_of_value nan a h p = refl
nan_of_value (inf s) a h p = absurd h
nan_of_value (fin t zero e) a h p = absurd (no_count e a h.1 p)
nan_of_value (fin t (suc m) e) a h p = rw h.0

nan_of_fields : (f t : ℕ) → (0 < f) ⊎ (0 < t) → operand_of (of_fields binary32 true f t) ≡ Break nan
unfolding of_fields
nan_of_fields zero t p =
    let q : 0 < t = ⊎_elim (λ (w : 0 < 0). absurd (lt_irrefl 0 w)) (λ (w : 0 < t). w) p in
    nan_of_value (odd 24 true t 0 149) (t * 2 ^ 0) (odd_sign 24 true t 0 149) (mul-pos q (pow_pos 0))
nan_of_fields (suc x) t p =
    branch (λ (y : Float). operand_of y ≡ Break nan) (eqb (suc x) 255) (cond (eqb t 0) (inf true) nan) (odd 24 true (2 ^ 23 + t) x 149)
    (λ (e : eqb (suc x) 255 ≡ true). branch (λ (y : Float). operand_of y ≡ Break nan) (eqb t 0) (inf true) nan (λ (z : eqb t 0 ≡ true). unfold operand_of in refl) (λ (z : eqb t 0 ≡ false). unfold operand_of in refl))
    (λ (e : eqb (suc x) 255 ≡ false). nan_of_value (odd 24 true (2 ^ 23 + t) x 149) ((2 ^ 23 + t) * 2 ^ x) (odd_sign 24 true (2 ^ 23 + t) x 149) (mul-pos (omega arith) (pow_pos x)))

pub below_zero : (b : ℕ) → 2 ^ 31 < b → b < 2 ^ 32 → operand_of (of_bits binary32 b) ≡ Break nan
unfolding of_bits
below_zero b h k =
    let some : (0 < b % 2 ^ 31 / 2 ^ 23) ⊎ (0 < b % 2 ^ 23) = nonzero (b % 2 ^ 31 / 2 ^ 23) (b % 2 ^ 23) (omega arith) in
    rw (le-leb (2 ^ 31) b (le_of_lt h)) (nan_of_fields (b % 2 ^ 31 / 2 ^ 23) (b % 2 ^ 23) some)
  where
    nonzero : (x y : ℕ) → 0 < x + y → (0 < x) ⊎ (0 < y)
    nonzero zero y p = inr (omega arith)
    nonzero (suc x) y p = inl (omega arith)

pub infinity : (b : ℕ) → b ≡ 0x7F80_0000 → operand_of (of_bits binary32 b) ≡ Break (of_bits binary32 b)
infinity b e = rw e (unfold operand_of of_bits in refl)

pub either_zero : (b : ℕ) → b % 2 ^ 31 ≡ 0 → b < 2 ^ 32 → operand_of (of_bits binary32 b) ≡ Break (of_bits binary32 b)
either_zero b z h = ⊎_elim positive negative (either b z h)
  where
    either : (n : ℕ) → n % 2 ^ 31 ≡ 0 → n < 2 ^ 32 → (n ≡ 0) ⊎ (n ≡ 2 ^ 31)
    either zero e l = inl refl
    either (suc n) e l = inr (omega arith)

    positive : b ≡ 0 → operand_of (of_bits binary32 b) ≡ Break (of_bits binary32 b)
    positive e = rw e (unfold operand_of of_bits in refl)

    negative : b ≡ 2 ^ 31 → operand_of (of_bits binary32 b) ≡ Break (of_bits binary32 b)
    negative e = rw e (unfold operand_of of_bits in refl)

positive_of_value : (x : Float) (a : ℕ) → HasValue x false a (2 ^ 149) → 0 < a → operand_of x ≡ Continue (to_bits binary32 x)
unfolding operand_of
positive_of_value nan a h p = absurd h
positive_of_value (inf s) a h p = absurd h
positive_of_value (fin t zero e) a h p = absurd (no_count e a h.1 p)
positive_of_value (fin t (suc m) e) a h p = rw h.0

pub above_zero : (b : ℕ) → 0 < b → b < 0x7F80_0000 → operand_of (of_bits binary32 b) ≡ Continue (to_bits binary32 (of_bits binary32 b))
above_zero b p h = ⊎_elim subnormal normal (eq-zero-or-pos (b / 2 ^ 23))
  where
    subnormal : b / 2 ^ 23 ≡ 0 → operand_of (of_bits binary32 b) ≡ Continue (to_bits binary32 (of_bits binary32 b))
    subnormal z = positive_of_value (of_bits binary32 b) b (subnormal_value b (omega arith) z) p

    normal : 0 < b / 2 ^ 23 → operand_of (of_bits binary32 b) ≡ Continue (to_bits binary32 (of_bits binary32 b))
    normal f =
        let field : b / 2 ^ 23 ≡ suc (b / 2 ^ 23 - 1) = omega arith in
        positive_of_value (of_bits binary32 b) ((2 ^ 23 + b % 2 ^ 23) * 2 ^ (b / 2 ^ 23 - 1)) (normal_value b (b / 2 ^ 23 - 1) h field) (mul-pos (omega arith) (pow_pos (b / 2 ^ 23 - 1)))
