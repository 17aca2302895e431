-- x is the float of its bits, and the bits say which operand it is.
use Rattle.std.proofs.Common.{arith, ◌≡◌, ◌≤◌, ◌<◌, ◌%◌, ◌^◌, ℕ, ap, sym, subst, refl, ◌∙◌}
use native.Mathlib.Nat.{le_of_suc-le-suc, lt_of_not-le}
use lib.Dec.{T}
use lib.Ieee.{Float, binary32, fits, is_nan, div, of_bits, to_bits}
use lib.Ieee.Bits.{of_bits-to_bits, to_bits-lt}
use Rattle.std.specs.declared.ops.ControlFlow.TheVariants.{Break, Continue}
use Rattle.float32.specs.Steps.{operand_of}
use Rattle.float32.proofs.Nan.{nan_is, above_is_nan}
use Rattle.float32.proofs.root.Operands.{either_zero, below_zero, infinity, above_zero}
use Rattle.float32.proofs.root.special.Goals as goal
use Rattle.float32.proofs.root.special.Goals.{After-bits_of-b}

-- x is an f32 value
value : (c : After-bits_of-b) → T (fits binary32 c.args.x)
value c = subst T (sym c.well_formed.0.1) tt

-- x is the float with the bits b
is-of-bits : (c : After-bits_of-b) → of_bits binary32 c.bits_of-b.result ≡ c.args.x
is-of-bits c = ap (of_bits binary32) c.bits_of-b.ensures ∙ of_bits-to_bits binary32 c.args.x (value c)

in-range : (c : After-bits_of-b) → c.bits_of-b.result < 2 ^ 32
in-range c = subst (λ (n : ℕ). n < 2 ^ 32) (sym c.bits_of-b.ensures) (to_bits-lt binary32 c.args.x (value c))

at-most-infinity : (c : After-bits_of-b) → c.bits_of-b.result % 2 ^ 31 ≤ 0x7F80_0000
at-most-infinity c =
    le_of_suc-le-suc
    (lt_of_not-le
    (λ (g : 0x7F80_0001 ≤ c.bits_of-b.result % 2 ^ 31).
    subst T (ap is_nan (sym (above_is_nan c.bits_of-b.result g) ∙ is-of-bits c) ∙ sym c.is_nan.ensures.value ∙ c.if-is_nan.false) (unfold is_nan in tt)))

pub returns-then-is_nan : goal.returns-then-is_nan
returns-then-is_nan c = (subst (λ (x : Float). Break x ≡ operand_of x) (sym (nan_is c.args.x (sym c.is_nan.ensures.value ∙ c.if-is_nan.true))) (unfold operand_of in refl), tt)

pub returns-then-b-eq0 : goal.returns-then-b-eq0
returns-then-b-eq0 c =
    let at = (goal.at.returns-then-b-eq0 c).After-bits_of-b in
    (subst (λ (x : Float). Break x ≡ operand_of x) (is-of-bits at) (sym (either_zero c.bits_of-b.result c.if-b-eq0.true (in-range at))), tt)

pub returns-then-b-gt2147483648 : goal.returns-then-b-gt2147483648
unfolding div of_bits
returns-then-b-gt2147483648 c =
    let at = (goal.at.returns-then-b-gt2147483648 c).After-bits_of-b in
    (sym (ap operand_of (sym (is-of-bits at)) ∙ below_zero c.bits_of-b.result c.if-b-gt2147483648.true (in-range at)), tt)

pub returns-then-b-eq2139095040 : goal.returns-then-b-eq2139095040
returns-then-b-eq2139095040 c =
    let at = (goal.at.returns-then-b-eq2139095040 c).After-bits_of-b in
    (subst (λ (x : Float). Break x ≡ operand_of x) (is-of-bits at) (sym (infinity c.bits_of-b.result c.if-b-eq2139095040.true)), tt)

pub returns : goal.returns
returns c =
    let at = (goal.at.returns c).After-bits_of-b in
    let b = c.bits_of-b.result in
    let some : 0 < b = omega (arith, c.if-b-eq0.false) in
    let finite : b < 0x7F80_0000 = omega (arith, c.if-b-eq2139095040.false, c.if-b-gt2147483648.false, c.if-b-eq0.false, at-most-infinity at) in (
      sym (subst (λ (x : Float). operand_of x ≡ Continue (to_bits binary32 x)) (is-of-bits at) (above_zero b some finite) ∙ ap Continue (sym c.bits_of-b.ensures)),
      (some, finite),
    )
