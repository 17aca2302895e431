-- The bits of y say which case it is: no number, less than a turn (`low_field`), or more digits to take turns from (`high_field`).
use Rattle.std.proofs.Common.{◌≡◌, ◌∙◌, ap, sym, subst, arith, ℕ, ◌*◌, ◌^◌}
use lib.Dec.{T}
use lib.Ieee.{Float, nan, binary32, div, fits, of_bits, rem, round}
use lib.Ieee.Bits.{of_bits-to_bits}
use Rattle.float32.specs.Cosine.{turn}
use Rattle.float32.proofs.Grid.{unit}
use Rattle.float32.proofs.remainder.Whole.{sign_bit, special_bits, low_field, high_field}
use Rattle.float32.proofs.remainder.of_turn.Goals as goal
use Rattle.float32.proofs.remainder.of_turn.Goals.{After-bits_of-b}

fit : (c : After-bits_of-b) → T (fits binary32 c.args.y)
fit c = subst T (sym c.well_formed.0.1) tt

own : (c : After-bits_of-b) → of_bits binary32 c.bits_of-b.result ≡ c.args.y
own c = ap (of_bits binary32) c.bits_of-b.ensures ∙ of_bits-to_bits binary32 c.args.y (fit c)

pub returns-then-x-eq255 : goal.returns-then-x-eq255
unfolding div of_bits
returns-then-x-eq255 c =
    let at = (goal.at.returns-then-x-eq255 c).After-bits_of-b in
    sym (subst (λ (x : Float). rem binary32 x turn ≡ nan) (own at) (special_bits c.bits_of-b.result c.if-x-eq255.true))

pub returns-then-x-lt129 : goal.returns-then-x-lt129
returns-then-x-lt129 c =
    let at = (goal.at.returns-then-x-lt129 c).After-bits_of-b in
    sym (low_field c.bits_of-b.result c.args.y (fit at) (own at) c.if-x-lt129.true)

pub returns : goal.returns
returns c =
    let at = (goal.at.returns c).After-bits_of-b in
    c.moved_down.ensures
    ∙ ap (λ (n : ℕ). round binary32 (sign_bit c.bits_of-b.result) (n * 2 ^ 128) unit) c.moved_up-r.ensures
    ∙ sym (high_field c.bits_of-b.result c.args.y (own at) c.if-x-lt129.false (omega arith))
