-- One exact product: the whole number, and the last digit of a turn with the sign.
use Rattle.std.proofs.Common.{◌∙◌, ap, sym, true, false, Bool, ◌*◌, ◌^◌}
use lib.IntN.{pos}
use lib.Ieee.{binary32, mul, of_int, round, nan_bits}
use Rattle.float32.proofs.Grid.{unit}
use Rattle.float32.proofs.remainder.Whole.{scaled_down, last_digit_is, negative_last_digit_is}
use Rattle.float32.proofs.remainder.moved_down.Goals as goal

pub float_from_bits-result : goal.float_from_bits-result
unfolding nan_bits
float_from_bits-result c = tt

pub float_from_bits-result-2 : goal.float_from_bits-result-2
unfolding nan_bits
float_from_bits-result-2 c = tt

pub returns-then-negative : goal.returns-then-negative
returns-then-negative c =
    ap (mul binary32 (of_int binary32 (pos c.args.r))) negative_last_digit_is
    ∙ scaled_down c.args.r true c.requires
    ∙ ap (λ (s : Bool). round binary32 s (c.args.r * 2 ^ 128) unit) (sym c.if-negative.true)

pub returns : goal.returns
returns c =
    ap (mul binary32 (of_int binary32 (pos c.args.r))) last_digit_is
    ∙ scaled_down c.args.r false c.requires
    ∙ ap (λ (s : Bool). round binary32 s (c.args.r * 2 ^ 128) unit) (sym c.if-negative.false)
