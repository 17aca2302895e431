-- A field above 0 with no further digits is a power of two (`power_bits`), and so is the pattern that stands for the field 0.
use Rattle.std.proofs.Common.{arith}
use lib.Ieee.{nan_bits, of_bits}
use Rattle.std.proofs.lemmas.Float.{not_nan_f32_bits}
use Rattle.directions.specs.Magnitude.{power_of_two}
use Rattle.directions.proofs.Power.{power_bits}
use Rattle.directions.proofs.scale.power_of_two.Goals as goal

pub float_from_bits-result : goal.float_from_bits-result
unfolding nan_bits
float_from_bits-result c = tt

pub returns-then-n-eq0 : goal.returns-then-n-eq0
unfolding of_bits power_of_two
returns-then-n-eq0 c = rw c.if-n-eq0.true

pub float_from_bits-result-2 : goal.float_from_bits-result-2
float_from_bits-result-2 c = not_nan_f32_bits _ (omega (arith, c.requires))

pub returns : goal.returns
unfolding power_of_two
returns c = power_bits c.args.n (omega (arith, c.if-n-eq0.false)) (omega (arith, c.requires))
