-- A pattern whose size is at most infinity's is no NaN's.
use Rattle.std.proofs.lemmas.Float.{not_nan_f32_bits}
use Rattle.float32.proofs.bits.of_bits.Goals as goal

pub float_from_bits-result : goal.float_from_bits-result
float_from_bits-result c = not_nan_f32_bits c.args.n c.if-n-gt2139095040.false
