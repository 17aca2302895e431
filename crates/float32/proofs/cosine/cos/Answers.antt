-- Two patterns that are no NaN's.
use lib.Ieee.{nan_bits}
use Rattle.float32.proofs.cosine.cos.Goals as goal

pub float_from_bits-t-3 : goal.float_from_bits-t-3
unfolding nan_bits
float_from_bits-t-3 c = tt

pub float_from_bits-series : goal.float_from_bits-series
unfolding nan_bits
float_from_bits-series c = tt
