-- Two patterns that are no NaN's.
use lib.Ieee.{nan_bits}
use Rattle.float32.proofs.cosine.fold.Goals as goal

pub float_from_bits-turn : goal.float_from_bits-turn
unfolding nan_bits
float_from_bits-turn c = tt

pub float_from_bits-t-4 : goal.float_from_bits-t-4
unfolding nan_bits
float_from_bits-t-4 c = tt
