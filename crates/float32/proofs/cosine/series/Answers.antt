-- The operations are the definition's, in its order.
use Rattle.std.proofs.Common.{refl}
use lib.Ieee.{of_bits, of_int, neg}
use Rattle.float32.specs.Cosine.{fraction, horner, polynomial}
use Rattle.float32.proofs.cosine.series.Goals as goal

pub returns : goal.returns
unfolding polynomial horner fraction of_bits of_int neg
returns c = refl
