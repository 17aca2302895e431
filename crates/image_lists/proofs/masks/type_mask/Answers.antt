-- The test of one type.
use Rattle.std.proofs.Common.{rules}
use lib.Dec.{eqb}
use Rattle.image_lists.specs.Masks.{type_mask}
use Rattle.image_lists.proofs.masks.type_mask.Goals as goal

pub returns : goal.returns
unfolding type_mask
returns c = c.mask.ensures (λ n. eqb n c.args.t) (λ n b h k. search rules)
