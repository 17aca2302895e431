-- The test of the three types.
use Rattle.std.proofs.Common.{rules}
use Rattle.light_table.specs.Kinds.{contributes}
use Rattle.image_lists.specs.Masks.{set_mask}
use Rattle.image_lists.proofs.masks.set_mask.Goals as goal

pub returns : goal.returns
unfolding set_mask
returns c = c.mask.ensures contributes (λ n b h k. search rules)
