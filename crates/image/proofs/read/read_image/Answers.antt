-- Bytes that no reason refuses are as long as an image, which is what the reading needs.
use Rattle.std.proofs.Common.{◌∙◌, sym, arith}
use Rattle.image_reasons.proofs.Accepted.{accepted}
use Rattle.image.proofs.read.read_image.Goals as goal

pub state_of-requires : goal.state_of-requires
state_of-requires c = omega (arith, (accepted _ (sym c.image_refused.ensures ∙ c.if-image_refused.false)).long)
