-- `with_bit` sets the bit by an or, or clears it by an and: `set_bit` and `clear_bit`.
use Rattle.words.proofs.Words.{set_bit, clear_bit, bit_shl}
use Rattle.words.proofs.bits.with_bit.Goals as goal

pub returns-then-on : goal.returns-then-on
returns-then-on c = rw (c.if-on.true, bit_shl c.args.i c.requires) (set_bit c.args.mask c.args.i)

pub returns-else-on : goal.returns-else-on
returns-else-on c = rw (c.if-on.false, bit_shl c.args.i c.requires) (clear_bit 8 c.args.mask c.args.i c.requires c.ranges.mask.fits)
