-- Each part is read at its place, and the masks of types are made from the lights read.
use Rattle.image.specs.Read.{state_of}
use Rattle.image.proofs.read.state_of.Goals as goal

pub returns : goal.returns
unfolding state_of
returns c =
    rw (
      c.read-9.ensures,
      c.read-8.ensures,
      c.read-7.ensures,
      c.read-6.ensures,
      c.list_at-3.ensures,
      c.read-5.ensures,
      c.read-4.ensures,
      c.list_at-2.ensures,
      c.read-3.ensures,
      c.list_at.ensures,
      c.read-2.ensures,
      c.read.ensures,
      c.type_mask-spot.ensures,
      c.type_mask-directional.ensures,
      c.set_mask-set.ensures,
      c.read-defined.ensures,
      c.list_at-lights.ensures,
    )
