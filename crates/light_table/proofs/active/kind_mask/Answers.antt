-- A turn from the end: one light more in front of those that are done, of which there are at most seven.
use Rattle.std.proofs.Common.{arith, ◌<◌, [], ◌∷◌, refl, append-nil}
use Rattle.light_table.specs.Active.{kind_mask}
use Rattle.light_table.proofs.Compaction.{kind_room, kind_turn, kind_done, turn_fits}
use Rattle.light_table.proofs.active.kind_mask.Goals as goal

room : (c : goal.In-Some) → c.loop-light.mask < 128
room c =
    let i = c.loop-light.invariant in
    kind_room _ _ _ _ i.0 i.1.0 i.1.1 c.requires _ _ c.in-Some.ensures.steps

pub loop-light-init : goal.loop-light-init
unfolding kind_mask
loop-light-init c = ([], (rw (append-nil, c.into_iter-light-iterator.ensures.into_iter_gives, c.rev-light-items.ensures.source) c.iter.ensures.rest, refl))

pub overflow_mul-mask : goal.overflow_mul-mask
overflow_mul-mask c = omega (arith, room c)

pub overflow_add-mask : goal.overflow_add-mask
overflow_add-mask c = rw c.from.ensures (turn_fits _ _ (room c.before))

pub loop-light-preserved : goal.loop-light-preserved
loop-light-preserved c =
    let i = c.loop-light.invariant in
    (c.in-Some.light.now ∷ i.0, rw c.from.ensures (kind_turn _ _ _ _ i.0 i.1.0 i.1.1 _ _ c.in-Some.ensures.steps))

pub returns : goal.returns
returns c =
    let i = c.loop-light.invariant in
    kind_done _ _ _ _ i.0 i.1.0 i.1.1 c.in-None.ensures.steps.0
