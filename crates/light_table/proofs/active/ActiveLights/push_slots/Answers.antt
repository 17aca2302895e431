-- A turn pushes the light of slot i where its bit is set, and at the end no slot is left.
use Rattle.std.proofs.Common.{arith, rules, ◌≡◌, refl, length, ◌∙◌}
use Rattle.std.proofs.Math.ListN.{drop_of_length-le}
use Rattle.light_table.specs.Active.{slots_from, push_all}
use Rattle.light_table.proofs.Compaction.{slots_again, taken, left_out}
use Rattle.light_table.proofs.active.ActiveLights.push_slots.Goals as goal
use Rattle.light_table.proofs.active.ActiveLights.push_slots.Goals.{then-has_bit, else-has_bit}

pub loop-i-init : goal.loop-i-init
loop-i-init c = refl

pub loop-i-preserved : goal.loop-i-preserved
loop-i-preserved c =
    let long : length c.args.lights.now ≡ 8 = search rules in
    slots_again c.args.limit c.args.mask c.loop-i.i c.args.lights.now _ c.loop-i.self c.if-has_bit.self c.has_bit.result (omega arith) c.has_bit.ensures
    (elim c.if-has_bit.branch [
      | then-has_bit w ↦ taken c.args.limit c.loop-i.self c.if-has_bit.self _ c.has_bit.result w.if-has_bit.true (w.self-is ∙ w.push.ensures)
      | else-has_bit w ↦ left_out c.args.limit c.loop-i.self c.if-has_bit.self _ c.has_bit.result w.if-has_bit.false w.self-is
    ])
    ∙ c.loop-i.invariant

pub returns : goal.returns
unfolding slots_from push_all
returns c =
    let long : length c.args.lights.now ≡ 8 = search rules in
    rw (drop_of_length-le c.args.lights.now {i = c.loop-i.i} (omega arith)) at c.loop-i.invariant
