-- A turn pushes the light of an entry that is active, and at the end no entry is left.
use Rattle.std.proofs.Common.{refl, ◌∙◌}
use Rattle.std.proofs.Math.ListN.{drop_of_length-le}
use Rattle.light_table.specs.Active.{active_overflow, push_all}
use Rattle.light_table.proofs.Compaction.{overflow_again, taken, left_out}
use Rattle.light_table.proofs.active.ActiveLights.push_entries.Goals as goal
use Rattle.light_table.proofs.active.ActiveLights.push_entries.Goals.{then-is_active, else-is_active}

pub loop-e-preserved : goal.loop-e-preserved
loop-e-preserved c =
    overflow_again c.args.limit c.loop-e.e-index c.args.entries.now _ _ c.loop-e.self c.if-is_active.self c.is_active.result c.loop-e-test.true refl c.is_active.ensures
    (elim c.if-is_active.branch [
      | then-is_active w ↦ taken c.args.limit c.loop-e.self c.if-is_active.self _ c.is_active.result w.if-is_active.true (w.self-is ∙ w.push.ensures)
      | else-is_active w ↦ left_out c.args.limit c.loop-e.self c.if-is_active.self _ c.is_active.result w.if-is_active.false w.self-is
    ])
    ∙ c.loop-e.invariant

pub loop-e-init : goal.loop-e-init
loop-e-init c = refl

pub returns : goal.returns
unfolding active_overflow push_all
returns c = rw (drop_of_length-le c.args.entries.now {i = c.loop-e.e-index} c.loop-e-test.false) at c.loop-e.invariant
