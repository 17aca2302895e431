-- The entry that is read is the stored one, at any default, so what the change makes of it is stored.
use Rattle.std.proofs.Common.{refl, sym, ap, ◌∙◌}
use Rattle.ff_state.specs.Changed.{accepted}
use Rattle.ff_state.specs.Lights.{change_entry, replace_entry}
use Rattle.ff_state.proofs.Found.{entry_there}
use Rattle.ff_lights.proofs.lights.change_entry.Goals as goal

pub returns-in-Ok-clause-left : goal.returns-in-Ok-clause-left
unfolding change_entry replace_entry
returns-in-Ok-clause-left g c to is =
    let at = sym c.in-Ok.is ∙ c.search.ensures.value in
    let changed = is _ _ (record { shown = _; shows = refl; left = _; met = c.change.ensures; leaves = refl }) ∙ ap to (entry_there c.args.s.now c.args.index _ at refl _) in
    rw (sym at, sym changed) (ap accepted c.mark_sections.ensures)
