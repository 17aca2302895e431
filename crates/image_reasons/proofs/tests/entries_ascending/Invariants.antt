-- The entries from the next on ascend from `from` on if all do from 8 on.
use Rattle.std.proofs.Common.{◌/◌, length}
use Rattle.image_reasons.proofs.Ascends.{Ascends}
use Rattle.image_reasons.proofs.tests.entries_ascending.Given as goal

abbrev pub invariant-loop-entry : goal.invariant-loop-entry
invariant-loop-entry l = Ascends (length l.fn.entries / 112) l.fn.entries 0 l.from l.entry-index
