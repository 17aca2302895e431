-- The entries from `at` on move up by one, so that the one at `at` stands twice, and the new one goes over the first of the two.
use Rattle.std.proofs.Common.{rules, ◌≡◌, length}
use Rattle.light_table.proofs.Insertion.{moved_up}
use Rattle.light_table.proofs.overflow.insert_at.Goals as goal

pub returns : goal.returns
returns c =
    let entries : length c.args.entries.now ≡ 56 = search rules in
    let by = c.copy_within.ensures.by_index in
    moved_up c.args.entries.now entries c.args.at c.args.e _ c.requires c.copy_within.ensures.len by.0 by.1
