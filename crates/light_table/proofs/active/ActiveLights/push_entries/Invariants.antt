-- What the entries that are left would still push gives the whole.
use Rattle.std.proofs.Common.{◌≡◌}
use Rattle.std.proofs.Math.ListN.{drop}
use Rattle.light_table.specs.Active.{active_overflow, push_all}
use Rattle.light_table.proofs.active.ActiveLights.push_entries.Given as goal

abbrev pub invariant-loop-e : goal.invariant-loop-e
invariant-loop-e l = push_all l.limit l.self (active_overflow (drop l.e-index l.entries)) ≡ push_all l.limit l.initial.self (active_overflow l.entries)
