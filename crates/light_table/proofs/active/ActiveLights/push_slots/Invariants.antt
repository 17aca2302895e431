-- What the slots from i on would still push gives the whole.
use Rattle.std.proofs.Common.{◌≡◌}
use Rattle.std.proofs.Math.ListN.{drop}
use Rattle.light_table.specs.Active.{active_slots, slots_from, push_all}
use Rattle.light_table.proofs.active.ActiveLights.push_slots.Given as goal

abbrev pub invariant-loop-i : goal.invariant-loop-i
invariant-loop-i l = push_all l.limit l.self (slots_from l.i l.mask (drop l.i l.lights)) ≡ push_all l.limit l.initial.self (active_slots l.mask l.lights)
