-- The overflow entries of a state that are in use.
use Rattle.std.specs.Prelude.{ℕ, List, take}
use Rattle.light_table.specs.Overflow.{used_count}
use Rattle.ff_state.specs.declared.state.FfState.{FfState}
use Rattle.light_table.specs.declared.entry.OverflowLight.{OverflowLight}

abbrev pub used_entries : List OverflowLight → ℕ → List OverflowLight
used_entries entries n = take (used_count n) entries

abbrev pub used : FfState → List OverflowLight
used s = used_entries s.overflow_lights s.overflow_count
