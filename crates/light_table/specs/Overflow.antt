-- The overflow entries, by ascending index: where an index stands, or would stand. Document 01, 'Rust forms to recast': "`BTreeMap` becomes 56 sorted entries with a count".
use Rattle.std.specs.Prelude.{ℕ, suc, ◌-◌, min, Bool, true, cond, ◌&&◌, Result, Ok, Err, List, [], ◌∷◌, ◌++◌, ltb, leb, eqb, length, take, drop, get_or}
use Rattle.std.specs.List.{prefix_len}
use Rattle.light_table.specs.Entry.{zero_entry}
use Rattle.light_table.specs.declared.entry.OverflowLight.{OverflowLight}

unfoldable pub used_count : ℕ → ℕ
used_count n = min n 56

-- how many entries at the front have a lower index
unfoldable pub lower_bound : List OverflowLight → ℕ → ℕ
lower_bound es i = prefix_len (λ (e : OverflowLight). ltb e.index i) es

-- Ok of where an index stands, or Err of where it would stand
unfoldable pub find_entry : List OverflowLight → ℕ → Result ℕ ℕ
find_entry es i =
    let at = lower_bound es i in
    cond (ltb at (length es) && eqb (get_or es at zero_entry).index i) (Ok at) (Err at)

-- either
abbrev pub place : Result ℕ ℕ → ℕ
place (Ok at) = at
place (Err at) = at

-- strictly ascending indices, the first at least the given one
unfoldable pub ascending : ℕ → List OverflowLight → Bool
ascending from [] = true
ascending from (e ∷ es) = leb from e.index && ascending (suc e.index) es

-- one entry more before the one at a place; the last, which is unused, is dropped
unfoldable pub inserted_at : ℕ → OverflowLight → List OverflowLight → List OverflowLight
inserted_at at e es = take at es ++ (e ∷ take (55 - at) (drop at es))
