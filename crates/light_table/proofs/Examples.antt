-- Worked examples, computed, that hold the table of entries to document 01: by ascending index, and types 1, 2 and 3 alone light something.
-- Assumes nothing.
use mathlib.Core.Path.{◌≡◌, refl}
use mathlib.Core.Bool.{true, false}
use mathlib.Core.List.{List, [], ◌∷◌, ◌++◌, map}
use Rattle.std.specs.Prelude.{Ok, Err}
use lib.ListN.{take, replicate}
use Rattle.light_table.specs.Entry.{zero_light, zero_entry, light_entry}
use Rattle.light_table.specs.Kinds.{contributes}
use Rattle.light_table.specs.Overflow.{used_count, lower_bound, find_entry, inserted_at}
use Rattle.light_table.specs.declared.entry.OverflowLight.{OverflowLight}

abbrev two : List OverflowLight
two = light_entry 9 1 zero_light ∷ light_entry 12 0 zero_light ∷ []

-- where an index stands, or would stand, beside 9 and 12
places : map (find_entry two) (8 ∷ 9 ∷ 10 ∷ 12 ∷ 13 ∷ []) ≡ Err 0 ∷ Ok 0 ∷ Err 1 ∷ Ok 1 ∷ Err 2 ∷ []
unfolding find_entry lower_bound
places = refl

between : map (λ e. e.index) (take 4 (inserted_at 1 (light_entry 10 1 zero_light) (two ++ replicate 54 zero_entry))) ≡ 9 ∷ 10 ∷ 12 ∷ 0 ∷ []
unfolding inserted_at zero_entry
between = refl

counts : map used_count (0 ∷ 55 ∷ 56 ∷ 57 ∷ []) ≡ 0 ∷ 55 ∷ 56 ∷ 56 ∷ []
unfolding used_count
counts = refl

-- "Types other than 1 point, 2 spot, 3 directional are stored and light nothing."
kinds : map contributes (0 ∷ 1 ∷ 2 ∷ 3 ∷ 4 ∷ []) ≡ false ∷ true ∷ true ∷ true ∷ false ∷ []
unfolding contributes
kinds = refl
