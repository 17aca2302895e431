-- What a search of the entries in use tells of a state. Assumes nothing.
use Prim.Native.Nat.{ℕ, ◌≤◌, ◌<◌}
use native.Mathlib.Omega.{arith}
use mathlib.Core.Path.{◌≡◌, refl, sym, ap, subst, ◌∙◌}
use mathlib.Core.Bool.{true}
use lib.ListN.{length, take, get_or, length-take}
use Rattle.light_table.specs.Entry.{zero_entry}
use Rattle.light_table.specs.Overflow.{used_count, find_entry, place}
use Rattle.ff_state.specs.Overflow.{used}
use Rattle.ff_state.specs.Lights.{found, stored_entry}
use Rattle.ff_state.specs.declared.state.FfState.{FfState}
use Rattle.light_table.specs.declared.entry.OverflowLight.{OverflowLight}
use Rattle.std.specs.Prelude.{Result, Ok, Err, is_ok, IfOk, IfErr}
use Rattle.lemmas.proofs.Lists.{get_d_default}
use Rattle.light_table.proofs.LowerBound.{used_most, bound_most, place_is, stored_below}

-- the code's search, of the count as it reads and the entries before it
pub searched : (s : FfState) (i n : ℕ) (f : Result ℕ ℕ) → n ≡ used_count s.overflow_count → f ≡ find_entry (take n s.overflow_lights) i → f ≡ found s i
unfolding found
searched s i n f q e = e ∙ ap (λ (k : ℕ). find_entry (take k s.overflow_lights) i) q

module _ (s : FfState) where
  -- the entries in use are entries of the table, and at most 56
  in_use : length (used s) ≤ length s.overflow_lights
  in_use = omega (arith, length-take (used_count s.overflow_count) s.overflow_lights)

  counted : length (used s) ≤ used_count s.overflow_count
  counted = omega (arith, length-take (used_count s.overflow_count) s.overflow_lights)

  at_most_56 : length (used s) ≤ 56
  at_most_56 = omega (arith, counted, used_most (used_count s.overflow_count) s.overflow_count refl)

  module _ (i : ℕ) (f : Result ℕ ℕ) (e : f ≡ found s i) where
    place_end : place f ≤ length (used s)
    unfolding found
    place_end = omega (arith, ap (λ (g : Result ℕ ℕ). place g) e, place_is (used s) i, bound_most (used s) i)

    pub place_used_most : place f ≤ used_count s.overflow_count
    place_used_most = omega (arith, place_end, counted)

    pub place_most : place f ≤ 56
    place_most = omega (arith, place_end, at_most_56)

    module _ (stored : is_ok f ≡ true) where
      place_used : place f < length (used s)
      unfolding found
      place_used = subst (λ (g : Result ℕ ℕ). place g < length (used s)) (sym e) (stored_below (used s) i (ap (λ (g : Result ℕ ℕ). is_ok g) (sym e) ∙ stored))

      pub place_below : place f < 56
      place_below = omega (arith, place_used, at_most_56)

      pub entry_there : (d : OverflowLight) → get_or s.overflow_lights (place f) d ≡ stored_entry s (place f)
      entry_there d = get_d_default s.overflow_lights (place f) d zero_entry (omega (arith, place_used, in_use))

-- what the code reads of the place: an entry that is stored is one of the 56
pub stored_place : (s : FfState) (i : ℕ) (f : Result ℕ ℕ) → f ≡ found s i → IfOk f (λ at. at < 56)
stored_place s i (Ok at) e = place_below s i (Ok at) e refl
stored_place s i (Err at) e = tt

pub absent_place : (s : FfState) (i : ℕ) (f : Result ℕ ℕ) → f ≡ found s i → IfErr f (λ at. at ≤ 56)
absent_place s i (Ok at) e = tt
absent_place s i (Err at) e = place_most s i (Err at) e
