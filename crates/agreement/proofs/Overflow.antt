-- The overflow table: replacing the entry of a stored index, and putting one in, keep it valid, and what they make of the entries in use. Assumes nothing.
use Rattle.std.specs.Prelude.{is_ok}
use Prim.Native.Nat.{ℕ, suc, ◌+◌, ◌-◌, ◌≤◌, ◌<◌}
use native.Mathlib.Nat.{min-eq_left}
use native.Mathlib.Numerals.{add-one}
use native.Mathlib.Omega.{arith}
use mathlib.Core.Path.{◌≡◌, sym, ap, ◌∙◌}
use mathlib.Core.Bool.{true, false}
use mathlib.Core.List.{List}
use lib.ListN.{length, get_or, set, take, drop, replicate, length-set}
use lib.Seq.{length-take-le, take-set-lt, drop-set-lt, get_or-take}
use Rattle.d3d9_types.specs.Light.{lightFits}
use Rattle.light_table.specs.Entry.{zero_entry}
use Rattle.ff_state.specs.State.{with_overflow_lights, with_overflow_count}
use Rattle.light_table.specs.Overflow.{place, used_count, ascending, inserted_at}
use Rattle.ff_state.specs.Overflow.{used}
use Rattle.ff_state.specs.Lights.{found, stored_entry}
use Rattle.ff_state.specs.Valid.{Valid, OverflowValid}
use Rattle.ff_state.specs.declared.state.FfState.{FfState}
use Rattle.light_table.specs.declared.entry.OverflowLight.{OverflowLight}
use Rattle.light_table.proofs.Sorted.{bound_most, place_is, stored_below, stored_index, length_inserted, put_in, replaced_ascending, inserted_ascending, inserted_used, inserted_zeros}
use Rattle.lemmas.proofs.Lists.{set_has, put_has}

-- what a program can hold of an entry
pub record EntryValid (e : OverflowLight) : Type 0 where
  pub index : e.index < 0x1_0000_0000
  pub enabled : e.enabled ≤ 1
  pub light : lightFits e.light

-- the state with an entry in the place of the one found for an index, and with one more entry there
abbrev pub with_entry : FfState → ℕ → OverflowLight → FfState
with_entry s i e = with_overflow_lights s (set s.overflow_lights (place (found s i)) e)

abbrev pub with_new_entry : FfState → ℕ → OverflowLight → FfState
with_new_entry s i e = with_overflow_count (with_overflow_lights s (inserted_at (place (found s i)) e s.overflow_lights)) (used_count s.overflow_count + 1)

abbrev pub found_entry : FfState → ℕ → OverflowLight
found_entry s i = stored_entry s (place (found s i))

module _ {s : FfState} (v : Valid s) where
  -- a valid state, with another table
  table_valid : {es : List OverflowLight} {n : ℕ} → length es ≡ 56 → ((k : ℕ) → k < 56 → lightFits (get_or es k zero_entry).light)
      → OverflowValid es n → Valid (with_overflow_count (with_overflow_lights s es) n)
  table_valid long fits h =
      record {
        palette_length = v.palette_length;
        texture_length = v.texture_length;
        lights_length = v.lights_length;
        overflow_length = long;
        high_water = v.high_water;
        states = v.states;
        texture-mask = v.texture-mask;
        dirty = v.dirty;
        slots = v.slots;
        overflow = h;
        floats =
            record {
              view = v.floats.view;
              projection = v.floats.projection;
              palette = v.floats.palette;
              texture = v.floats.texture;
              material = v.floats.material;
              lights = v.floats.lights;
              overflow = fits;
            };
      }

  pub count_used : used_count s.overflow_count ≡ s.overflow_count
  unfolding used_count
  count_used = min-eq_left v.overflow.count

  pub length-used : length (used s) ≡ used_count s.overflow_count
  length-used = length-take-le (used_count s.overflow_count) s.overflow_lights (omega (arith, count_used, v.overflow_length, v.overflow.count))

  -- ---- the place of an index, and the entry there

  pub place_most : (i : ℕ) → place (found s i) ≤ used_count s.overflow_count
  unfolding found
  place_most i = omega (arith, place_is (used s) i, bound_most (used s) i, length-used)

  module _ (i : ℕ) (stored : is_ok (found s i) ≡ true) where
    pub place_used : place (found s i) < used_count s.overflow_count
    unfolding found
    place_used = omega (arith, stored_below (used s) i stored, length-used)

    pub entry-used : get_or (used s) (place (found s i)) zero_entry ≡ found_entry s i
    entry-used = get_or-take (used_count s.overflow_count) s.overflow_lights (place (found s i)) zero_entry place_used

    pub entry_index : (found_entry s i).index ≡ i
    unfolding found
    entry_index = ap (λ (e : OverflowLight). e.index) (sym entry-used) ∙ stored_index (used s) i stored

    pub entry_fits : EntryValid (found_entry s i)
    entry_fits =
        let h : place (found s i) < s.overflow_count = omega (arith, place_used, count_used) in
        record {
          index = v.overflow.indices (place (found s i)) h;
          enabled = v.overflow.flags (place (found s i)) h;
          light = v.floats.overflow (place (found s i)) (omega (arith, v.overflow.count));
        }

  module _ (i : ℕ) (e : OverflowLight) (own : e.index ≡ i) (fits : EntryValid e) where
    -- ---- the entry of a stored index

    module _ (stored : is_ok (found s i) ≡ true) where
      pub replaced_used : used (with_entry s i e) ≡ set (used s) (place (found s i)) e
      replaced_used = take-set-lt (used_count s.overflow_count) s.overflow_lights (place (found s i)) e (place_used i stored)

      replaced_sorted : ascending 8 (used (with_entry s i e)) ≡ true
      unfolding found
      replaced_sorted = ap (ascending 8) replaced_used ∙ replaced_ascending 8 (used s) i e own stored ∙ v.overflow.sorted

      pub replaced_valid : Valid (with_entry s i e)
      replaced_valid =
          let es = s.overflow_lights in
          let at = place (found s i) in
          let o = v.overflow in
          let h : at < length es = omega (arith, place_used i stored, count_used, o.count, v.overflow_length) in
          table_valid (length-set es at e ∙ v.overflow_length)
          (λ k g. set_has es at e zero_entry h (λ x. lightFits x.light) fits.light k (v.floats.overflow k g))
          (record {
            count = o.count;
            sorted = replaced_sorted;
            flags = λ k g. set_has es at e zero_entry h (λ x. x.enabled ≤ 1) fits.enabled k (o.flags k g);
            indices = λ k g. set_has es at e zero_entry h (λ x. x.index < 0x1_0000_0000) fits.index k (o.indices k g);
            unused = drop-set-lt s.overflow_count es at e (omega (arith, place_used i stored, count_used)) ∙ o.unused;
          })

    -- ---- one entry more

    module _ (absent : is_ok (found s i) ≡ false) (beyond : 8 ≤ i) (room : used_count s.overflow_count < 56) where
      new_count : used_count (used_count s.overflow_count + 1) ≡ suc (used_count s.overflow_count)
      unfolding used_count
      new_count = min-eq_left (omega arith) ∙ add-one (used_count s.overflow_count)

      pub inserted_is : used (with_new_entry s i e) ≡ put_in (place (found s i)) e (used s)
      inserted_is =
          ap (λ (k : ℕ). take k (inserted_at (place (found s i)) e s.overflow_lights)) new_count
          ∙ inserted_used s.overflow_lights (used_count s.overflow_count) (place (found s i)) e v.overflow_length room (place_most i)

      inserted_sorted : ascending 8 (used (with_new_entry s i e)) ≡ true
      unfolding found
      inserted_sorted = ap (ascending 8) inserted_is ∙ ap (λ (k : ℕ). ascending 8 (put_in k e (used s))) (place_is (used s) i) ∙ inserted_ascending 8 (used s) i e own beyond v.overflow.sorted absent

      -- of the first n entries and the one put in
      each : (P : OverflowLight → Type 0) → P e → (n : ℕ) → n < 56 → place (found s i) ≤ n → ((k : ℕ) → k < n → P (get_or s.overflow_lights k zero_entry))
          → (k : ℕ) → k < suc n → P (get_or (inserted_at (place (found s i)) e s.overflow_lights) k zero_entry)
      unfolding inserted_at
      each P p n few within old =
          put_has P zero_entry e (55 - (place (found s i))) p s.overflow_lights (place (found s i)) n (omega (arith, v.overflow_length)) within (omega arith) old

      inserted_unused : drop (used_count s.overflow_count + 1) (inserted_at (place (found s i)) e s.overflow_lights) ≡ replicate (56 - (used_count s.overflow_count + 1)) zero_entry
      inserted_unused =
          let n = used_count s.overflow_count in
          let c : 55 - used_count s.overflow_count ≡ 56 - (used_count s.overflow_count + 1) = omega arith in
          ap (λ (k : ℕ). drop k (inserted_at (place (found s i)) e s.overflow_lights)) (add-one n)
          ∙ inserted_zeros s.overflow_lights n (place (found s i)) e v.overflow_length room (place_most i)
          (ap (λ (k : ℕ). drop k s.overflow_lights) count_used ∙ v.overflow.unused ∙ ap (λ (k : ℕ). replicate (56 - k) zero_entry) (sym count_used))
          ∙ ap (λ (k : ℕ). replicate k zero_entry) c

      pub inserted_valid : Valid (with_new_entry s i e)
      inserted_valid =
          let es = s.overflow_lights in
          let at = place (found s i) in
          let n = used_count s.overflow_count in
          let o = v.overflow in
          table_valid (length_inserted es v.overflow_length at e (omega (arith, place_most i)))
          (λ k g. each (λ x. lightFits x.light) fits.light 55 (omega arith) (omega (arith, place_most i)) (λ j q. v.floats.overflow j (omega arith)) k g)
          (record {
            count = omega arith;
            sorted = inserted_sorted;
            flags = λ k g. each (λ x. x.enabled ≤ 1) fits.enabled n room (place_most i) (λ j q. o.flags j (omega (arith, count_used))) k (omega arith);
            indices = λ k g. each (λ x. x.index < 0x1_0000_0000) fits.index n room (place_most i) (λ j q. o.indices j (omega (arith, count_used))) k (omega arith);
            unused = inserted_unused;
          })
