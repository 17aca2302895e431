-- Setting and enabling a light of any index: one law for both, over the change that each makes. Assumes nothing.
use Rattle.std.specs.Prelude.{is_ok}
use Prim.Native.Nat.{ℕ, ◌+◌, ◌≤◌, ◌<◌}
use native.Mathlib.Omega.{arith}
use mathlib.Core.Path.{◌≡◌, refl, sym, ap, ap₂, subst, ◌∙◌}
use mathlib.Core.Bool.{Bool, true, false, cond, not, ◌&&◌}
use mathlib.Core.List.{List, ◌++◌, map}
use lib.Dec.{ltb, eqb}
use lib.ListN.{get_or, set}
use borrow.Author.Tests.{lt-ltb, le-ltb}
use Rattle.d3d9_types.proofs.Fits.{default_light_fits}
use Rattle.d3d9_types.specs.Light.{default_light, lightFits}
use Rattle.d3d9_types.specs.declared.light.D3DLIGHT9.{D3DLIGHT9}
use Rattle.d3d9_model.specs.State.{AbstractState, AbstractLight, replaced_lights}
use Rattle.d3d9_model.specs.Lights.{indexed_light, changed_at, light_set, light_enabled}
use Rattle.d3d9_model.specs.Operations.{full, abstract_refusal, abstract_change, abstract_step}
use Rattle.d3d9_model.specs.Operations as Operations
use Rattle.light_table.specs.Entry.{zero_entry, light_entry}
use Rattle.ff_state.specs.State.{with_overflow_lights, with_overflow_count}
use Rattle.ff_state.specs.Dirty.{dirtied}
use Rattle.ff_state.specs.Slots.{set_slot, enable_slot}
use Rattle.light_table.specs.Overflow.{place, used_count, inserted_at}
use Rattle.ff_state.specs.Overflow.{used}
use Rattle.ff_state.specs.Lights.{lights_bit, found, replace_entry, insert_entry, change_entry, has_room, in_slot, set_light_at, set_light_enabled_at, flag}
use Rattle.ff_state.specs.Valid.{Valid}
use Rattle.ff_state.specs.declared.state.FfState.{FfState}
use Rattle.light_table.specs.declared.entry.OverflowLight.{OverflowLight}
use Rattle.ff_state.specs.Changed.{Changed}
use Rattle.ff_state.specs.Changed as Changes
use Rattle.ff_state.specs.declared.lights.TableFull.{TableFull}
use Rattle.light_table.proofs.Sorted.{put_in}
use Rattle.words.proofs.Words.{flag_small_cond}
use Rattle.ff_state.proofs.Room.{change_is}
use Rattle.agreement.specs.Agrees.{Agrees, defined_from, slot_defined, slot_entry, overflow_entry, state_lights}
use Rattle.agreement.proofs.Dirty.{dirtied_valid, dirtied_agrees}
use Rattle.agreement.proofs.Indices.{changed_below}
use Rattle.agreement.proofs.Defined.{defined_below}
use Rattle.agreement.proofs.Entries.{entries_changed}
use Rattle.agreement.proofs.Slots.{set_slot_valid, enable_slot_valid}
use Rattle.agreement.proofs.SlotLights.{set_slot_agrees, enable_slot_agrees}
use Rattle.agreement.proofs.Overflow.{EntryValid, with_entry, with_new_entry, found_entry, place_most, entry-used, entry_index, entry_fits, replaced_used, replaced_valid, inserted_is, inserted_valid}
use Rattle.agreement.proofs.Lights.{LightOutcome, in-slot, replaced, inserted, refused, light_outcome, full_is}

-- ---- what a call is, by its outcome

module _ (s : FfState) (i : ℕ) (t : FfState) (change : OverflowLight → OverflowLight) (made : OverflowLight) where
  abbrev call : Changed TableFull
  call = cond (ltb i 8) (in_slot t) (change_entry s (found s i) change made)

  call_slot : i < 8 → call ≡ in_slot t
  call_slot low = ap (λ (b : Bool). cond b (in_slot t) (change_entry s (found s i) change made)) (lt-ltb i 8 low)

  call_entry : 8 ≤ i → (b : Bool) → is_ok (found s i) ≡ b → call ≡ cond b (replace_entry s (place (found s i)) (change (found_entry s i))) (insert_entry s (place (found s i)) made)
  call_entry high b h =
      ap (λ (b : Bool). cond b (in_slot t) (change_entry s (found s i) change made)) (le-ltb i 8 high)
      ∙ change_is s (found s i) change made
      ∙ ap (λ (b : Bool). cond b (replace_entry s (place (found s i)) (change (found_entry s i))) (insert_entry s (place (found s i)) made)) h

  insert_is : (b c : Bool) → ltb (used_count s.overflow_count) 56 ≡ b → ltb (place (found s i)) 56 ≡ c
      → insert_entry s (place (found s i)) made ≡ cond (b && c) (in_slot (with_new_entry s i made)) (Changes.refused s (record {}))
  unfolding insert_entry
  insert_is b c p q = ap₂ (λ (x y : Bool). cond (x && y) (in_slot (with_new_entry s i made)) (Changes.refused s (record {}))) p q

-- what holds of the state after each outcome holds of the state after the call
by_outcome : {s : FfState} → Valid s → (i : ℕ) (t : FfState) (change : OverflowLight → OverflowLight) (made : OverflowLight) (P : FfState → Type 0)
    → (i < 8 → has_room s i ≡ true → P (dirtied t lights_bit))
    → (8 ≤ i → is_ok (found s i) ≡ true → has_room s i ≡ true → P (dirtied (with_entry s i (change (found_entry s i))) lights_bit))
    → (8 ≤ i → is_ok (found s i) ≡ false → used_count s.overflow_count < 56 → has_room s i ≡ true → P (dirtied (with_new_entry s i made) lights_bit))
    → (has_room s i ≡ false → P s)
    → P (call s i t change made).state
unfolding replace_entry
by_outcome {s} v i t change made P slot stored absent none = go (light_outcome v i)
  where
    there : (r : Changed TableFull) → call s i t change made ≡ r → P r.state → P (call s i t change made).state
    there r e = subst (λ (x : Changed TableFull). P x.state) (sym e)

    go : LightOutcome s i → P (call s i t change made).state
    go (in-slot low r) = there (in_slot t) (call_slot s i t change made low) (slot low r)
    go (replaced high h r) = there (replace_entry s (place (found s i)) (change (found_entry s i))) (call_entry s i t change made high true h) (stored high h r)
    go (inserted high h m r) =
        there (in_slot (with_new_entry s i made))
        (call_entry s i t change made high false h
        ∙ insert_is s i t change made true true (lt-ltb (used_count s.overflow_count) 56 m) (lt-ltb (place (found s i)) 56 (omega (arith, place_most v i))))
        (absent high h m r)
    go (refused high h m r) =
        there (Changes.refused s (record {}))
        (call_entry s i t change made high false h ∙ insert_is s i t change made false (ltb (place (found s i)) 56) (le-ltb (used_count s.overflow_count) 56 (omega arith)) refl)
        (none r)

module _ {s : FfState} (v : Valid s) (i : ℕ) (t : FfState) (change : OverflowLight → OverflowLight) (made : OverflowLight)
    (slot-valid : i < 8 → Valid t) (own : (e : OverflowLight) → e.index ≡ i → (change e).index ≡ i) (fits : (e : OverflowLight) → EntryValid e → EntryValid (change e))
    (made-own : made.index ≡ i) (made_fits : EntryValid made) where
  call_valid : Valid (call s i t change made).state
  call_valid =
      by_outcome v i t change made Valid
      (λ low r. dirtied_valid lights_bit (omega arith) (slot-valid low))
      (λ high h r. let e = found_entry s i in dirtied_valid lights_bit (omega arith) (replaced_valid v i (change e) (own e (entry_index v i h)) (fits e (entry_fits v i h)) h))
      (λ high h m r. dirtied_valid lights_bit (omega arith) (inserted_valid v i made made-own made_fits h high m))
      (λ r. v)

  -- the same change of the light that an entry is, and of the lights of a state
  module _ (change' : AbstractLight → AbstractLight) (new : AbstractLight) (alike : (e : OverflowLight) → e.index ≡ i → overflow_entry (change e) ≡ change' (overflow_entry e))
      (made_alike : overflow_entry made ≡ new) where
    -- the entries in use after the change of an entry, or with one more
    abbrev changed_used : Bool → List OverflowLight
    changed_used b = cond b (set (used s) (place (found s i)) (change (get_or (used s) (place (found s i)) zero_entry))) (put_in (place (found s i)) made (used s))

    overflow_changed : 8 ≤ i → (es : List OverflowLight) (n : ℕ)
        → used (with_overflow_count (with_overflow_lights s es) n) ≡ changed_used (is_ok (found s i))
        → state_lights (with_overflow_count (with_overflow_lights s es) n) ≡ changed_at i change' new (state_lights s)
    unfolding state_lights found
    overflow_changed high es n e =
        ap (λ (l : List OverflowLight). defined_from (slot_defined s) (slot_entry s) 0 8 ++ map overflow_entry l) e
        ∙ ap (λ (l : List AbstractLight). defined_from (slot_defined s) (slot_entry s) 0 8 ++ l) (sym (entries_changed i change made change' alike (used s)))
        ∙ sym (changed_below i change' (overflow_entry made) (defined_from (slot_defined s) (slot_entry s) 0 8) (map overflow_entry (used s)) (defined_below (slot_defined s) (slot_entry s) (λ k. refl) i 0 8 high))
        ∙ ap (λ (x : AbstractLight). changed_at i change' x (state_lights s)) made_alike

    module _ {a : AbstractState} (g : Agrees s a) (slot-agrees : i < 8 → Agrees t (replaced_lights a (changed_at i change' new a.lights))) where
      abbrev changed : AbstractState
      changed = replaced_lights a (changed_at i change' new a.lights)

      entry_agrees : 8 ≤ i → is_ok (found s i) ≡ true → Agrees (with_entry s i (change (found_entry s i))) changed
      entry_agrees high h =
          let at = place (found s i) in
          let e = found_entry s i in
          let lights =
          overflow_changed high (set s.overflow_lights at (change e)) s.overflow_count
          (replaced_used v i (change e) (own e (entry_index v i h)) (fits e (entry_fits v i h)) h
          ∙ ap (λ (x : OverflowLight). set (used s) (place (found s i)) (change x)) (sym (entry-used v i h))
          ∙ ap changed_used (sym h))
          ∙ ap (changed_at i change' new) g.lights in
          record { matrices = g.matrices; material = g.material; lights = lights; highest = g.highest; states = g.states; texture-mask = g.texture-mask }

      grown_agrees : 8 ≤ i → is_ok (found s i) ≡ false → used_count s.overflow_count < 56 → Agrees (with_new_entry s i made) changed
      grown_agrees high h m =
          let lights =
          overflow_changed high (inserted_at (place (found s i)) made s.overflow_lights) (used_count s.overflow_count + 1)
          (inserted_is v i made made-own made_fits h high m ∙ ap changed_used (sym h))
          ∙ ap (changed_at i change' new) g.lights in
          record { matrices = g.matrices; material = g.material; lights = lights; highest = g.highest; states = g.states; texture-mask = g.texture-mask }

      call_agrees : Agrees (call s i t change made).state (cond (eqb (cond (full a i) 3 0) 0) changed a)
      call_agrees =
          rw (full_is v g i)
          (by_outcome v i t change made (λ u. Agrees u (cond (eqb (cond (not (has_room s i)) 3 0) 0) changed a))
          (λ low (r : has_room s i ≡ true). rw r (dirtied_agrees lights_bit (slot-agrees low)))
          (λ high h (r : has_room s i ≡ true). rw r (dirtied_agrees lights_bit (entry_agrees high h)))
          (λ high h m (r : has_room s i ≡ true). rw r (dirtied_agrees lights_bit (grown_agrees high h m)))
          (λ (r : has_room s i ≡ false). rw r g))

-- ---- the two calls

flag_fits : (on : Bool) → flag on ≤ 1
unfolding flag
flag_fits on = flag_small_cond on

flag_read : (on : Bool) → not (eqb (flag on) 0) ≡ on
unfolding flag
flag_read true = refl
flag_read false = refl

module _ {s : FfState} (v : Valid s) (i : ℕ) (small : i < 0x1_0000_0000) where
  module _ (l : D3DLIGHT9) (f : lightFits l) where
    set_fits : (e : OverflowLight) → EntryValid e → EntryValid (light_entry e.index e.enabled l)
    set_fits e h = record { index = h.index; enabled = h.enabled; light = f }

    new_fits : EntryValid (light_entry i 0 l)
    new_fits = record { index = small; enabled = omega arith; light = f }

    pub set_light_valid : Valid (set_light_at s i l).state
    unfolding set_light_at
    set_light_valid =
        call_valid v i (set_slot s i l) (λ e. light_entry e.index e.enabled l) (light_entry i 0 l)
        (λ low. set_slot_valid v i low l f) (λ e h. h) set_fits refl new_fits

    pub set_light_agrees : {a : AbstractState} → Agrees s a → Agrees (set_light_at s i l).state (abstract_step a (Operations.set_light i l))
    unfolding set_light_at abstract_step abstract_refusal abstract_change light_set
    set_light_agrees g =
        call_agrees v i (set_slot s i l) (λ e. light_entry e.index e.enabled l) (light_entry i 0 l)
        (λ low. set_slot_valid v i low l f) (λ e h. h) set_fits refl new_fits
        (λ e. indexed_light i e.enabled l) (indexed_light i false l) (λ e h. ap (λ (k : ℕ). indexed_light k (not (eqb e.enabled 0)) l) h) refl
        g (λ low. set_slot_agrees v i low g l)

  module _ (on : Bool) where
    enable_fits : (e : OverflowLight) → EntryValid e → EntryValid (light_entry e.index (flag on) e.light)
    enable_fits e h = record { index = h.index; enabled = flag_fits on; light = h.light }

    default_fits : EntryValid (light_entry i (flag on) default_light)
    default_fits = record { index = small; enabled = flag_fits on; light = default_light_fits }

    pub enable_light_valid : Valid (set_light_enabled_at s i on).state
    unfolding set_light_enabled_at
    enable_light_valid =
        call_valid v i (enable_slot s i on) (λ e. light_entry e.index (flag on) e.light) (light_entry i (flag on) default_light)
        (λ low. enable_slot_valid v i low on) (λ e h. h) enable_fits refl default_fits

    pub enable_light_agrees : {a : AbstractState} → Agrees s a → Agrees (set_light_enabled_at s i on).state (abstract_step a (Operations.enable_light i on))
    unfolding set_light_enabled_at abstract_step abstract_refusal abstract_change light_enabled
    enable_light_agrees g =
        call_agrees v i (enable_slot s i on) (λ e. light_entry e.index (flag on) e.light) (light_entry i (flag on) default_light)
        (λ low. enable_slot_valid v i low on) (λ e h. h) enable_fits refl default_fits
        (λ e. indexed_light i on e.light) (indexed_light i on default_light)
        (λ e h. ap₂ (λ (k : ℕ) (b : Bool). indexed_light k b e.light) h (flag_read on)) (ap (λ (b : Bool). indexed_light i b default_light) (flag_read on))
        g (λ low. enable_slot_agrees v i low g on)
