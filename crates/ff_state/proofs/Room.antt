-- "Set and enable refuse 3 exactly if the index is 8 or more, not stored, and 56 such are stored", and a refused call leaves the state as it was. Assumes nothing.
use Prim.Native.Nat.{ℕ, ◌≤◌}
use native.Mathlib.Omega.{arith}
use mathlib.Core.Path.{◌≡◌, refl}
use mathlib.Core.Bool.{Bool, true, false, cond, ◌&&◌, ◌||◌, true≢false, false≢true}
use lib.Dec.{ltb}
use borrow.Author.Tests.{lt-ltb, le-ltb, ltb-true, ltb-false}
use Rattle.lemmas.proofs.Tests.{neither}
use Rattle.d3d9_types.specs.Light.{default_light}
use Rattle.d3d9_types.specs.declared.light.D3DLIGHT9.{D3DLIGHT9}
use Rattle.light_table.specs.Entry.{light_entry}
use Rattle.ff_state.specs.Slots.{set_slot, enable_slot}
use Rattle.light_table.specs.Overflow.{used_count, place}
use Rattle.ff_state.specs.Lights.{found, stored_entry, flag, has_room, in_slot, replace_entry, insert_entry, change_entry, set_light_at, set_light_enabled_at, light_number}
use Rattle.ff_state.specs.declared.state.FfState.{FfState}
use Rattle.light_table.specs.declared.entry.OverflowLight.{OverflowLight}
use Rattle.std.specs.Prelude.{Result, Ok, Err, is_ok}
use Rattle.ff_state.specs.Changed.{Changed, refused}
use Rattle.ff_state.specs.declared.lights.TableFull.{TableFull}
use Rattle.light_table.proofs.LowerBound.{used_most}
use Rattle.ff_state.proofs.Found.{place_used_most}

-- one call of four outcomes: the slot, the entry there is, one more, none
module _ (low stored free near : Bool) (a b c d : Changed TableFull) where
  abbrev outcome : Changed TableFull
  outcome = cond low a (cond stored b (cond (free && near) c d))

answer_of : (low stored free near : Bool) (a b c d : Changed TableFull) → (free ≡ true → near ≡ true)
    → light_number a.answer ≡ 0 → light_number b.answer ≡ 0 → light_number c.answer ≡ 0 → light_number d.answer ≡ 3
    → light_number (outcome low stored free near a b c d).answer ≡ cond (low || (free || stored)) 0 3
answer_of true stored free near a b c d n p q r t = p
answer_of false true true near a b c d n p q r t = q
answer_of false true false near a b c d n p q r t = q
answer_of false false true true a b c d n p q r t = r
answer_of false false true false a b c d n p q r t = absurd (false≢true (n refl))
answer_of false false false near a b c d n p q r t = t

last_of : (low stored free near : Bool) (a b c d : Changed TableFull) → (low || (free || stored)) ≡ false → outcome low stored free near a b c d ≡ d
last_of true stored free near a b c d h = absurd (true≢false h)
last_of false stored true near a b c d h = absurd (true≢false h)
last_of false true false near a b c d h = absurd (true≢false h)
last_of false false false near a b c d h = refl

abbrev pub room_refusal : FfState → Changed TableFull
room_refusal s = refused s (record {})

-- the change of an entry, by what the search answered
pub change_is : (s : FfState) (f : Result ℕ ℕ) (change : OverflowLight → OverflowLight) (made : OverflowLight)
    → change_entry s f change made ≡ cond (is_ok f) (replace_entry s (place f) (change (stored_entry s (place f)))) (insert_entry s (place f) made)
unfolding change_entry
change_is s (Ok at) change made = refl
change_is s (Err at) change made = refl

module _ (s : FfState) (i : ℕ) where
  pub record NoRoom : Type 0 where
    pub beyond : 8 ≤ i
    pub absent : is_ok (found s i) ≡ false
    pub full : used_count s.overflow_count ≡ 56

  pub no_room : has_room s i ≡ false → NoRoom
  unfolding has_room
  no_room h =
      let p = neither (ltb i 8) (ltb (used_count s.overflow_count) 56 || is_ok (found s i)) h in
      let q = neither (ltb (used_count s.overflow_count) 56) (is_ok (found s i)) p.1 in
      let most = used_most (used_count s.overflow_count) s.overflow_count refl in
      let least = ltb-false (used_count s.overflow_count) 56 q.0 in
      record { beyond = ltb-false i 8 p.0; absent = q.1; full = omega arith }

  pub no_room_if : NoRoom → has_room s i ≡ false
  unfolding has_room
  no_room_if n = rw (le-ltb i 8 n.beyond, n.full, n.absent)

  -- what both calls are: a slot's change, or an entry's
  module _ (t : FfState) (change : OverflowLight → OverflowLight) (made : OverflowLight) where
    abbrev call : Changed TableFull
    call = cond (ltb i 8) (in_slot t) (change_entry s (found s i) change made)

    answer : light_number call.answer ≡ cond (has_room s i) 0 3
    unfolding has_room insert_entry replace_entry light_number
    answer = rw (change_is s (found s i) change made) (answer_of (ltb i 8) (is_ok (found s i)) (ltb (used_count s.overflow_count) 56) (ltb (place (found s i)) 56) _ _ _ _
        (λ (f : ltb (used_count s.overflow_count) 56 ≡ true). lt-ltb (place (found s i)) 56 (omega (arith, ltb-true (used_count s.overflow_count) 56 f, place_used_most s i (found s i) refl)))
        refl refl refl refl)

    unchanged : has_room s i ≡ false → call ≡ room_refusal s
    unfolding has_room insert_entry
    unchanged h = rw (change_is s (found s i) change made) (last_of (ltb i 8) (is_ok (found s i)) (ltb (used_count s.overflow_count) 56) (ltb (place (found s i)) 56) _ _ _ _ h)

  module _ (l : D3DLIGHT9) where
    pub set-answer : light_number (set_light_at s i l).answer ≡ cond (has_room s i) 0 3
    unfolding set_light_at
    set-answer = answer (set_slot s i l) (λ e. light_entry e.index e.enabled l) (light_entry i 0 l)

    pub set-refused : has_room s i ≡ false → set_light_at s i l ≡ room_refusal s
    unfolding set_light_at
    set-refused = unchanged (set_slot s i l) (λ e. light_entry e.index e.enabled l) (light_entry i 0 l)

  module _ (on : Bool) where
    pub enable_answer : light_number (set_light_enabled_at s i on).answer ≡ cond (has_room s i) 0 3
    unfolding set_light_enabled_at
    enable_answer = answer (enable_slot s i on) (λ e. light_entry e.index (flag on) e.light) (light_entry i (flag on) default_light)

    pub enable_refused : has_room s i ≡ false → set_light_enabled_at s i on ≡ room_refusal s
    unfolding set_light_enabled_at
    enable_refused = unchanged (enable_slot s i on) (λ e. light_entry e.index (flag on) e.light) (light_entry i (flag on) default_light)
