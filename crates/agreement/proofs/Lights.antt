-- Lights by any index: what a set or an enable makes of the state's lights, and when it is refused. Assumes nothing.
use Rattle.std.specs.Prelude.{is_ok}
use Prim.Native.Nat.{ℕ, ◌≤◌, ◌<◌}
use native.Mathlib.Omega.{arith}
use mathlib.Core.Path.{◌≡◌, refl, sym, ap, ap₂, ◌∙◌}
use mathlib.Core.Bool.{Bool, true, false, cond, not, ◌&&◌, ◌||◌}
use mathlib.Core.Option.{none, some}
use mathlib.Core.List.{map}
use lib.Dec.{leb, ltb, eqb}
use lib.ListN.{get_or, length-map}
use borrow.Author.Tests.{ltb-true, ltb-false, le-leb, lt-leb, eq-eqb, ne_eqb}
use Rattle.d3d9_model.specs.State.{AbstractState, AbstractLight}
use Rattle.d3d9_model.specs.Lights.{lookup, is_there, count_beyond}
use Rattle.d3d9_model.specs.Operations.{full}
use Rattle.light_table.specs.Entry.{zero_entry}
use Rattle.light_table.specs.Overflow.{place, used_count}
use Rattle.ff_state.specs.Overflow.{used}
use Rattle.ff_state.specs.Lights.{found, stored_entry, has_room}
use Rattle.ff_state.specs.Valid.{Valid}
use Rattle.ff_state.specs.declared.state.FfState.{FfState}
use Rattle.light_table.specs.declared.entry.OverflowLight.{OverflowLight}
use Rattle.agreement.specs.Agrees.{Agrees, defined_from, slot_defined, slot_entry, overflow_entry, state_lights}
use Rattle.agreement.proofs.Indices.{lookup_below, beyond_above, beyond_below}
use Rattle.agreement.proofs.Defined.{defined_below, lookup_defined}
use Rattle.agreement.proofs.Entries.{entries_above, entries_lookup}
use Rattle.agreement.proofs.Overflow.{count_used, length-used, entry-used}

module _ {s : FfState} (v : Valid s) where
  -- ---- the light of an index

  pub lookup_slot : (i : ℕ) → i < 8 → lookup i (state_lights s) ≡ cond (slot_defined s i) (some (slot_entry s i)) none
  unfolding state_lights
  lookup_slot i low =
      lookup_defined (slot_defined s) (slot_entry s) (λ k. refl) (map overflow_entry (used s)) i 0 8 (omega arith) low
      (entries_above i 8 (used s) v.overflow.sorted low)

  pub lookup_overflow : (i : ℕ) → 8 ≤ i → lookup i (state_lights s) ≡ cond (is_ok (found s i)) (some (overflow_entry (stored_entry s (place (found s i))))) none
  unfolding state_lights found
  lookup_overflow i high =
      lookup_below i (defined_from (slot_defined s) (slot_entry s) 0 8) (map overflow_entry (used s)) (defined_below (slot_defined s) (slot_entry s) (λ k. refl) i 0 8 high)
      ∙ entries_lookup i 8 (used s) v.overflow.sorted
      ∙ go (is_ok (found s i)) refl
    where
      go : (t : Bool) → is_ok (found s i) ≡ t
          → cond t (some (overflow_entry (get_or (used s) (place (found s i)) zero_entry))) none ≡ cond t (some (overflow_entry (stored_entry s (place (found s i))))) none
      go true e = ap (λ (x : OverflowLight). some (overflow_entry x)) (entry-used v i e)
      go false e = refl

  there_overflow : (i : ℕ) → 8 ≤ i → is_there (lookup i (state_lights s)) ≡ is_ok (found s i)
  unfolding is_there
  there_overflow i high = ap is_there (lookup_overflow i high) ∙ go (is_ok (found s i)) (overflow_entry (stored_entry s (place (found s i))))
    where
      go : (t : Bool) (l : AbstractLight) → is_there (cond t (some l) none) ≡ t
      go true l = refl
      go false l = refl

  -- ---- the room that is left

  pub beyond_used : count_beyond (state_lights s) ≡ used_count s.overflow_count
  unfolding state_lights
  beyond_used =
      beyond_below (defined_from (slot_defined s) (slot_entry s) 0 8) (map overflow_entry (used s)) (defined_below (slot_defined s) (slot_entry s) (λ k. refl) 8 0 8 (omega arith))
      ∙ beyond_above (map overflow_entry (used s)) (entries_above 7 8 (used s) v.overflow.sorted (omega arith))
      ∙ length-map (used s) overflow_entry
      ∙ length-used v

-- ---- what a set or an enable comes to

pub data LightOutcome (s : FfState) (i : ℕ) : Type 0 where
  in-slot : i < 8 → has_room s i ≡ true → LightOutcome s i
  replaced : 8 ≤ i → is_ok (found s i) ≡ true → has_room s i ≡ true → LightOutcome s i
  inserted : 8 ≤ i → is_ok (found s i) ≡ false → used_count s.overflow_count < 56 → has_room s i ≡ true → LightOutcome s i
  refused : 8 ≤ i → is_ok (found s i) ≡ false → used_count s.overflow_count ≡ 56 → has_room s i ≡ false → LightOutcome s i

pub light_outcome : {s : FfState} → Valid s → (i : ℕ) → LightOutcome s i
unfolding has_room
light_outcome {s} v i = go (ltb i 8) (ltb (used_count s.overflow_count) 56) (is_ok (found s i)) refl refl refl
  where
    has : (a b c : Bool) → ltb i 8 ≡ a → ltb (used_count s.overflow_count) 56 ≡ b → is_ok (found s i) ≡ c → has_room s i ≡ (a || (b || c))
    has a b c p q r = ap₂ (λ (x y : Bool). x || y) p (ap₂ (λ (x y : Bool). x || y) q r)

    go : (a b c : Bool) → ltb i 8 ≡ a → ltb (used_count s.overflow_count) 56 ≡ b → is_ok (found s i) ≡ c → LightOutcome s i
    go true b c p q r = in-slot (ltb-true i 8 p) (has true b c p q r)
    go false true true p q r = replaced (ltb-false i 8 p) r (has false true true p q r)
    go false false true p q r = replaced (ltb-false i 8 p) r (has false false true p q r)
    go false true false p q r = inserted (ltb-false i 8 p) r (ltb-true (used_count s.overflow_count) 56 q) (has false true false p q r)
    go false false false p q r =
        refused (ltb-false i 8 p) r (omega (arith, ltb-false (used_count s.overflow_count) 56 q, count_used v, v.overflow.count)) (has false false false p q r)

-- the abstract table is full exactly where the state's has no room
pub full_is : {s : FfState} {a : AbstractState} → Valid s → Agrees s a → (i : ℕ) → full a i ≡ not (has_room s i)
unfolding full
full_is {s} {a} v g i = rw (← g.lights) (go (light_outcome v i))
  where
    n : ℕ
    n = used_count s.overflow_count

    terms : (x y z : Bool) → leb 8 i ≡ x → is_there (lookup i (state_lights s)) ≡ y → eqb (count_beyond (state_lights s)) 56 ≡ z
        → (leb 8 i && (not (is_there (lookup i (state_lights s))) && eqb (count_beyond (state_lights s)) 56)) ≡ (x && (not y && z))
    terms x y z p q r = ap₂ (λ (t u : Bool). t && u) p (ap₂ (λ (t u : Bool). not t && u) q r)

    go : LightOutcome s i → (leb 8 i && (not (is_there (lookup i (state_lights s))) && eqb (count_beyond (state_lights s)) 56)) ≡ not (has_room s i)
    go (in-slot low r) = terms false _ _ (lt-leb 8 i low) refl refl ∙ sym (ap not r)
    go (replaced high h r) = terms true true _ (le-leb 8 i high) (there_overflow v i high ∙ h) refl ∙ sym (ap not r)
    go (inserted high h m r) =
        terms true false false (le-leb 8 i high) (there_overflow v i high ∙ h) (ap (λ (k : ℕ). eqb k 56) (beyond_used v) ∙ ne_eqb n 56 (λ e. omega arith)) ∙ sym (ap not r)
    go (refused high h m r) =
        terms true false true (le-leb 8 i high) (there_overflow v i high ∙ h) (ap (λ (k : ℕ). eqb k 56) (beyond_used v) ∙ eq-eqb n 56 m) ∙ sym (ap not r)
