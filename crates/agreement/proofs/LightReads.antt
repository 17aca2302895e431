-- The reads of a light answer what the abstract state holds. (Of a transform: `Transforms` and `TransformReads`; of the material: a field of `Agrees`.) Assumes nothing.
use Rattle.light_table.specs.Overflow.{place}
use Rattle.std.specs.Prelude.{is_ok}
use Prim.Native.Nat.{ℕ, ◌<◌}
use mathlib.Core.Path.{◌≡◌, refl, sym, ap, ◌∙◌}
use mathlib.Core.Bool.{Bool, true, false, cond, not, ◌&&◌}
use mathlib.Core.Option.{Option, none, some}
use lib.Dec.{ltb, eqb}
use borrow.Author.Tests.{ltb-true, ltb-false}
use Rattle.lemmas.proofs.Branch.{branch}
use Rattle.d3d9_model.specs.State.{AbstractState, AbstractLight}
use Rattle.d3d9_model.specs.Lights.{lookup, is_there, is_on, abstract_light}
use Rattle.d3d9_model.specs.Reads.{light_read_refusal}
use Rattle.words.specs.Bits.{has_bit}
use Rattle.ff_state.specs.Lights.{found, stored_entry, get_light_at, is_light_enabled_at, is_light_defined_at, light_read_number}
use Rattle.ff_state.specs.Valid.{Valid}
use Rattle.ff_state.specs.declared.state.FfState.{FfState}
use Rattle.agreement.specs.Agrees.{Agrees, slot_defined, slot_entry, overflow_entry, state_lights}
use Rattle.agreement.specs.LightReads.{light_read}
use Rattle.agreement.proofs.Lights.{lookup_slot, lookup_overflow}
use Rattle.agreement.proofs.SlotLights.{off_undefined}

-- what is read of a light that may be there
read_if : {A : Type 0} (F : Option AbstractLight → A) (t : Bool) (l : AbstractLight) → cond t (F (some l)) (F none) ≡ F (cond t (some l) none)
read_if F true l = refl
read_if F false l = refl

on_if : (t b : Bool) → (t ≡ false → b ≡ false) → b ≡ cond t b false
on_if true b h = refl
on_if false b h = h refl

and_if : (t b : Bool) → (t && b) ≡ cond t b false
and_if true b = refl
and_if false b = refl

is_if : (t : Bool) → t ≡ cond t true false
is_if true = refl
is_if false = refl

number_of : (l : Option AbstractLight) → light_read_number (light_read l) ≡ cond (is_there l) 0 2
unfolding light_read_number light_read is_there
number_of none = refl
number_of (some l) = refl

module _ {s : FfState} {a : AbstractState} (v : Valid s) (g : Agrees s a) (i : ℕ) where
  -- a read that is F of the slot's light where the slot is defined, and of the entry's where the index is stored
  read_is : {A : Type 0} (F : Option AbstractLight → A) (x y : A)
      → (i < 8 → x ≡ cond (slot_defined s i) (F (some (slot_entry s i))) (F none))
      → (y ≡ cond (is_ok (found s i)) (F (some (overflow_entry (stored_entry s (place (found s i)))))) (F none))
      → cond (ltb i 8) x y ≡ F (abstract_light a i)
  unfolding abstract_light
  read_is {A} F x y low high =
      branch (λ (r : A). r ≡ F (lookup i (state_lights s))) (ltb i 8) x y
      (λ (t : ltb i 8 ≡ true).
      let l = ltb-true i 8 t in
      low l ∙ read_if F (slot_defined s i) (slot_entry s i) ∙ ap F (sym (lookup_slot v i l)))
      (λ (t : ltb i 8 ≡ false). high ∙ read_if F (is_ok (found s i)) (overflow_entry (stored_entry s (place (found s i)))) ∙ ap F (sym (lookup_overflow v i (ltb-false i 8 t))))
      ∙ ap (λ ls. F (lookup i ls)) g.lights

  pub light-read : get_light_at s i ≡ light_read (abstract_light a i)
  unfolding get_light_at light_read
  light-read = read_is light_read _ _ (λ low. refl) refl

  pub light-read-number : light_read_number (get_light_at s i) ≡ light_read_refusal a i
  unfolding light_read_refusal
  light-read-number = ap light_read_number light-read ∙ number_of (abstract_light a i)

  pub enabled_read : is_light_enabled_at s i ≡ is_on (abstract_light a i)
  unfolding is_light_enabled_at is_on
  enabled_read =
      read_is is_on _ _
      (λ low. on_if (slot_defined s i) (has_bit s.light_enabled i) (off_undefined v i low))
      (and_if (is_ok (found s i)) (not (eqb (stored_entry s (place (found s i))).enabled 0)))

  pub defined_read : is_light_defined_at s i ≡ is_there (abstract_light a i)
  unfolding is_light_defined_at is_there
  defined_read = read_is is_there _ _ (λ low. is_if (slot_defined s i)) (is_if (is_ok (found s i)))
