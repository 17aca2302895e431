-- The lights of a state after a slot is set or enabled. Assumes nothing.
use Prim.Native.Nat.{ℕ, ◌<◌, zero-le}
use native.Mathlib.Omega.{arith}
use mathlib.Core.Path.{◌≡◌, refl, sym, ap, ap₂, ◌∙◌}
use mathlib.Core.Bool.{Bool, true, false, cond, true≢false}
use mathlib.Core.List.{map}
use lib.Dec.{eqb}
use lib.ListN.{length}
use borrow.Author.Tests.{eqb-true, eq-eqb, ne_eqb}
use Rattle.lemmas.proofs.Branch.{branch}
use Rattle.d3d9_types.specs.Light.{default_light}
use Rattle.d3d9_types.specs.declared.light.D3DLIGHT9.{D3DLIGHT9}
use Rattle.d3d9_model.specs.State.{AbstractState, AbstractLight, replaced_lights}
use Rattle.d3d9_model.specs.Lights.{indexed_light, changed_at, light_set, light_enabled}
use Rattle.words.specs.Bits.{has_bit, with_bit}
use Rattle.ff_state.specs.State.{with_light_enabled}
use Rattle.ff_state.specs.Slots.{set_slot, define_slot, enable_slot}
use Rattle.ff_state.specs.Overflow.{used}
use Rattle.ff_state.specs.Valid.{Valid, slot_light}
use Rattle.ff_state.specs.declared.state.FfState.{FfState}
use Rattle.words.proofs.Words.{has_with_bit}
use Rattle.agreement.specs.Agrees.{Agrees, slot_defined, slot_entry, overflow_entry, state_lights}
use Rattle.lemmas.proofs.Lists.{get_d_set}
use Rattle.agreement.proofs.Defined.{changed_defined}
use Rattle.agreement.proofs.Entries.{entries_above}

-- what has a value at i may be said to have been given it
given_at : {A : Type 0} (f : ℕ → A) (i : ℕ) (a : A) → f i ≡ a → (k : ℕ) → f k ≡ cond (eqb i k) a (f k)
given_at {A} f i a h k = branch (λ (x : A). f k ≡ x) (eqb i k) a (f k) (λ (t : eqb i k ≡ true). ap f (sym (eqb-true i k t)) ∙ h) (λ t. refl)

-- what a function has at i and elsewhere, if it was given a value at i
module _ {A : Type 0} (f g : ℕ → A) (i : ℕ) (a : A) (h : (k : ℕ) → f k ≡ cond (eqb i k) a (g k)) where
  there : f i ≡ a
  there = h i ∙ rw (eq-eqb i i refl)

  elsewhere : (k : ℕ) → (k ≡ i → ⊥) → f k ≡ g k
  elsewhere k ne = h k ∙ rw (ne_eqb i k (λ q. ne (sym q)))

-- a state whose slot i is defined now, with this enable and this light, and is otherwise another's
module _ {s : FfState} (v : Valid s) (u : FfState) (i : ℕ) (low : i < 8) (on : Bool) (l : D3DLIGHT9)
    (defined : (k : ℕ) → slot_defined u k ≡ cond (eqb i k) true (slot_defined s k))
    (enabled : (k : ℕ) → has_bit u.light_enabled k ≡ cond (eqb i k) on (has_bit s.light_enabled k))
    (light : (k : ℕ) → slot_light u k ≡ cond (eqb i k) l (slot_light s k))
    (others : used u ≡ used s) where
  slot_changed : (change : AbstractLight → AbstractLight) (new : AbstractLight) → indexed_light i on l ≡ cond (slot_defined s i) (change (slot_entry s i)) new
      → state_lights u ≡ changed_at i change new (state_lights s)
  unfolding state_lights
  slot_changed change new is =
      rw others
      (sym
      (changed_defined (slot_defined s) (slot_defined u) (slot_entry s) (slot_entry u) (λ k. refl) i change new
      (elsewhere (slot_defined u) (slot_defined s) i true defined)
      (λ k ne. ap₂ (indexed_light k) (elsewhere (has_bit u.light_enabled) (has_bit s.light_enabled) i on enabled k ne) (elsewhere (slot_light u) (slot_light s) i l light k ne))
      (there (slot_defined u) (slot_defined s) i true defined)
      (ap₂ (indexed_light i) (there (has_bit u.light_enabled) (has_bit s.light_enabled) i on enabled) (there (slot_light u) (slot_light s) i l light) ∙ is)
      (map overflow_entry (used s)) (entries_above i 8 (used s) v.overflow.sorted low)
      0 8 zero-le low))

module _ {s : FfState} (v : Valid s) (i : ℕ) (low : i < 8) where
  inside : i < length s.lights
  inside = omega (arith, v.lights_length)

  -- no slot is on that is not defined
  pub off_undefined : has_bit s.light_defined_mask i ≡ false → has_bit s.light_enabled i ≡ false
  off_undefined h = go (has_bit s.light_enabled i) refl
    where
      go : (t : Bool) → has_bit s.light_enabled i ≡ t → t ≡ false
      go true e = absurd (true≢false (sym (v.slots.enabled_defined i low e) ∙ h))
      go false e = refl

  set_slot_lights : (l : D3DLIGHT9) → state_lights (set_slot s i l) ≡ light_set i l (state_lights s)
  unfolding set_slot light_set
  set_slot_lights l =
      slot_changed v (set_slot s i l) i low (has_bit s.light_enabled i) l
      (λ k. has_with_bit s.light_defined_mask i k true)
      (given_at (has_bit s.light_enabled) i (has_bit s.light_enabled i) refl)
      (get_d_set s.lights i l default_light inside)
      refl
      (λ e. indexed_light i e.enabled l) (indexed_light i false l)
      (branch (λ (x : AbstractLight). indexed_light i (has_bit s.light_enabled i) l ≡ x) (has_bit s.light_defined_mask i) _ _
      (λ t. refl)
      (λ (t : has_bit s.light_defined_mask i ≡ false). ap (λ (b : Bool). indexed_light i b l) (off_undefined t)))

  defined_lights : (on : Bool) → has_bit s.light_defined_mask i ≡ true → state_lights (with_light_enabled s (with_bit s.light_enabled i on)) ≡ light_enabled i on (state_lights s)
  unfolding light_enabled
  defined_lights on e =
      slot_changed v (with_light_enabled s (with_bit s.light_enabled i on)) i low on (slot_light s i)
      (given_at (has_bit s.light_defined_mask) i true e)
      (λ k. has_with_bit s.light_enabled i k on)
      (given_at (slot_light s) i (slot_light s i) refl)
      refl
      (λ x. indexed_light i on x.light) (indexed_light i on default_light) (rw e)

  undefined_lights : (on : Bool) → has_bit s.light_defined_mask i ≡ false
      → state_lights (with_light_enabled (set_slot s i default_light) (with_bit s.light_enabled i on)) ≡ light_enabled i on (state_lights s)
  unfolding set_slot light_enabled
  undefined_lights on e =
      slot_changed v (with_light_enabled (set_slot s i default_light) (with_bit s.light_enabled i on)) i low on default_light
      (λ k. has_with_bit s.light_defined_mask i k true)
      (λ k. has_with_bit s.light_enabled i k on)
      (get_d_set s.lights i default_light default_light inside)
      refl
      (λ x. indexed_light i on x.light) (indexed_light i on default_light) (rw e)

  module _ {a : AbstractState} (g : Agrees s a) where
    pub set_slot_agrees : (l : D3DLIGHT9) → Agrees (set_slot s i l) (replaced_lights a (light_set i l a.lights))
    unfolding set_slot
    set_slot_agrees l = record { matrices = g.matrices; material = g.material; lights = set_slot_lights l ∙ ap (light_set i l) g.lights; highest = g.highest; states = g.states; texture-mask = g.texture-mask }

    pub enable_slot_agrees : (on : Bool) → Agrees (enable_slot s i on) (replaced_lights a (light_enabled i on a.lights))
    unfolding enable_slot define_slot set_slot
    enable_slot_agrees on =
        branch (λ (t : FfState). Agrees (with_light_enabled t (with_bit t.light_enabled i on)) (replaced_lights a (light_enabled i on a.lights)))
        (has_bit s.light_defined_mask i) s (set_slot s i default_light)
        (λ e. record { matrices = g.matrices; material = g.material; lights = defined_lights on e ∙ ap (light_enabled i on) g.lights; highest = g.highest; states = g.states; texture-mask = g.texture-mask })
        (λ e. record { matrices = g.matrices; material = g.material; lights = undefined_lights on e ∙ ap (light_enabled i on) g.lights; highest = g.highest; states = g.states; texture-mask = g.texture-mask })
