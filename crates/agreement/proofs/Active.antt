-- The active lights of a state are those of the abstract state. Assumes nothing.
use Prim.Native.Nat.{ℕ, suc, ◌+◌, ◌≤◌, ◌<◌}
use native.Mathlib.Nat.{add-zero, zero-add}
use native.Mathlib.Omega.{arith}
use mathlib.Core.Path.{◌≡◌, refl, sym, ap, ap₂, ◌∙◌}
use mathlib.Core.Bool.{Bool, true, false, cond, ◌&&◌}
use mathlib.Core.List.{List, [], ◌∷◌, ◌++◌, map}
use lib.Dec.{leb, leb-suc-suc}
use lib.ListN.{length, get_or}
use Rattle.d3d9_types.specs.Light.{default_light}
use Rattle.d3d9_types.specs.declared.light.D3DLIGHT9.{D3DLIGHT9}
use Rattle.d3d9_model.specs.State.{AbstractState, AbstractLight}
use Rattle.d3d9_model.specs.Lights.{lights?, active_of, abstract_active}
use Rattle.words.specs.Bits.{has_bit}
use Rattle.light_table.specs.Kinds.{contributes}
use Rattle.ff_state.specs.Overflow.{used}
use Rattle.light_table.specs.Active.{slots_from, active_overflow}
use Rattle.ff_state.specs.Active.{light_active_mask, active_lights}
use Rattle.ff_state.specs.Valid.{Valid, slot_light}
use Rattle.ff_state.specs.declared.state.FfState.{FfState}
use Rattle.light_table.specs.declared.entry.OverflowLight.{OverflowLight}
use Rattle.words.proofs.Words.{has_and}
use Rattle.agreement.specs.Agrees.{Agrees, defined_from, slot_defined, slot_entry, overflow_entry, state_lights}
use Rattle.agreement.proofs.Indices.{active_append}

-- the types 1, 2 and 3, counted either way
kinds : (t : ℕ) → contributes t ≡ (leb 1 t && leb t 3)
unfolding contributes
kinds t = ap (λ (b : Bool). leb 1 t && b) (leb-suc-suc t 3)

-- ---- the slots

module _ (mask : ℕ) (d : ℕ → Bool) (g : ℕ → AbstractLight) (bits : (j : ℕ) → j < 8 → has_bit mask j ≡ (d j && lights? (g j))) where
  slots_active : (i : ℕ) (xs : List D3DLIGHT9) → i + length xs ≤ 8 → ((k : ℕ) → k < length xs → get_or xs k default_light ≡ (g (i + k)).light)
      → slots_from i mask xs ≡ active_of (defined_from d g i (length xs))
  unfolding slots_from defined_from active_of
  slots_active i [] h same = refl
  slots_active i (x ∷ xs) h same =
      rw (bits i (omega arith), first, slots_active (suc i) xs (omega arith) later) (go (d i))
    where
      first : x ≡ (g i).light
      first = same 0 (omega arith) ∙ ap (λ (n : ℕ). (g n).light) (add-zero i)

      later : (k : ℕ) → k < length xs → get_or xs k default_light ≡ (g (suc i + k)).light
      later k q = let e : i + suc k ≡ suc i + k = omega arith in same (suc k) (omega arith) ∙ ap (λ (n : ℕ). (g n).light) e

      rest : List AbstractLight
      rest = defined_from d g (suc i) (length xs)

      go : (t : Bool) → cond (t && lights? (g i)) ((g i).light ∷ active_of rest) (active_of rest) ≡ active_of (cond t (g i ∷ rest) rest)
      go true = refl
      go false = refl

-- ---- the overflow entries

entries_active : (es : List OverflowLight) → active_overflow es ≡ active_of (map overflow_entry es)
unfolding active_overflow active_of lights?
entries_active [] = refl
entries_active (e ∷ es) = rw (kinds e.light.type_, entries_active es)

-- ---- both

regroup : (x c e : Bool) → ((x && c) && e) ≡ (x && (e && c))
regroup true true true = refl
regroup true true false = refl
regroup true false true = refl
regroup true false false = refl
regroup false c e = refl

module _ {s : FfState} (v : Valid s) where
  pub active_bits : (j : ℕ) → j < 8 → has_bit (light_active_mask s) j ≡ (slot_defined s j && lights? (slot_entry s j))
  unfolding light_active_mask lights?
  active_bits j h =
      has_and s.light_set_mask s.light_enabled j
      ∙ ap (λ (b : Bool). b && has_bit s.light_enabled j) (v.slots.set-mask j h)
      ∙ regroup (slot_defined s j) (contributes (slot_light s j).type_) (has_bit s.light_enabled j)
      ∙ ap (λ (b : Bool). slot_defined s j && (has_bit s.light_enabled j && b)) (kinds (slot_light s j).type_)

  state_active : active_lights s ≡ active_of (state_lights s)
  unfolding active_lights state_lights
  state_active =
      ap₂ (λ (x y : List D3DLIGHT9). x ++ y)
      (slots_active (light_active_mask s) (slot_defined s) (slot_entry s) active_bits 0 s.lights (omega (arith, v.lights_length)) (λ k h. ap (slot_light s) (sym (zero-add k)))
      ∙ ap (λ (n : ℕ). active_of (defined_from (slot_defined s) (slot_entry s) 0 n)) v.lights_length)
      (entries_active (used s))
      ∙ sym (active_append (defined_from (slot_defined s) (slot_entry s) 0 8) (map overflow_entry (used s)))

  module _ {a : AbstractState} (g : Agrees s a) where
    pub active_agrees : active_lights s ≡ abstract_active a
    unfolding abstract_active
    active_agrees = state_active ∙ ap active_of g.lights
