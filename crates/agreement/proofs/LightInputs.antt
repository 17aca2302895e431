-- The compacted lights and their masks, and the word of `vs_source_light_inputs`, are the abstract state's.
-- A mask below 256 is the number of its eight bits, and the bits of each mask are those of the abstract lights. Assumes nothing.
use Prim.Native.Nat.{ℕ, zero, suc, ◌+◌, ◌*◌, ◌/◌, ◌%◌, ◌^◌, ◌<◌}
use native.Mathlib.Nat.{add-zero, zero-add, div-one, pow-suc}
use native.Mathlib.Omega.{arith}
use mathlib.Core.Path.{◌≡◌, refl, sym, ap, ap₂, ◌∙◌}
use mathlib.Core.Bool.{Bool, true, false, cond, ◌&&◌}
use mathlib.Core.List.{List, [], ◌∷◌, map}
use mathlib.Core.Option.{none, some}
use lib.Bits.{bit_and, and_le_r}
use lib.Dec.{eqb}
use lib.ListN.{length, take}
use lib.Pow.{pow_pos}
use borrow.Author.Tests.{eqb-true, eqb-false}
use Rattle.d3d9_types.specs.declared.light.D3DLIGHT9.{D3DLIGHT9}
use Rattle.d3d9_model.specs.State.{AbstractState, AbstractLight}
use Rattle.d3d9_model.specs.Lights.{lookup, lights?, count_beyond, abstract_light}
use Rattle.d3d9_model.specs.Active.{compacted, bits_number, compacted_mask, active_kind, raw_mask, any_kind, is_directional, is_spot, word_of, abstract_light_inputs}
use Rattle.words.specs.Bits.{has_bit}
use Rattle.words.proofs.Words.{has_bit_suc, has_and}
use Rattle.light_table.specs.Active.{low_bits, kind_mask, masks_of, four_bytes}
use Rattle.light_table.proofs.Compaction.{listed_front}
use Rattle.ff_state.specs.Active.{light_active_mask, active_lights, resolve_active_lights, compacted_light_masks, vs_source_light_inputs}
use Rattle.ff_state.specs.Valid.{Valid}
use Rattle.ff_state.specs.declared.state.FfState.{FfState}
use Rattle.agreement.specs.Agrees.{Agrees, slot_defined, slot_entry}
use Rattle.agreement.proofs.Overflow.{count_used}
use Rattle.agreement.proofs.Lights.{lookup_slot, beyond_used}
use Rattle.agreement.proofs.Active.{active_bits, active_agrees}

-- ---- a number by its bits

abbrev bits_from : (ℕ → Bool) → ℕ → ℕ → List Bool
bits_from f i zero = []
bits_from f i (suc n) = f i ∷ bits_from f (suc i) n

lowest : (w : ℕ) → cond (has_bit w 0) 1 0 ≡ w % 2
unfolding has_bit
lowest w = rw (div-one w) (go (eqb (w % 2) 1) refl)
  where
    go : (t : Bool) → eqb (w % 2) 1 ≡ t → cond t 1 0 ≡ w % 2
    go true e = sym (eqb-true (w % 2) 1 e)
    go false e = omega (arith, eqb-false (w % 2) 1 e)

number_is : (f : ℕ → Bool) (n i w : ℕ) → w < 2 ^ n → ((k : ℕ) → k < n → f (i + k) ≡ has_bit w k) → bits_number (bits_from f i n) ≡ w
unfolding bits_number
number_is f zero i w h same = omega arith
number_is f (suc n) i w h same =
    let rest : bits_number (bits_from f (suc i) n) ≡ w / 2 = number_is f n (suc i) (w / 2) (omega (arith, pow-suc 2 n)) later in
    ap₂ (λ (x y : ℕ). x + 2 * y) first rest ∙ omega arith
  where
    first : cond (f i) 1 0 ≡ w % 2
    first = ap (λ (b : Bool). cond b 1 0) (ap f (sym (add-zero i)) ∙ same 0 (omega arith)) ∙ lowest w

    later : (k : ℕ) → k < n → f (suc i + k) ≡ has_bit (w / 2) k
    later k q = let e : suc i + k ≡ i + suc k = omega arith in ap f e ∙ same (suc k) (omega arith) ∙ has_bit_suc w k

-- ---- masks and words of lights

low-bits : (ls : List D3DLIGHT9) → low_bits (length ls) ≡ bits_number (map any_kind ls)
unfolding low_bits bits_number
low-bits [] = refl
low-bits (l ∷ ls) = rw (← low-bits ls) (omega (arith, pow-suc 2 (length ls), pow_pos (length ls)))

kind_bits : (t : ℕ) (ls : List D3DLIGHT9) → kind_mask t ls ≡ bits_number (map (λ l. eqb l.type_ t) ls)
unfolding kind_mask bits_number
kind_bits t [] = refl
kind_bits t (l ∷ ls) = rw (kind_bits t ls) (omega arith)

bytes_are : (p q r t : ℕ) → four_bytes p q r t ≡ word_of p q r t
unfolding four_bytes word_of
bytes_are p q r t = omega arith

-- ---- the raw slots

-- a slot's light, active and of a kind
here : (kind : D3DLIGHT9 → Bool) (d : Bool) (l : AbstractLight) → active_kind kind (cond d (some l) none) ≡ (d && (lights? l && kind l.light))
unfolding active_kind
here kind true l = refl
here kind false l = refl

regroup : (d l k : Bool) → ((d && k) && (d && l)) ≡ (d && (l && k))
regroup true true true = refl
regroup true true false = refl
regroup true false true = refl
regroup true false false = refl
regroup false l k = refl

and_true : (d l : Bool) → (d && l) ≡ (d && (l && true))
and_true true true = refl
and_true true false = refl
and_true false l = refl

module _ {s : FfState} {a : AbstractState} (v : Valid s) (g : Agrees s a) where
  slot_kind : (kind : D3DLIGHT9 → Bool) (i : ℕ) → i < 8 → active_kind kind (abstract_light a i) ≡ (slot_defined s i && (lights? (slot_entry s i) && kind (slot_entry s i).light))
  unfolding abstract_light
  slot_kind kind i h = ap (λ ls. active_kind kind (lookup i ls)) (sym g.lights) ∙ ap (active_kind kind) (lookup_slot v i h) ∙ here kind (slot_defined s i) (slot_entry s i)

  raw_is : (kind : D3DLIGHT9 → Bool) (w : ℕ) → w < 256 → ((i : ℕ) → i < 8 → has_bit w i ≡ (slot_defined s i && (lights? (slot_entry s i) && kind (slot_entry s i).light))) → w ≡ raw_mask a kind
  unfolding raw_mask
  raw_is kind w h bits =
      sym (number_is (λ i. active_kind kind (abstract_light a i)) 8 0 w h (λ k q. ap (λ n. active_kind kind (abstract_light a n)) (zero-add k) ∙ slot_kind kind k q ∙ sym (bits k q)))

  active_narrow : light_active_mask s < 256
  unfolding light_active_mask
  active_narrow = omega (arith, and_le_r s.light_set_mask s.light_enabled, v.slots.enabled_width)

  raw_active : light_active_mask s ≡ raw_mask a any_kind
  raw_active = raw_is any_kind (light_active_mask s) active_narrow (λ i h. active_bits v i h ∙ and_true (slot_defined s i) (lights? (slot_entry s i)))

  -- a mask of the slots of a kind, of the active ones alone
  raw_kind : (kind : D3DLIGHT9 → Bool) (w : ℕ) → ((i : ℕ) → i < 8 → has_bit w i ≡ (slot_defined s i && kind (slot_entry s i).light)) → bit_and w (light_active_mask s) ≡ raw_mask a kind
  raw_kind kind w bits =
      raw_is kind (bit_and w (light_active_mask s)) (omega (arith, and_le_r w (light_active_mask s), active_narrow))
      (λ i h.
      has_and w (light_active_mask s) i
      ∙ ap₂ (λ (x y : Bool). x && y) (bits i h) (active_bits v i h)
      ∙ regroup (slot_defined s i) (lights? (slot_entry s i)) (kind (slot_entry s i).light))

  -- ---- the compacted lights

  -- "eight at most"
  pub compacted_agrees : take 8 (active_lights s) ≡ compacted a
  unfolding compacted
  compacted_agrees = ap (take 8) (active_agrees v g)

  pub resolved_agrees : let r = resolve_active_lights s 8 in take r.len r.lights ≡ compacted a
  unfolding resolve_active_lights
  resolved_agrees = listed_front 8 (active_lights s) ∙ compacted_agrees

  pub compacted_masks : compacted_light_masks s ≡ record { active = compacted_mask a any_kind; directional = compacted_mask a is_directional; spot = compacted_mask a is_spot }
  unfolding compacted_light_masks masks_of compacted_mask
  compacted_masks = rw (compacted_agrees, low-bits (compacted a), kind_bits 3 (compacted a), kind_bits 2 (compacted a))

  -- ---- the word

  none_stored : eqb s.overflow_count 0 ≡ eqb (count_beyond a.lights) 0
  none_stored = ap (λ (n : ℕ). eqb n 0) (sym (count_used v) ∙ sym (beyond_used v) ∙ ap count_beyond g.lights)

  pub light_inputs_agree : vs_source_light_inputs s ≡ abstract_light_inputs a
  unfolding vs_source_light_inputs abstract_light_inputs
  light_inputs_agree =
      rw (
        none_stored,
        raw_kind is_directional s.light_directional_mask v.slots.directional_mask,
        raw_kind is_spot s.light_spot_mask v.slots.spot_mask,
        raw_active,
        compacted_masks,
      )
      (ap₂ (λ (x y : ℕ). cond (eqb (count_beyond a.lights) 0) x y) (bytes_are _ _ _ 0) (bytes_are _ _ _ 1))
