-- Reading the image of a valid state gives the state: each field reads as what was written, and the masks of types follow from the lights.
-- Assumes nothing.
use Prim.Native.Nat.{ℕ, ◌+◌, ◌-◌, ◌≤◌, ◌<◌, ◌^◌}
use native.Mathlib.Omega.{arith}
use mathlib.Core.Path.{◌≡◌, refl, sym, ap, ap₂, subst, ◌∙◌}
use mathlib.Core.Bool.{Bool, true, false}
use mathlib.Core.List.{List}
use lib.Dec.{lit<, ltb}
use lib.ListN.{get_or, get_or-replicate}
use lib.Seq.{get_or-drop}
use borrow.Author.Tests.{ltb-true, ltb-false}
use Rattle.codec.specs.Little.{number_at}
use Rattle.light_table.specs.Entry.{zero_entry}
use Rattle.light_table.specs.declared.entry.OverflowLight.{OverflowLight}
use Rattle.ff_state.specs.State.{dirty_word}
use Rattle.ff_state.specs.Valid.{Valid}
use Rattle.ff_state.proofs.Fields.{fields_are}
use Rattle.ff_state.specs.declared.state.FfState.{FfState}
use Rattle.image_lists.specs.Masks.{set_mask, type_mask, slot_set, slot_is}
use Rattle.image_lists.proofs.Back.{entryFits}
use Rattle.image.specs.Format.{image_bytes}
use Rattle.image.specs.Read.{state_of, lights_of, defined_of}
use Rattle.image.proofs.Format.{valid_sized}
use Rattle.image_laws.proofs.Masks.{mask_is}
use Rattle.image_laws.proofs.IsAt.{low_byte}
use Rattle.image_laws.proofs.Fields.{written, number_reads, mask_reads, matrix_reads, material_reads, states_read, matrices_read, lights_read, entries_read}

module _ (s : FfState) (v : Valid s) where
  set_mask_is : set_mask s.light_defined_mask s.lights ≡ s.light_set_mask
  unfolding set_mask
  set_mask_is = mask_is 8 s.light_set_mask (slot_set s.light_defined_mask s.lights) v.slots.set_width v.slots.set-mask

  directional_mask_is : type_mask 3 s.light_defined_mask s.lights ≡ s.light_directional_mask
  unfolding type_mask
  directional_mask_is =
      mask_is 8 s.light_directional_mask (slot_is 3 s.light_defined_mask s.lights) v.slots.directional_width v.slots.directional_mask

  spot_mask_is : type_mask 2 s.light_defined_mask s.lights ≡ s.light_spot_mask
  unfolding type_mask
  spot_mask_is = mask_is 8 s.light_spot_mask (slot_is 2 s.light_defined_mask s.lights) v.slots.spot_width v.slots.spot_mask

  -- behind the entries in use stand zero entries
  pub unused_is : (k : ℕ) → s.overflow_count ≤ k → k < 56 → get_or s.overflow_lights k zero_entry ≡ zero_entry
  unused_is k from less =
      let n = s.overflow_count in
      let e : n + (k - n) ≡ k = omega arith in
      ap (λ (i : ℕ). get_or s.overflow_lights i zero_entry) (sym e)
      ∙ sym (get_or-drop n s.overflow_lights (k - n) zero_entry)
      ∙ ap (λ (l : List OverflowLight). get_or l (k - n) zero_entry) v.overflow.unused
      ∙ get_or-replicate (56 - n) (k - n) zero_entry zero_entry (omega arith)

  -- what holds of the entries in use and of the zero entry holds of all 56
  every_entry : (P : OverflowLight → Type 0) → P zero_entry → ((k : ℕ) → k < s.overflow_count → P (get_or s.overflow_lights k zero_entry)) → (k : ℕ) → k < 56
      → P (get_or s.overflow_lights k zero_entry)
  every_entry P unused in_use k less = by_cases (ltb k s.overflow_count) refl
    where
      by_cases : (t : Bool) → ltb k s.overflow_count ≡ t → P (get_or s.overflow_lights k zero_entry)
      by_cases true e = in_use k (ltb-true k s.overflow_count e)
      by_cases false e = subst P (sym (unused_is k (ltb-false k s.overflow_count e) less)) unused

  entry_fits : (k : ℕ) → k < 56 → entryFits (get_or s.overflow_lights k zero_entry)
  unfolding zero_entry
  entry_fits k less =
      record {
        index = every_entry (λ (e : OverflowLight). e.index < 2 ^ 32) (lit< tt) v.overflow.indices k less;
        enabled = every_entry (λ (e : OverflowLight). e.enabled < 2 ^ 32) (lit< tt) (λ (j : ℕ) (l : j < s.overflow_count). omega (arith, v.overflow.flags j l)) k less;
        light = v.floats.overflow k less;
      }

  pub read_written : state_of (image_bytes s) ≡ s
  unfolding state_of
  read_written =
      let w = written s (valid_sized v) in
      let lights : lights_of (image_bytes s) ≡ s.lights = lights_read 8 s.lights v.lights_length v.floats.lights w.lights in
      let mask : number_at 4 (image_bytes s) 24_220 ≡ s.tt_active_mask = mask_reads v.texture-mask w.texture-mask in
      let defined : defined_of (image_bytes s) ≡ s.light_defined_mask = number_reads 1 s.light_defined_mask v.slots.defined_width w.defined in
      fields_are s
      (matrix_reads v.floats.view w.view)
      (matrix_reads v.floats.projection w.projection)
      (matrices_read 256 s.world_palette v.palette_length v.floats.palette w.palette)
      (number_reads 2 s.world_palette_high_water (omega (arith, v.high_water)) w.index)
      (matrices_read 8 s.texture_transforms v.texture_length v.floats.texture w.texture)
      (material_reads v.floats.material w.material)
      lights
      (number_reads 1 s.light_enabled v.slots.enabled_width w.enabled)
      (ap₂ set_mask defined lights ∙ set_mask_is)
      defined
      (ap₂ (type_mask 3) defined lights ∙ directional_mask_is)
      (ap₂ (type_mask 2) defined lights ∙ spot_mask_is)
      (entries_read 56 s.overflow_lights v.overflow_length entry_fits w.entries)
      (number_reads 2 s.overflow_count (omega (arith, v.overflow.count)) w.count)
      (number_reads 1 (dirty_word s) (omega (arith, v.dirty)) w.dirty)
      (states_read v.states w.states)
      (low_byte 3 (image_bytes s) 24_220 (omega (arith, v.texture-mask)) ∙ mask)
