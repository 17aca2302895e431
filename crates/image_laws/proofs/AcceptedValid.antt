-- What is read from bytes that are not refused is a valid state.
-- Assumes nothing.
use Prim.Native.Nat.{ℕ, ◌-◌, ◌+◌, ◌*◌, ◌≤◌, ◌<◌, min}
use native.Mathlib.Omega.{arith}
use mathlib.Core.Path.{◌≡◌, sym, subst}
use mathlib.Core.Bool.{false}
use mathlib.Core.List.{List}
use lib.ListN.{get_or}
use Rattle.d3d9_types.specs.Light.{default_light, lightFits}
use Rattle.d3d9_types.specs.Matrix.{matrixFits}
use Rattle.d3d9_types.specs.declared.light.D3DLIGHT9.{D3DLIGHT9}
use Rattle.codec.specs.Little.{number_at, Bytes}
use Rattle.codec.specs.Matrix.{matrix_at}
use Rattle.codec.specs.Light.{light_at}
use Rattle.codec.proofs.Laws.Little.{number_at_lt}
use Rattle.codec.proofs.Laws.Matrix.{matrix_at_fits}
use Rattle.codec.proofs.Laws.Material.{material_at_fits}
use Rattle.codec.proofs.Laws.Light.{light_at_fits}
use Rattle.codec.proofs.Laws.RenderStates.{states_at_fits}
use Rattle.words.specs.Bits.{has_bit}
use Rattle.light_table.specs.Entry.{zero_entry}
use Rattle.light_table.specs.Overflow.{used_count}
use Rattle.light_table.specs.declared.entry.OverflowLight.{OverflowLight}
use Rattle.ff_state.specs.State.{no_matrix}
use Rattle.ff_state.specs.Valid.{Valid, SlotsValid, OverflowValid, FloatsValid}
use Rattle.codec.specs.Entry.{entry_at}
use Rattle.image_lists.specs.Lists.{list_at}
use Rattle.image_lists.specs.Masks.{set_mask, type_mask, slot_set, slot_is}
use Rattle.image_reasons.specs.Length.{entries_end}
use Rattle.image_reasons.specs.Reasons.{count_of, unused_from, refused}
use Rattle.image_reasons.proofs.Accepted.{Accepted, accepted}
use Rattle.image_reasons.proofs.Meaning.{ascends_is, flags_are, bits_are, slots_are}
use Rattle.image_reasons.proofs.Unused.{unused_entries}
use Rattle.image_lists.proofs.Reading.{length_list_at, get_d_list_at, take_list_at}
use Rattle.image.specs.Read.{state_of, lights_of, defined_of}
use Rattle.image_laws.proofs.Masks.{mask_lt, mask_has}

-- what holds of each item of a list that is read holds of its entries
listed : {A : Type 0} (P : A → Type 0) (read : List ℕ → ℕ → A) (size n : ℕ) (bytes : List ℕ) (at i : ℕ) (d : A) → i < n → P (read bytes (at + size * i))
    → P (get_or (list_at read size n bytes at) i d)
listed P read size n bytes at i d l h = subst P (sym (get_d_list_at read size n bytes at i d l)) h

module _ (bytes : List ℕ) (b : Bytes bytes) (a : Accepted bytes) where
  slots_valid : let s = state_of bytes in SlotsValid s.lights s.light_enabled s.light_set_mask s.light_defined_mask s.light_directional_mask s.light_spot_mask
  unfolding state_of set_mask type_mask
  slots_valid =
      let set = slot_set (defined_of bytes) (lights_of bytes) in
      let directional = slot_is 3 (defined_of bytes) (lights_of bytes) in
      let spot = slot_is 2 (defined_of bytes) (lights_of bytes) in
      record {
        enabled_width = number_at_lt 1 bytes 17_924 b;
        set_width = mask_lt set 8;
        defined_width = number_at_lt 1 bytes 17_925 b;
        directional_width = mask_lt directional 8;
        spot_width = mask_lt spot 8;
        enabled_defined = bits_are (number_at 1 bytes 17_924) (defined_of bytes) a.enabled_defined;
        undefined_default =
            λ (i : ℕ) (l : i < 8) (off : has_bit (defined_of bytes) i ≡ false).
            listed (λ (x : D3DLIGHT9). x ≡ default_light) light_at 104 8 bytes 17_092 i default_light l (slots_are (defined_of bytes) bytes 17_092 (omega (arith, a.long)) a.undefined_default i l off);
        set-mask = mask_has set 8;
        directional_mask = mask_has directional 8;
        spot_mask = mask_has spot 8;
      }

  overflow_valid : OverflowValid (state_of bytes).overflow_lights (state_of bytes).overflow_count
  unfolding state_of used_count entry_at
  overflow_valid =
      let all : min (count_of bytes) 56 ≡ count_of bytes = omega (arith, a.count) in
      record {
        count = a.count;
        sorted = rw (all, take_list_at entry_at 112 (count_of bytes) 56 bytes 17_932 a.count) (ascends_is (count_of bytes) bytes 17_932 a.sorted);
        flags =
            λ (k : ℕ) (l : k < count_of bytes).
            listed (λ (e : OverflowLight). e.enabled ≤ 1) entry_at 112 56 bytes 17_932 k zero_entry (omega (arith, a.count)) (flags_are (count_of bytes) bytes 17_932 a.enables k l);
        indices =
            λ (k : ℕ) (l : k < count_of bytes).
            listed (λ (e : OverflowLight). e.index < 0x1_0000_0000) entry_at 112 56 bytes 17_932 k zero_entry (omega (arith, a.count))
            (number_at_lt 4 bytes (17_932 + 112 * k) b);
        unused = unused_entries (count_of bytes) bytes 17_932 a.count (omega (arith, a.long)) (entries_end - unused_from bytes) (omega (arith, a.count)) a.unused;
      }

  floats_valid : let s = state_of bytes in FloatsValid s.view s.projection s.world_palette s.texture_transforms s.material s.lights s.overflow_lights
  unfolding state_of entry_at
  floats_valid =
      record {
        view = matrix_at_fits bytes 0;
        projection = matrix_at_fits bytes 64;
        palette = λ (i : ℕ) (l : i < 256). listed matrixFits matrix_at 64 256 bytes 128 i no_matrix l (matrix_at_fits bytes (128 + 64 * i));
        texture = λ (i : ℕ) (l : i < 8). listed matrixFits matrix_at 64 8 bytes 16_512 i no_matrix l (matrix_at_fits bytes (16_512 + 64 * i));
        material = material_at_fits bytes 17_024;
        lights = λ (i : ℕ) (l : i < 8). listed lightFits light_at 104 8 bytes 17_092 i default_light l (light_at_fits bytes (17_092 + 104 * i) b);
        overflow =
            λ (k : ℕ) (l : k < 56).
            listed (λ (e : OverflowLight). lightFits e.light) entry_at 112 56 bytes 17_932 k zero_entry l (light_at_fits bytes (17_932 + 112 * k + 8) b);
      }

  state_valid : Valid (state_of bytes)
  unfolding state_of
  state_valid =
      record {
        palette_length = length_list_at matrix_at 64 256 bytes 128;
        texture_length = length_list_at matrix_at 64 8 bytes 16_512;
        lights_length = length_list_at light_at 104 8 bytes 17_092;
        overflow_length = length_list_at entry_at 112 56 bytes 17_932;
        high_water = a.index;
        dirty = omega (arith, number_at_lt 1 bytes 17_926 b);
        slots = slots_valid;
        overflow = overflow_valid;
        states = states_at_fits bytes 24_204 b;
        texture-mask = number_at_lt 1 bytes 24_220 b;
        floats = floats_valid;
      }

pub accepted_valid : (bytes : List ℕ) → Bytes bytes → refused bytes ≡ false → Valid (state_of bytes)
accepted_valid bytes b h = state_valid bytes b (accepted bytes h)
