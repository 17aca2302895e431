-- The image of a valid state passes every test, so it is not refused.
-- Assumes nothing.
use Prim.Native.Nat.{ℕ, ◌+◌, ◌-◌, ◌*◌, ◌/◌, ◌%◌, ◌≤◌, ◌<◌, min}
use native.Mathlib.Omega.{arith}
use mathlib.Core.Path.{◌≡◌, refl, sym, ap, ◌∙◌}
use mathlib.Core.Bool.{Bool, true, false, not, ◌||◌}
use mathlib.Core.List.{List}
use lib.Dec.{lit<}
use lib.ListN.{length, get_or, replicate, get_or-replicate}
use borrow.Author.Tests.{le-leb, eq-eqb}
use Rattle.d3d9_types.specs.Light.{default_light}
use Rattle.d3d9_types.specs.Matrix.{matrixFits}
use Rattle.d3d9_types.specs.declared.matrix.D3DMATRIX.{D3DMATRIX}
use Rattle.codec.specs.Little.{number_at}
use Rattle.codec.specs.Matrix.{matrix_bytes}
use Rattle.codec.specs.Light.{light_bytes}
use Rattle.codec.proofs.Laws.Matrix.{length-matrix_bytes}
use Rattle.codec.proofs.Laws.Light.{length-light_bytes}
use Rattle.words.specs.Bits.{has_bit}
use Rattle.light_table.specs.Entry.{zero_entry}
use Rattle.light_table.specs.Overflow.{used_count}
use Rattle.light_table.specs.declared.entry.OverflowLight.{OverflowLight}
use Rattle.ff_state.specs.State.{no_matrix}
use Rattle.ff_state.specs.Valid.{Valid, slot_light}
use Rattle.ff_state.specs.declared.state.FfState.{FfState}
use Rattle.codec.specs.Entry.{entry_bytes, entry_at}
use Rattle.image_reasons.specs.Length.{entries_end, image_length}
use Rattle.image_lists.specs.Lists.{list_bytes, list_at}
use Rattle.image_reasons.specs.Tests.{nan_free, lights_nan_free, plain_light, entries_nan_free, plain_entry, ascends, flags, flag_at, zeros, zero_byte, bits_defined, bit_defined, slots_default, slot_default, default_at}
use Rattle.image_reasons.specs.Reasons.{count_of, refused}
use Rattle.image_reasons.proofs.Accepted.{Accepted, not-refused}
use Rattle.image_reasons.proofs.Every.{every_is}
use Rattle.codec.proofs.Laws.Entry.{length-entry_bytes}
use Rattle.image_lists.proofs.Reading.{get_d_list_at, take_list_at}
use Rattle.image_reasons.proofs.Unused.{zero_bytes}
use Rattle.image.specs.Format.{image_bytes}
use Rattle.image.specs.Read.{state_of}
use Rattle.image.proofs.Format.{valid_sized, length_image_bytes}
use Rattle.image_laws.proofs.IsAt.{IsAt, held_is, item_is, byte_is}
use Rattle.image_laws.proofs.Fields.{Written, written, number_reads, mask_reads}
use Rattle.image_laws.proofs.ReadWritten.{unused_is, read_written}
use Rattle.image_laws.proofs.Passes.{matrix_pass, material_pass, light_pass, entry_pass, fog_pass, nan_join, nan_items, is_same}

implies : (a b : Bool) → (a ≡ true → b ≡ true) → (not a || b) ≡ true
implies true b h = h refl
implies false b h = refl

or_else : (a b : Bool) → (a ≡ false → b ≡ true) → (a || b) ≡ true
or_else true b h = refl
or_else false b h = h refl

most : {n : ℕ} → n < 256 → n ≤ 255
most h = omega arith

module _ (s : FfState) (v : Valid s) (bytes : List ℕ) (w : Written s bytes) where
  -- ---- floats

  matrices_pass : (n at : ℕ) (ms : List D3DMATRIX) → length ms ≡ n → ((i : ℕ) → i < n → matrixFits (get_or ms i no_matrix)) → IsAt (list_bytes matrix_bytes ms) bytes at
      → nan_free (16 * n) bytes at ≡ true
  matrices_pass n at ms e fits h =
      nan_items bytes at 16 n
      (λ (i : ℕ) (l : i < n).
      matrix_pass bytes (at + 64 * i) (get_or ms i no_matrix) (fits i l) (item_is matrix_bytes 64 length-matrix_bytes bytes no_matrix ms at i h (rw e l)))

  floats_pass : nan_free 4_273 bytes 0 ≡ true
  floats_pass =
      let f = v.floats in
      nan_join bytes 0 16 4_257 (matrix_pass bytes 0 s.view f.view (held_is w.view))
      (nan_join bytes 64 16 4_241 (matrix_pass bytes 64 s.projection f.projection (held_is w.projection))
      (nan_join bytes 128 4_096 145 (matrices_pass 256 128 s.world_palette v.palette_length f.palette (held_is w.palette))
      (nan_join bytes 16_512 128 17 (matrices_pass 8 16_512 s.texture_transforms v.texture_length f.texture (held_is w.texture))
      (material_pass bytes 17_024 s.material f.material (held_is w.material)))))

  light_is : (i : ℕ) → i < 8 → IsAt (light_bytes (slot_light s i)) bytes (17_092 + 104 * i)
  light_is i l = item_is light_bytes 104 length-light_bytes bytes default_light s.lights 17_092 i (held_is w.lights) (rw v.lights_length l)

  entry_is : (k : ℕ) → k < 56 → IsAt (entry_bytes (get_or s.overflow_lights k zero_entry)) bytes (17_932 + 112 * k)
  entry_is k l = item_is entry_bytes 112 length-entry_bytes bytes zero_entry s.overflow_lights 17_932 k (held_is w.entries) (rw v.overflow_length l)

  lights_pass : lights_nan_free bytes 17_092 ≡ true
  unfolding lights_nan_free
  lights_pass =
      every_is (plain_light bytes 17_092) 8
      (λ (i : ℕ) (l : i < 8). light_pass bytes (17_092 + 104 * i) (slot_light s i) (v.floats.lights i l) (light_is i l))

  entries_pass : entries_nan_free bytes 17_932 ≡ true
  unfolding entries_nan_free
  entries_pass =
      every_is (plain_entry bytes 17_932) 56
      (λ (k : ℕ) (l : k < 56). entry_pass bytes (17_932 + 112 * k) (get_or s.overflow_lights k zero_entry) (v.floats.overflow k l) (entry_is k l))

  -- ---- slots

  enabled_pass : bits_defined s.light_enabled s.light_defined_mask ≡ true
  unfolding bits_defined
  enabled_pass =
      every_is (bit_defined s.light_enabled s.light_defined_mask) 8
      (λ (i : ℕ) (l : i < 8). implies (has_bit s.light_enabled i) (has_bit s.light_defined_mask i) (v.slots.enabled_defined i l))

  slots_pass : slots_default s.light_defined_mask bytes 17_092 ≡ true
  unfolding slots_default default_at
  slots_pass =
      every_is (slot_default s.light_defined_mask bytes 17_092) 8
      (λ (i : ℕ) (l : i < 8).
      or_else (has_bit s.light_defined_mask i) (default_at bytes (17_092 + 104 * i))
      (λ (off : has_bit s.light_defined_mask i ≡ false).
      is_same (light_bytes default_light) bytes (17_092 + 104 * i) (rw (v.slots.undefined_default i l off) at (light_is i l))))

  -- ---- entries: n in use

  module _ (n : ℕ) (e : n ≡ s.overflow_count) (read : list_at entry_at 112 56 bytes 17_932 ≡ s.overflow_lights) where
    sorted_pass : ascends n bytes 17_932 ≡ true
    unfolding ascends used_count
    sorted_pass =
        let few : n ≤ 56 = omega (arith, v.overflow.count) in
        let all : min s.overflow_count 56 ≡ n = omega (arith, v.overflow.count) in
        rw (← take_list_at entry_at 112 n 56 bytes 17_932 few, read) (rw all at v.overflow.sorted)

    enables_pass : flags n bytes 17_932 ≡ true
    unfolding flags
    enables_pass =
        every_is (flag_at bytes 17_932) n
        (λ (k : ℕ) (l : k < n).
        let less : k < 56 = omega (arith, v.overflow.count) in
        let is : entry_at bytes (17_932 + 112 * k) ≡ get_or s.overflow_lights k zero_entry =
        sym (get_d_list_at entry_at 112 56 bytes 17_932 k zero_entry less) ∙ ap (λ (es : List OverflowLight). get_or es k zero_entry) read in
        le-leb (entry_at bytes (17_932 + 112 * k)).enabled 1 (rw is (v.overflow.flags k (omega arith))))

    -- byte o of the entries, from an unused entry on
    unused_zero : (o : ℕ) → 112 * n ≤ o → o < 6_272 → get_or bytes (17_932 + o) 0 ≡ 0
    unused_zero o above below =
        let k = o / 112 in
        let r = o % 112 in
        let less : k < 56 = omega (arith, v.overflow.count) in
        let from : s.overflow_count ≤ k = omega (arith, v.overflow.count) in
        let place : 17_932 + o ≡ 17_932 + 112 * k + r = omega arith in
        let is : IsAt (replicate 112 0) bytes (17_932 + 112 * k) = rw (unused_is s v k from less, zero_bytes) at (entry_is k less) in
        rw place (byte_is (replicate 112 0) bytes (17_932 + 112 * k) r is (omega arith) ∙ get_or-replicate 112 r 0 0 (omega arith))

    unused_pass : zeros (entries_end - (17_932 + 112 * n)) bytes (17_932 + 112 * n) ≡ true
    unfolding zeros
    unused_pass =
        every_is (zero_byte bytes (17_932 + 112 * n)) (entries_end - (17_932 + 112 * n))
        (λ (j : ℕ) (l : j < entries_end - (17_932 + 112 * n)).
        let o = 112 * n + j in
        let place : 17_932 + 112 * n + j ≡ 17_932 + o = omega arith in
        rw place (eq-eqb (get_or bytes (17_932 + o) 0) 0 (unused_zero o (omega arith) (omega arith))))

  written_passes : length bytes ≡ image_length → state_of bytes ≡ s → Accepted bytes
  unfolding state_of
  written_passes long read =
      let count : count_of bytes ≡ s.overflow_count = ap (λ (t : FfState). t.overflow_count) read in
      let enabled : number_at 1 bytes 17_924 ≡ s.light_enabled = ap (λ (t : FfState). t.light_enabled) read in
      let defined : number_at 1 bytes 17_925 ≡ s.light_defined_mask = ap (λ (t : FfState). t.light_defined_mask) read in
      let mask : number_at 4 bytes 24_220 ≡ s.tt_active_mask = mask_reads v.texture-mask w.texture-mask in
      let index : number_at 2 bytes 17_928 ≡ s.world_palette_high_water = ap (λ (t : FfState). t.world_palette_high_water) read in
      let entries : list_at entry_at 112 56 bytes 17_932 ≡ s.overflow_lights = ap (λ (t : FfState). t.overflow_lights) read in
      record {
        long = long;
        mask = rw mask (most v.texture-mask);
        zero = number_reads 1 0 (lit< tt) w.zero;
        index = rw index v.high_water;
        count = rw count v.overflow.count;
        sorted = sorted_pass (count_of bytes) count entries;
        enables = enables_pass (count_of bytes) count entries;
        unused = unused_pass (count_of bytes) count entries;
        enabled_defined = rw (enabled, defined) enabled_pass;
        undefined_default = rw defined slots_pass;
        floats = floats_pass;
        light-floats = lights_pass;
        entry-floats = entries_pass;
        fog_floats = fog_pass bytes 24_204 s.render_states v.states (held_is w.states);
      }

pub valid_accepted : (s : FfState) → Valid s → refused (image_bytes s) ≡ false
valid_accepted s v =
    let z = valid_sized v in
    not-refused (image_bytes s) (written_passes s v (image_bytes s) (written s z) (length_image_bytes s z) (read_written s v))
