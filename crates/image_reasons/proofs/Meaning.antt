-- What the tests say of bytes that pass them: which light, which entries and which floats are read from them.
-- Assumes nothing.
use Prim.Native.Nat.{ℕ, ◌+◌, ◌*◌, ◌%◌, ◌^◌, ◌≤◌, ◌<◌}
use native.Mathlib.Omega.{arith}
use mathlib.Core.Path.{◌≡◌, refl, sym, ap, subst, ◌∙◌}
use mathlib.Core.Bool.{Bool, true, false, not, ◌||◌, true≢false}
use mathlib.Core.List.{List, ◌++◌}
use lib.Dec.{T, leb, eqb}
use lib.Ieee.{binary32, is_nan, to_bits, of_bits}
use lib.Ieee.Bits.{to_bits-of_bits, nan_bits_is}
use lib.ListN.{length, get_or, take, drop, length-drop, take-append-drop}
use lib.Seq.{length-take-le, get_or-take, get_or-drop, ext_get_or}
use borrow.Author.Tests.{eqb-true, leb-true}
use Rattle.d3d9_types.proofs.Fits.{default_light_fits}
use Rattle.d3d9_types.specs.Light.{default_light}
use Rattle.float32.proofs.Nan.{below_is_no_nan}
use Rattle.codec.specs.Float.{float_at}
use Rattle.codec.specs.Little.{number_at}
use Rattle.codec.specs.Light.{light_bytes, light_at}
use Rattle.codec.proofs.Inside.{Skips, Starts, inside}
use Rattle.codec.proofs.Laws.Light.{length-light_bytes, light_at_skips, light_at_starts}
use Rattle.words.specs.Bits.{has_bit}
use Rattle.light_table.specs.Overflow.{ascending}
use Rattle.codec.specs.Entry.{entry_at}
use Rattle.image_lists.specs.Lists.{list_at}
use Rattle.image_reasons.specs.Tests.{plain_word, plain_at, nan_free, plain_light, lights_nan_free, plain_entry, entries_nan_free, ascends, flags, flag_at, same_bytes, same_byte, default_at, slot_default, slots_default, bit_defined, bits_defined}
use Rattle.image_reasons.proofs.Every.{every_holds}

module _ (ws bytes : List ℕ) (at : ℕ) (room : at + length ws ≤ length bytes) (h : same_bytes ws bytes at ≡ true) where
  -- ws stand there
  pub same_is : take (length ws) (drop at bytes) ≡ ws
  unfolding same_bytes
  same_is =
      let rest : length ws ≤ length (drop at bytes) = rw length-drop (omega arith) in
      let long : length (take (length ws) (drop at bytes)) ≡ length ws = length-take-le (length ws) (drop at bytes) rest in
      ext_get_or 0 (take (length ws) (drop at bytes)) ws long
      (λ (i : ℕ) (l : i < length (take (length ws) (drop at bytes))).
      let less : i < length ws = rw long at l in
      get_or-take (length ws) (drop at bytes) i 0 less
      ∙ get_or-drop at bytes i 0
      ∙ eqb-true (get_or bytes (at + i) 0) (get_or ws i 0) (every_holds (same_byte ws bytes at) (length ws) h i less))

  -- and read as what they read as anywhere
  pub same_reads : {A : Type 0} (read : List ℕ → ℕ → A) (x : A) → Skips read → Starts read ws x → read bytes at ≡ x
  same_reads read x skips starts =
      let parts : bytes ≡ take at bytes ++ (ws ++ drop (length ws) (drop at bytes)) =
      sym (take-append-drop at bytes)
      ∙ ap (λ (l : List ℕ). take at bytes ++ l) (sym (take-append-drop (length ws) (drop at bytes)) ∙ ap (λ (l : List ℕ). l ++ drop (length ws) (drop at bytes)) same_is) in
      ap (λ (l : List ℕ). read l at) parts
      ∙ inside read skips ws x starts (take at bytes) (drop (length ws) (drop at bytes)) at (length-take-le at bytes (omega arith))

-- a slot that passes holds the default light
pub default_is : (bytes : List ℕ) (at : ℕ) → at + 104 ≤ length bytes → default_at bytes at ≡ true → light_at bytes at ≡ default_light
unfolding default_at
default_is bytes at room h =
    same_reads (light_bytes default_light) bytes at (rw length-light_bytes room) h light_at default_light light_at_skips (light_at_starts default_light_fits)

the_nan : to_bits binary32 (of_bits binary32 0x7FC0_0000) ≡ 0x7FC0_0000
unfolding to_bits of_bits
the_nan = refl

-- a word that passes is written as it was read
pub plain_back : (n : ℕ) → n < 2 ^ 32 → plain_word n ≡ true → to_bits binary32 (of_bits binary32 n) ≡ n
unfolding plain_word
plain_back n small h = by_cases (leb (n % 0x8000_0000) 0x7F80_0000) refl h
  where
    by_cases : (t : Bool) → leb (n % 0x8000_0000) 0x7F80_0000 ≡ t → (t || eqb n 0x7FC0_0000) ≡ true → to_bits binary32 (of_bits binary32 n) ≡ n
    by_cases true e p =
        let no : is_nan (of_bits binary32 n) ≡ false = sym (nan_bits_is binary32 n) ∙ below_is_no_nan n (leb-true (n % 0x8000_0000) 0x7F80_0000 e) in
        to_bits-of_bits binary32 n small (subst (λ (b : Bool). T (not b)) (sym no) tt)
    by_cases false e p =
        let is : n ≡ 0x7FC0_0000 = eqb-true n 0x7FC0_0000 p in
        ap (λ (k : ℕ). to_bits binary32 (of_bits binary32 k)) is ∙ the_nan ∙ sym is

-- the float there is written as it was read, if what stands there is bytes
abbrev pub WrittenAsRead : List ℕ → ℕ → Type 0
WrittenAsRead bytes at = number_at 4 bytes at < 2 ^ 32 → to_bits binary32 (float_at bytes at) ≡ number_at 4 bytes at

pub floats_back : (n : ℕ) (bytes : List ℕ) (at : ℕ) → nan_free n bytes at ≡ true → (k : ℕ) → k < n → WrittenAsRead bytes (at + 4 * k)
unfolding nan_free float_at
floats_back n bytes at h k l small = plain_back (number_at 4 bytes (at + 4 * k)) small (every_holds (plain_at bytes at) n h k l)

-- ---- entries: n of them from a place on

module _ (n : ℕ) (bytes : List ℕ) (at : ℕ) where
  pub ascends_is : ascends n bytes at ≡ true → ascending 8 (list_at entry_at 112 n bytes at) ≡ true
  unfolding ascends
  ascends_is h = h

  pub flags_are : flags n bytes at ≡ true → (k : ℕ) → k < n → (entry_at bytes (at + 112 * k)).enabled ≤ 1
  unfolding flags
  flags_are h k l = leb-true (entry_at bytes (at + 112 * k)).enabled 1 (every_holds (flag_at bytes at) n h k l)

-- ---- slots

or_here : (a b : Bool) → (a || b) ≡ true → a ≡ false → b ≡ true
or_here true b h e = absurd (true≢false e)
or_here false b h e = h

implies : (a b : Bool) → (not a || b) ≡ true → a ≡ true → b ≡ true
implies true b h e = h
implies false b h e = absurd (true≢false (sym e))

pub bits_are : (e d : ℕ) → bits_defined e d ≡ true → (i : ℕ) → i < 8 → has_bit e i ≡ true → has_bit d i ≡ true
unfolding bits_defined
bits_are e d h i l on = implies (has_bit e i) (has_bit d i) (every_holds (bit_defined e d) 8 h i l) on

pub slots_are : (d : ℕ) (bytes : List ℕ) (at : ℕ) → at + 832 ≤ length bytes → slots_default d bytes at ≡ true → (i : ℕ) → i < 8 → has_bit d i ≡ false
    → light_at bytes (at + 104 * i) ≡ default_light
unfolding slots_default
slots_are d bytes at room h i l off =
    default_is bytes (at + 104 * i) (omega arith) (or_here (has_bit d i) (default_at bytes (at + 104 * i)) (every_holds (slot_default d bytes at) 8 h i l) off)

-- ---- "another NaN": each float of the slots' lights and of all entries

module _ (bytes : List ℕ) (at : ℕ) where
  pub light_floats_back : lights_nan_free bytes at ≡ true → (i k : ℕ) → i < 8 → k < 25 → WrittenAsRead bytes (at + 104 * i + 4 + 4 * k)
  unfolding lights_nan_free
  light_floats_back h i k l = floats_back 25 bytes (at + 104 * i + 4) (every_holds (plain_light bytes at) 8 h i l) k

  pub entry-floats_back : entries_nan_free bytes at ≡ true → (i k : ℕ) → i < 56 → k < 25 → WrittenAsRead bytes (at + 112 * i + 12 + 4 * k)
  unfolding entries_nan_free
  entry-floats_back h i k l = floats_back 25 bytes (at + 112 * i + 12) (every_holds (plain_entry bytes at) 56 h i l) k
