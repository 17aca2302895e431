-- Entries whose bytes are all 0 read as the zero entry. They stand at the front of z zero bytes.
-- Assumes nothing.
use Prim.Native.Nat.{ℕ, ◌+◌, ◌-◌, ◌*◌, ◌≤◌, ◌<◌}
use native.Mathlib.Omega.{arith}
use mathlib.Core.Path.{◌≡◌, refl, sym, ap, ◌∙◌}
use mathlib.Core.Bool.{true}
use mathlib.Core.List.{List, flatten}
use lib.Dec.{lit<}
use lib.Ieee.{to_bits}
use lib.ListN.{length, get_or, drop, replicate, length-drop, length-replicate, get_or-replicate}
use lib.Seq.{get_or-drop, ext_get_or}
use borrow.Author.Tests.{eqb-true, eq-eqb}
use Rattle.codec.specs.Little.{little_bytes}
use Rattle.codec.specs.Float.{float_bytes}
use Rattle.codec.specs.Matrix.{row_bytes}
use Rattle.codec.specs.Color.{color_bytes}
use Rattle.codec.specs.Vector.{vector_bytes}
use Rattle.codec.specs.Light.{light_bytes}
use Rattle.light_table.specs.Entry.{zero_light, zero_entry}
use Rattle.light_table.proofs.ZeroLight.{zero_light_fits}
use Rattle.light_table.specs.declared.entry.OverflowLight.{OverflowLight}
use Rattle.codec.specs.Entry.{entry_bytes, entry_at}
use Rattle.image_lists.specs.Lists.{list_at}
use Rattle.image_reasons.specs.Tests.{zeros, zero_byte, same_bytes, same_byte}
use Rattle.codec.proofs.Laws.Entry.{length-entry_bytes, entry_at_skips, entry_at_starts}
use Rattle.image_reasons.proofs.Every.{every_holds, every_is}
use Rattle.image_lists.proofs.Reading.{length_list_at, get_d_list_at}
use Rattle.image_reasons.proofs.Meaning.{same_reads}

pub zero_bytes : entry_bytes zero_entry ≡ replicate 112 0
unfolding entry_bytes zero_entry zero_light light_bytes color_bytes row_bytes vector_bytes flatten float_bytes little_bytes to_bits
zero_bytes = refl

module _ (n : ℕ) (bytes : List ℕ) (at : ℕ) (few : n ≤ 56) (room : at + 6272 ≤ length bytes) (z : ℕ) (all : 6272 - 112 * n ≤ z) (h : zeros z bytes (at + 112 * n) ≡ true) where
  zero_here : (k j : ℕ) → n ≤ k → k < 56 → j < 112 → get_or bytes (at + 112 * k + j) 0 ≡ 0
  unfolding zeros
  zero_here k j from to less =
      let o : ℕ = 112 * k - 112 * n + j in
      let e : at + 112 * k + j ≡ at + 112 * n + o = omega arith in
      rw e (eqb-true (get_or bytes (at + 112 * n + o) 0) 0 (every_holds (zero_byte bytes (at + 112 * n)) z h o (omega arith)))

  same_zero : (k : ℕ) → n ≤ k → k < 56 → same_bytes (entry_bytes zero_entry) bytes (at + 112 * k) ≡ true
  unfolding same_bytes
  same_zero k from to =
      every_is (same_byte (entry_bytes zero_entry) bytes (at + 112 * k)) (length (entry_bytes zero_entry))
      (λ (j : ℕ) (l : j < length (entry_bytes zero_entry)).
      let less : j < 112 = rw length-entry_bytes at l in
      let there : get_or (entry_bytes zero_entry) j 0 ≡ 0 = rw zero_bytes (get_or-replicate 112 j 0 0 less) in
      eq-eqb (get_or bytes (at + 112 * k + j) 0) (get_or (entry_bytes zero_entry) j 0) (zero_here k j from to less ∙ sym there))

  pub unused_entry : (k : ℕ) → n ≤ k → k < 56 → entry_at bytes (at + 112 * k) ≡ zero_entry
  unfolding zero_entry
  unused_entry k from to =
      same_reads (entry_bytes zero_entry) bytes (at + 112 * k) (rw length-entry_bytes (omega arith)) (same_zero k from to) entry_at zero_entry entry_at_skips
      (entry_at_starts (lit< tt) (lit< tt) zero_light_fits)

  pub unused_entries : drop n (list_at entry_at 112 56 bytes at) ≡ replicate (56 - n) zero_entry
  unused_entries =
      let es : List OverflowLight = list_at entry_at 112 56 bytes at in
      let long : length (drop n es) ≡ 56 - n = length-drop n es ∙ ap (λ (m : ℕ). m - n) (length_list_at entry_at 112 56 bytes at) in
      ext_get_or zero_entry (drop n es) (replicate (56 - n) zero_entry) (long ∙ sym (length-replicate (56 - n) zero_entry))
      (λ (i : ℕ) (l : i < length (drop n es)).
      let less : i < 56 - n = rw long at l in
      get_or-drop n es i zero_entry
      ∙ get_d_list_at entry_at 112 56 bytes at (n + i) zero_entry (omega arith)
      ∙ unused_entry (n + i) (omega arith) (omega arith)
      ∙ sym (get_or-replicate (56 - n) i zero_entry zero_entry less))
