-- The tests of an image's numbers: each by the number m at its place, which was read as n; and that an image which passes them has at most 56 entries in use.
-- Assumes nothing.
use Prim.Native.Nat.{ℕ, ◌≤◌, ◌<◌}
use mathlib.Core.Path.{◌≡◌, refl, sym, ap, ◌∙◌}
use mathlib.Core.Bool.{Bool, true, false, not, ◌||◌}
use mathlib.Core.List.{List}
use lib.Dec.{ltb, eqb}
use borrow.Author.Tests.{lt-ltb, le-ltb, eq-eqb, ne_eqb, ltb-false}
use lib.ListN.{length}
use Rattle.image_reasons.specs.Length.{image_length}
use Rattle.image_reasons.specs.Reasons.{refused, entries_refused, slots_refused, another_nan, mask_above_255, zero_byte_set, index_above_255, count_of, numbers_refused}
use Rattle.lemmas.proofs.Tests.{neither}

module _ (b : ℕ) {n m : ℕ} (read : n ≡ m) where
  pub above : b < n → ltb b m ≡ true
  above h = ap (λ (k : ℕ). ltb b k) (sym read) ∙ lt-ltb b n h

  pub not_above : n ≤ b → ltb b m ≡ false
  not_above h = ap (λ (k : ℕ). ltb b k) (sym read) ∙ le-ltb b n h

  pub differs : (n ≡ b → ⊥) → not (eqb m b) ≡ true
  differs h = ap (λ (k : ℕ). not (eqb k b)) (sym read) ∙ ap not (ne_eqb n b h)

  pub differs_not : n ≡ b → not (eqb m b) ≡ false
  differs_not h = ap (λ (k : ℕ). not (eqb k b)) (sym read) ∙ ap not (eq-eqb n b h)

pub few_entries : (bytes : List ℕ) → numbers_refused bytes ≡ false → count_of bytes ≤ 56
unfolding numbers_refused
few_entries bytes h =
    ltb-false 56 (count_of bytes) (neither (index_above_255 bytes) _ (neither (zero_byte_set bytes) _ (neither (mask_above_255 bytes) _ h).1).1).1

pub or_assoc4 : (a b c d : Bool) → (((a || b) || c) || d) ≡ (a || (b || (c || d)))
or_assoc4 true b c d = refl
or_assoc4 false true c d = refl
or_assoc4 false false c d = refl

-- of bytes as long as an image the other reasons are left
pub of_image : (r : Bool) (bytes : List ℕ) → length bytes ≡ image_length → r ≡ (numbers_refused bytes || (entries_refused bytes || (slots_refused bytes || another_nan bytes))) → r ≡ refused bytes
unfolding refused
of_image r bytes l e = rw (eq-eqb (length bytes) image_length l) e
