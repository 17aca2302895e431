-- An image is refused for no reason exactly if it passes each test: the tests one by one, from the chain of reasons and back to it.
-- Assumes nothing.
use Prim.Native.Nat.{ℕ, ◌+◌, ◌-◌, ◌*◌, ◌≤◌}
use mathlib.Core.Path.{◌≡◌, refl}
use mathlib.Core.Bool.{Bool, true, false, not, ◌&&◌, ◌||◌, and-eq-true_iff}
use mathlib.Core.List.{List}
use lib.Dec.{eqb}
use lib.ListN.{length}
use borrow.Author.Tests.{ltb-false, le-ltb, eqb-true, eq-eqb, not-false}
use Rattle.codec.specs.Little.{number_at}
use Rattle.lemmas.proofs.Tests.{neither}
use Rattle.image_reasons.specs.Length.{entries_end, image_length}
use Rattle.image_reasons.specs.Tests.{nan_free, lights_nan_free, entries_nan_free, ascends, flags, zeros, bits_defined, slots_default}
use Rattle.image_reasons.specs.Reasons.{another_length, mask_above_255, zero_byte_set, index_above_255, count_of, unused_from, numbers_refused, not_ascending, enable_not_flag, entries_refused, enabled_undefined, slots_refused, another_nan, refused}
use Rattle.image_reasons.proofs.Numbers.{few_entries}

-- 56 entries end where the fog begins, and an image ends with its texture mask
pub entries-end : 17_932 + 112 * 56 ≡ entries_end
entries-end = refl

pub mask_last : 24_220 + 4 ≡ image_length
mask_last = refl

-- What the tests of Tests say of the bytes that pass them is in Meaning and in Unused.
pub record Accepted (bytes : List ℕ) : Type 0 where
  pub long : length bytes ≡ image_length
  pub mask : number_at 4 bytes 24_220 ≤ 255
  pub zero : number_at 1 bytes 17_927 ≡ 0
  pub index : number_at 2 bytes 17_928 ≤ 255
  pub count : count_of bytes ≤ 56
  pub sorted : ascends (count_of bytes) bytes 17_932 ≡ true
  pub enables : flags (count_of bytes) bytes 17_932 ≡ true
  pub unused : zeros (entries_end - unused_from bytes) bytes (unused_from bytes) ≡ true
  pub enabled_defined : bits_defined (number_at 1 bytes 17_924) (number_at 1 bytes 17_925) ≡ true
  pub undefined_default : slots_default (number_at 1 bytes 17_925) bytes 17_092 ≡ true
  pub floats : nan_free 4_273 bytes 0 ≡ true
  pub light-floats : lights_nan_free bytes 17_092 ≡ true
  pub entry-floats : entries_nan_free bytes 17_932 ≡ true
  pub fog_floats : nan_free 3 bytes 24_204 ≡ true

pub accepted : (bytes : List ℕ) → refused bytes ≡ false → Accepted bytes
unfolding refused numbers_refused entries_refused slots_refused another_nan
accepted bytes h =
    let h₁ = neither (another_length bytes) _ h in
    let h₂ = neither (numbers_refused bytes) _ h₁.1 in
    let h₃ = neither (entries_refused bytes) _ h₂.1 in
    let h₄ = neither (slots_refused bytes) _ h₃.1 in
    let n₁ = neither (mask_above_255 bytes) _ h₂.0 in
    let n₂ = neither (zero_byte_set bytes) _ n₁.1 in
    let e₁ = neither (not_ascending bytes) _ h₃.0 in
    let e₂ = neither (enable_not_flag bytes) _ e₁.1 in
    let s₁ = neither (enabled_undefined bytes) _ h₄.0 in
    let f₁ =
    (and-eq-true_iff (nan_free 4_273 bytes 0) (lights_nan_free bytes 17_092 && (entries_nan_free bytes 17_932 && nan_free 3 bytes 24_204))).0
    (not-false (nan_free 4_273 bytes 0 && (lights_nan_free bytes 17_092 && (entries_nan_free bytes 17_932 && nan_free 3 bytes 24_204))) h₄.1) in
    let f₂ = (and-eq-true_iff (lights_nan_free bytes 17_092) (entries_nan_free bytes 17_932 && nan_free 3 bytes 24_204)).0 f₁.1 in
    let f₃ = (and-eq-true_iff (entries_nan_free bytes 17_932) (nan_free 3 bytes 24_204)).0 f₂.1 in
    record {
      long = eqb-true (length bytes) image_length (not-false (eqb (length bytes) image_length) h₁.0);
      mask = ltb-false 255 (number_at 4 bytes 24_220) n₁.0;
      zero = eqb-true (number_at 1 bytes 17_927) 0 (not-false (eqb (number_at 1 bytes 17_927) 0) n₂.0);
      index = ltb-false 255 (number_at 2 bytes 17_928) (neither (index_above_255 bytes) _ n₂.1).0;
      count = few_entries bytes h₂.0;
      sorted = not-false (ascends (count_of bytes) bytes 17_932) e₁.0;
      enables = not-false (flags (count_of bytes) bytes 17_932) e₂.0;
      unused = not-false (zeros (entries_end - unused_from bytes) bytes (unused_from bytes)) e₂.1;
      enabled_defined = not-false (bits_defined (number_at 1 bytes 17_924) (number_at 1 bytes 17_925)) s₁.0;
      undefined_default = not-false (slots_default (number_at 1 bytes 17_925) bytes 17_092) s₁.1;
      floats = f₁.0;
      light-floats = f₂.0;
      entry-floats = f₃.0;
      fog_floats = f₃.1;
    }

no_reason : {a b : Bool} → a ≡ false → b ≡ false → (a || b) ≡ false
no_reason p q = rw (p, q)

all_pass : {a b : Bool} → a ≡ true → b ≡ true → (a && b) ≡ true
all_pass p q = rw (p, q)

passed : {t : Bool} → t ≡ true → not t ≡ false
passed p = rw p

pub not-refused : (bytes : List ℕ) → Accepted bytes → refused bytes ≡ false
unfolding refused numbers_refused entries_refused slots_refused another_nan
not-refused bytes a =
    let length_is = passed (eq-eqb (length bytes) image_length a.long) in
    let mask_is = le-ltb 255 (number_at 4 bytes 24_220) a.mask in
    let zero_is = passed (eq-eqb (number_at 1 bytes 17_927) 0 a.zero) in
    let index_is = le-ltb 255 (number_at 2 bytes 17_928) a.index in
    let numbers = no_reason mask_is (no_reason zero_is (no_reason index_is (le-ltb 56 (count_of bytes) a.count))) in
    let entries = no_reason (passed a.sorted) (no_reason (passed a.enables) (passed a.unused)) in
    let slots = no_reason (passed a.enabled_defined) (passed a.undefined_default) in
    let nans = passed (all_pass a.floats (all_pass a.light-floats (all_pass a.entry-floats a.fog_floats))) in
    no_reason length_is (no_reason numbers (no_reason entries (no_reason slots nans)))
