-- The floats stand in parts of the image: those of the lights and the entries behind 4 and 12 bytes of each. `&` is `&&` of tests that were made.
use Rattle.std.proofs.Common.{◌≡◌, ◌∙◌, ◌/◌, ◌+◌, ◌*◌, ◌≤◌, ◌&&◌, ℕ, List, ap, take, drop, length, arith}
use mathlib.Core.Bool.{Bool, true, false}
use mathlib.Core.Path.{refl}
use Rattle.std.specs.Simd.{first_chunks}
use Rattle.std.specs.List.{list_all}
use Rattle.image_reasons.specs.Tests.{nan_free, plain_record, lights_nan_free, entries_nan_free}
use Rattle.image_reasons.specs.Length.{image_length}
use Rattle.image_reasons.specs.Reasons.{another_nan}
use Rattle.codec.proofs.Put.{part_length}
use Rattle.image_reasons.proofs.Chains.{nans_in_part, nans_in_records}
use Rattle.image_reasons.proofs.reasons.another_nan.Goals as goal

and_assoc4 : (a b c d : Bool) → (((a && b) && c) && d) ≡ (a && (b && (c && d)))
and_assoc4 true true c d = refl
and_assoc4 true false c d = refl
and_assoc4 false b c d = refl

whole : (a m n : ℕ) (s : List ℕ) → a + m ≤ length s → 4 * n ≡ m → nan_free (length (take m (drop a s)) / 4) (take m (drop a s)) 0 ≡ nan_free n s a
whole a m n s room e =
    let four : m / 4 ≡ n = omega (arith, e) in
    let there : a + 0 ≡ a = omega arith in
    ap (λ (k : ℕ). nan_free (k / 4) (take m (drop a s)) 0) (part_length a m s room)
    ∙ ap (λ (k : ℕ). nan_free k (take m (drop a s)) 0) four
    ∙ nans_in_part n m a 0 s (omega (arith, e))
    ∙ ap (nan_free n s) there

module _ (s : List ℕ) (long : length s ≡ image_length) where
  lights_are : (lights : List (List ℕ)) → lights ≡ first_chunks 104 (length (take 832 (drop 17_092 s)) / 104) (take 832 (drop 17_092 s)) → list_all (plain_record 4 104) lights ≡ lights_nan_free s 17_092
  unfolding lights_nan_free
  lights_are lights e =
      ap (list_all (plain_record 4 104)) (e ∙ ap (λ (n : ℕ). first_chunks 104 (n / 104) (take 832 (drop 17_092 s))) (part_length 17_092 832 s (omega arith)))
      ∙ nans_in_records 4 8 832 17_092 s (omega arith) (λ i l. omega arith)

  entries_are : (entries : List (List ℕ)) → entries ≡ first_chunks 112 (length (take 6_272 (drop 17_932 s)) / 112) (take 6_272 (drop 17_932 s)) → list_all (plain_record 12 112) entries ≡ entries_nan_free s 17_932
  unfolding entries_nan_free
  entries_are entries e =
      ap (list_all (plain_record 12 112)) (e ∙ ap (λ (n : ℕ). first_chunks 112 (n / 112) (take 6_272 (drop 17_932 s))) (part_length 17_932 6_272 s (omega arith)))
      ∙ nans_in_records 12 56 6_272 17_932 s (omega arith) (λ i l. omega arith)

pub returns : goal.returns
unfolding another_nan
returns c =
    let s = c.args.s.now in
    let lights : c.records_nan_free.result ≡ lights_nan_free s 17_092 = c.records_nan_free.ensures ∙ lights_are s c.told-s _ c.as_chunks.ensures.front in
    let entries : c.records_nan_free-2.result ≡ entries_nan_free s 17_932 = c.records_nan_free-2.ensures ∙ entries_are s c.told-s _ c.as_chunks-2.ensures.front in
    let floats : c.nan_free.result ≡ nan_free 4_273 s 0 = c.nan_free.ensures ∙ whole 0 17_092 4_273 s (omega arith) refl in
    let fog : c.nan_free-2.result ≡ nan_free 3 s 24_204 = c.nan_free-2.ensures ∙ whole 24_204 12 3 s (omega arith) refl in
    rw (and_assoc4 c.nan_free.result c.records_nan_free.result c.records_nan_free-2.result c.nan_free-2.result, floats, lights, entries, fog)
