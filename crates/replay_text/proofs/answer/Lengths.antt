-- How long the lines are: nine bytes a word.
use Rattle.std.proofs.Common.{arith, ◌≡◌, ◌∷◌, ◌++◌, [], ℕ, ◌+◌, ◌*◌, ◌<◌, ◌≤◌, List, length, refl}
use lib.Dec.{eqb}
use mathlib.Core.Bool.{Bool, true, false, cond}
use Prim.Native.Nat.{zero, suc, ◌/◌, ◌%◌}
use Rattle.std.specs.Fmt.{digits, digits_onto, digit_glyph}
use Rattle.std.specs.List.{flat_map}
use Rattle.std.specs.Prelude.{decimal, codes}
use Rattle.std.proofs.lemmas.List.{length-append}
use Rattle.io.specs.Digits.{last_digits}
use Rattle.replay_text.specs.Answer.{spaced, words_text, unanswered_text}
use Rattle.replay_text.specs.declared.answer.Unanswered.{Unanswered}
use Rattle.replay_text.specs.declared.answer.Unanswered.TheVariants.{Refused, BadLine}

length_spaced : (ws : List ℕ) → length (flat_map spaced ws) ≡ 9 * length ws
length_spaced [] = refl
length_spaced (w ∷ ws) = omega (arith, length-append (spaced w) (flat_map spaced ws), length_spaced ws)

pub length_words : (ws : List ℕ) → 0 < length ws → length ws ≤ 16 → length (words_text ws ++ (10 ∷ [])) ≤ 144
length_words [] h l = absurd (omega arith)
length_words (w ∷ ws) h l =
    omega (arith, length-append (words_text (w ∷ ws)) (10 ∷ []), length-append (last_digits 16 8 w) (flat_map spaced ws), length_spaced ws)

either : (b : Bool) (ds es : List ℕ) (k : ℕ) → length ds ≤ k → length es ≤ k → length (cond b ds es) ≤ k
either true ds es k p q = p
either false ds es k p q = q

-- whatever the number, there are no more than 64 digits
length_onto : (k n : ℕ) (acc : List ℕ) → length (digits_onto k 10 false n acc) ≤ k + length acc
length_onto zero n acc = omega arith
length_onto (suc k) n acc =
    either (eqb (n / 10) 0) (digit_glyph false (n % 10) ∷ acc) (digits_onto k 10 false (n / 10) (digit_glyph false (n % 10) ∷ acc)) (suc k + length acc) (omega arith)
    (omega (arith, length_onto k (n / 10) (digit_glyph false (n % 10) ∷ acc)))

length_decimal : (n : ℕ) → length (decimal n) ≤ 64
unfolding digits
length_decimal n = omega (arith, length_onto 64 n [])

pub length_unanswered : (why : Unanswered) → length (unanswered_text why ++ (10 ∷ [])) ≤ 144
length_unanswered (Refused n) =
    omega (arith, length-append (unanswered_text (Refused n)) (10 ∷ []), length-append (codes "refused ") (decimal n), length_decimal n)
length_unanswered BadLine = omega arith
