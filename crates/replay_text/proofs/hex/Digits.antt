-- The digits of a number, by which a word's text is read: they are those of its sixteenth and one more.
use Prim.Native.Nat.{ℕ, zero, suc, ◌+◌, ◌*◌, ◌/◌, ◌%◌, ◌^◌, ◌≤◌, ◌<◌}
use mathlib.Core.Path.{◌≡◌, refl, sym, ap, ◌∙◌}
use mathlib.Core.List.{List, [], ◌∷◌, ◌++◌}
use mathlib.Core.Logic.{⊎_elim}
use native.Mathlib.Nat.{mod-lt, le_of_suc-le-suc, eq-or-lt_of_le, lt_of_lt_of_le, pow-le-pow_right}
use native.Mathlib.Numerals.{add-one}
use native.Mathlib.Omega.{arith}
use lib.Dec.{lit<}
use lib.ListN.{length, get_or, take, length-append, get_or-append}
use lib.Seq.{get_or_at, take-suc}
use lib.Pow.{high, low, pow-add}
use Rattle.io.specs.Digits.{hex_digit_ascii, last_digits}

pub length_digits : (b k n : ℕ) → length (last_digits b k n) ≡ k
length_digits b zero n = refl
length_digits b (suc k) n = length-append (last_digits b k (n / b)) (hex_digit_ascii (n % b) ∷ []) ∙ omega (arith, length_digits b k (n / b))

-- one digit more
pub digits_more : (k w d : ℕ) → d < 16 → last_digits 16 (suc k) (w * 16 + d) ≡ last_digits 16 k w ++ (hex_digit_ascii d ∷ [])
digits_more k w d h = rw (high w 4 h, low w 4 h)

-- a digit of a number's digits is one, so that text with another byte is no number's
pub no_digits : (k n i b : ℕ) → i < k → get_or (last_digits 16 k n) i 0 ≡ b → ((d : ℕ) → d < 16 → b ≡ hex_digit_ascii d → ⊥) → ⊥
no_digits zero n i b l e none = omega arith
no_digits (suc k) n i b l e none =
    ⊎_elim
    (λ q. none (n % 16) (mod-lt n (lit< tt)) (sym e ∙ get_or_at (last_digits 16 k (n / 16)) (hex_digit_ascii (n % 16)) [] 0 i (length_digits 16 k (n / 16) ∙ sym q)))
    (λ h. no_digits k (n / 16) i b h (sym (get_or-append (last_digits 16 k (n / 16)) (hex_digit_ascii (n % 16) ∷ []) 0 i (rw (length_digits 16 k (n / 16)) h)) ∙ e) none)
    (eq-or-lt_of_le (le_of_suc-le-suc l))

-- a word's room grows by a digit
pub room_more : (i w d : ℕ) → w < 16 ^ i → d < 16 → w * 16 + d < 16 ^ (i + 1)
room_more i w d h l = rw (pow-add 16 i 1) (omega arith)

pub room_fits : (i w : ℕ) → i ≤ 8 → w < 16 ^ i → w < 2 ^ 32
room_fits i w h l = lt_of_lt_of_le l (pow-le-pow_right {n = 16} (lit< tt) h)

module _ (s : List ℕ) (fits : length s ≡ 8) where
  pub text_more : (i w d : ℕ) → i < 8 → d < 16 → take i s ≡ last_digits 16 i w → get_or s i 0 ≡ hex_digit_ascii d → take (i + 1) s ≡ last_digits 16 (i + 1) (w * 16 + d)
  text_more i w d l h e g = rw add-one (take-suc s i 0 (omega arith) ∙ rw (g, e) (sym (digits_more i w d h)))

  pub no_word : (i b : ℕ) → i < 8 → get_or s i 0 ≡ b → ((d : ℕ) → d < 16 → b ≡ hex_digit_ascii d → ⊥) → (w : ℕ) → s ≡ last_digits 16 8 w → ⊥
  no_word i b l e none w q = no_digits 8 w i b l (ap (λ (t : List ℕ). get_or t i 0) (sym q) ∙ e) none
