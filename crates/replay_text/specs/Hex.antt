-- What the contracts of `hex` cite: eight digits of text as a word, by the digits that `io::hex` writes.
use Rattle.std.specs.Prelude.{ℕ, ◌<◌, ◌≡◌, List, Option, Some, None}
use Rattle.io.specs.Digits.{last_digits, hex_digit_ascii}

-- b is the digit of the value, or of none
abbrev pub IsDigit : ℕ → Option ℕ → Type 0
IsDigit b (Some d) = (d < 16) × (b ≡ hex_digit_ascii d)
IsDigit b None = (d : ℕ) → d < 16 → b ≡ hex_digit_ascii d → ⊥

-- the text is the word's, or no word's
abbrev pub IsWord : List ℕ → Option ℕ → Type 0
IsWord s (Some w) = s ≡ last_digits 16 8 w
IsWord s None = (w : ℕ) → s ≡ last_digits 16 8 w → ⊥
