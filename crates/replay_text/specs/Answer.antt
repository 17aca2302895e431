-- What the contracts of `answer` cite: the text of an answer.
use Rattle.std.specs.Prelude.{ℕ, ◌<◌, ◌≤◌, List, [], ◌∷◌, ◌++◌, length, codes, decimal, Result, Ok, Err}
use Rattle.std.specs.List.{flat_map}
use Rattle.io.specs.Digits.{last_digits}
use Rattle.replay_text.specs.declared.answer.Words.{Words}
use Rattle.replay_text.specs.declared.answer.Words.TheVariants.{Scalar, Told, Matrix}
use Rattle.replay_text.specs.declared.answer.Unanswered.{Unanswered}
use Rattle.replay_text.specs.declared.answer.Unanswered.TheVariants.{Refused, BadLine}

-- an answer of words has from 1 to 16
abbrev pub Within : List ℕ → Type 0
Within words = (0 < length words) × (length words ≤ 16)

abbrev pub slice : Words → List ℕ
slice (Scalar words) = words
slice (Told words) = words
slice (Matrix rows) = flat_map (λ row. row) rows

-- a word's eight hexadecimal digits behind a space
abbrev pub spaced : ℕ → List ℕ
spaced w = 32 ∷ last_digits 16 8 w

-- a space stands between two words
abbrev pub words_text : List ℕ → List ℕ
words_text [] = []
words_text (w ∷ ws) = last_digits 16 8 w ++ flat_map spaced ws

abbrev pub unanswered_text : Unanswered → List ℕ
unanswered_text (Refused why) = codes "refused " ++ decimal why
unanswered_text BadLine = codes "bad line"

-- an answer's line, with its newline
abbrev pub line_text : Result Words Unanswered → List ℕ
line_text (Ok words) = words_text (slice words) ++ (10 ∷ [])
line_text (Err why) = unanswered_text why ++ (10 ∷ [])
