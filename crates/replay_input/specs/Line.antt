-- What the contract of `line` cites.
use Rattle.std.specs.Prelude.{ℕ, ◌+◌, ◌*◌, ◌≤◌, ◌≡◌, List, get_or, length}
use Rattle.replay_input.specs.declared.line.Line.{Line}

-- a line of n words is a letter and nine bytes for each word
abbrev pub Read : List ℕ → Line → Type 0
Read s line = (line.letter ≡ get_or s 0 0) × (line.count ≤ 32) × (length s ≡ 9 * line.count + 1)
