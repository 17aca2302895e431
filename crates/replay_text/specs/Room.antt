-- What the contract of `room` cites.
use Rattle.std.specs.Prelude.{ℕ, List, Option}
use Rattle.std.specs.Io.KnownBytes.{Appends, append_known}

-- what was written and what is held behind it grew by the line
abbrev pub Held : Option (List ℕ) → List ℕ → Option (List ℕ) → List ℕ → List ℕ → Type 0
Held before held after left line = Appends (append_known before held) (append_known after left) line
