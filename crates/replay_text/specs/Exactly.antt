-- What the contract of `words` cites.
use Rattle.std.specs.Prelude.{ℕ, List, Result, Ok, Err, cond, eqb, length}
use Rattle.replay_text.specs.declared.answer.Unanswered.{Unanswered}
use Rattle.replay_text.specs.declared.answer.Unanswered.TheVariants.{BadLine}

-- the words, if there are n of them
abbrev pub exactly : ℕ → List ℕ → Result (List ℕ) Unanswered
exactly n words = cond (eqb (length words) n) (Ok words) (Err BadLine)
