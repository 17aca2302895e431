-- What a host's call leaves: its number, and what stands in the place that it was lent. docs/INTERFACE.md, 'Conventions'.
use Rattle.std.specs.Prelude.{ℕ, zero, suc, cond, List, eqb, length}

pub record Answer (A : Type 0) : Type 0 where
  pub code : ℕ
  pub out : A

abbrev pub answer : {A : Type 0} → ℕ → A → Answer A
answer code out = record { code = code; out = out }

-- The result is written where the number is 0. A refused call leaves what was there.
unfoldable pub answered : {A : Type 0} → ℕ → A → A → Answer A
answered zero new out = answer 0 new
answered (suc n) new out = answer (suc n) out

-- Refusals in order: a number, or the next one where it is 0.
unfoldable pub or_next : ℕ → ℕ → ℕ
or_next zero next = next
or_next (suc n) next = suc n

-- 4 for a slice that is not as long as its item
unfoldable pub length_number : ℕ → List ℕ → ℕ
length_number n bytes = cond (eqb (length bytes) n) 0 4

abbrev pub matrix_length : List ℕ → ℕ
matrix_length = length_number 64
