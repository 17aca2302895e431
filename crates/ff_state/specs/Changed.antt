-- What a call that may refuse leaves: its answer, and the state afterwards.
use Rattle.std.specs.Prelude.{Result, Ok, Err}
use Rattle.ff_state.specs.declared.state.FfState.{FfState}

pub record Changed (E : Type 0) : Type 0 where
  pub answer : Result (Unit {0}) E
  pub state : FfState

abbrev pub accepted : {E : Type 0} → FfState → Changed E
accepted s = record { answer = Ok tt; state = s }

abbrev pub refused : {E : Type 0} → FfState → E → Changed E
refused s e = record { answer = Err e; state = s }

-- A call is given a state and returns the changed one, or a refusal: then the state is the one that it was given.
unfoldable pub changed : {E : Type 0} → FfState → Result FfState E → Changed E
changed s (Ok t) = accepted t
changed s (Err e) = refused s e

-- A call in place answers, and leaves a state.
abbrev pub in_place : {E : Type 0} → Result (Unit {0}) E → FfState → Changed E
in_place answer s = record { answer = answer; state = s }
