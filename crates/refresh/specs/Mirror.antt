-- Refresh. Document 01, 'A refresh, from the top': it "takes the dirty bits, clears them, and writes each named section. … The answer is the bits taken." Refused, "Bits stay untaken", and "bits beside one are 0" ('Rust forms to recast').
use Rattle.std.specs.Prelude.{ℕ, List, Float, Result, Ok, Err, length}
use Rattle.ff_state.specs.Dirty.{take_ff_vs_dirty}
use Rattle.sections.specs.Sections.{sections}
use Rattle.ff_state.specs.declared.dirty.Taken.{Taken}
use Rattle.ff_state.specs.declared.state.FfState.{FfState}
use Rattle.sections.specs.declared.key.FfVsKey.{FfVsKey}
use Rattle.refresh.specs.Answer.{refresh_answer}
use Rattle.refresh.specs.Written.{written}
use Rattle.refresh.specs.declared.answer.RefreshError.{RefreshError}

-- the answer, the dirty bits that were taken, and the state afterwards
pub record Refreshed : Type 0 where
  pub answer : Result Unit RefreshError
  pub bits : ℕ
  pub state : FfState

-- What a caller has then, and the mirror afterwards. A float has one NaN here: which of its bit patterns stands in the mirror is left free.
pub record RefreshOutcome : Type 0 where
  pub result : Refreshed
  pub floats : List Float

abbrev pub refreshed : Refreshed → List Float → RefreshOutcome
refreshed r m = record { result = r; floats = m }

abbrev pub refusal : Result Unit RefreshError → FfState → Refreshed
refusal a s = record { answer = a; bits = 0; state = s }

abbrev pub acceptance : Taken → Refreshed
acceptance t = record { answer = Ok tt; bits = t.bits; state = t.state }

-- what a caller has that passed the state by value: beside a refusal that state
abbrev pub result_of : FfState → Result Taken RefreshError → Refreshed
result_of s (Ok t) = acceptance t
result_of s (Err e) = refusal (Err e) s

-- what a caller has whose state was lent, and is s afterwards
abbrev pub in_place : FfState → Result ℕ RefreshError → Refreshed
in_place s (Ok bits) = acceptance (record { bits = bits; state = s })
in_place s (Err e) = refusal (Err e) s

-- by the answer
unfoldable pub refresh_by : Result Unit RefreshError → FfState → FfVsKey → List Float → RefreshOutcome
refresh_by (Ok u) s k m = refreshed (acceptance (take_ff_vs_dirty s)) (written sections (take_ff_vs_dirty s).bits s k m)
refresh_by (Err e) s k m = refreshed (refusal (Err e) s) m

unfoldable pub refresh_mirror : FfState → FfVsKey → List Float → RefreshOutcome
refresh_mirror s k m = refresh_by (refresh_answer s k (length m)) s k m
