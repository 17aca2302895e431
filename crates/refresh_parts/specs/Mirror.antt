-- Refresh over a lent state: what `refresh_mirror` says of it by value. Document 01, 'A refresh, from the top': refused, "Bits stay untaken"; docs/INTERFACE.md: the lent number has the bits taken, and stays as it was beside a refusal.
use Rattle.std.specs.Prelude.{ℕ, List, Float, Result, Ok, Err}
use Rattle.ff_state.specs.declared.state.FfState.{FfState}
use Rattle.sections.specs.declared.key.FfVsKey.{FfVsKey}
use Rattle.refresh.specs.Answer.{refresh_number}
use Rattle.refresh.specs.Mirror.{refresh_mirror}
use Rattle.refresh.specs.declared.answer.RefreshError.{RefreshError}
use Rattle.refresh.specs.declared.answer.RefreshError.TheVariants.{WrongLength, HasRhw, WrongMask}

-- the number that is returned, and the state, the mirror and the lent number afterwards
pub record LentRefreshed : Type 0 where
  pub number : ℕ
  pub state : FfState
  pub floats : List Float
  pub bits : ℕ

abbrev pub left : ℕ → FfState → List Float → ℕ → LentRefreshed
left number state floats bits = record { number = number; state = state; floats = floats; bits = bits }

-- the lent number: the bits taken, or what it was
unfoldable pub told : Result Unit RefreshError → ℕ → ℕ → ℕ
told (Ok u) bits was = bits
told (Err WrongLength) bits was = was
told (Err HasRhw) bits was = was
told (Err WrongMask) bits was = was

unfoldable pub lent_refresh : FfState → FfVsKey → List Float → ℕ → LentRefreshed
lent_refresh s k m out =
    let o = refresh_mirror s k m in
    left (refresh_number o.result.answer) o.result.state o.floats (told o.result.answer o.result.bits out)
