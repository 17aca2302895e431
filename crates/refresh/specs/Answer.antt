-- What refresh answers. Document 01, 'A refresh, from the top': "Refresh refuses, in order: 4, the mirror is not 4,460 floats; 8, HAS_RHW is set; 5, the light mask is not 0 and is not the compacted active mask, whether LIGHTS is dirty or not."
use Rattle.std.specs.Prelude.{ℕ, cond, eqb, List, Result, Ok, Err, codes}
use Rattle.sections.specs.declared.sections.Section.TheVariants.{Lights}
use Rattle.ff_state.specs.declared.state.FfState.{FfState}
use Rattle.sections.specs.declared.key.FfVsKey.{FfVsKey}
use Rattle.packing.specs.Inputs.{mask_accepted, inputs_of}
use Rattle.refresh.specs.declared.answer.RefreshError.{RefreshError}
use Rattle.refresh.specs.declared.answer.RefreshError.TheVariants.{WrongLength, HasRhw, WrongMask}

-- of a mirror of so many floats
unfoldable pub refresh_answer : FfState → FfVsKey → ℕ → Result Unit RefreshError
refresh_answer s k n =
    cond (eqb n 4460)
    (cond k.has_rhw (Err HasRhw)
    (cond (mask_accepted Lights k (inputs_of s)) (Ok tt) (Err WrongMask)))
    (Err WrongLength)

-- document 01's number of each answer
unfoldable pub refresh_number : Result Unit RefreshError → ℕ
refresh_number (Ok u) = 0
refresh_number (Err WrongLength) = 4
refresh_number (Err HasRhw) = 8
refresh_number (Err WrongMask) = 5

-- what a refusal is in words
abbrev pub refresh_error_text : RefreshError → List ℕ
refresh_error_text WrongLength = codes "the mirror is not 1,115 rows long"
refresh_error_text HasRhw = codes "vertices under this key are transformed already"
refresh_error_text WrongMask = codes "the light mask is not that of the active lights"
