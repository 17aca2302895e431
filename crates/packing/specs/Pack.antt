-- Packing one section. Document 01, 'A refresh, from the top': it "does not look at HAS_RHW and refuses: 4, the destination is not 4 times the section's rows; then, for LIGHTS, 5".
use Rattle.std.specs.Prelude.{ℕ, ◌*◌, cond, List, eqb, Result, Ok, Err, Float, length, codes}
use Rattle.sections.specs.declared.sections.Section.{Section}
use Rattle.ff_state.specs.declared.state.FfState.{FfState}
use Rattle.rows.specs.Rows.{floats}
use Rattle.sections.specs.Counts.{section_rows}
use Rattle.sections.specs.declared.key.FfVsKey.{FfVsKey}
use Rattle.packing.specs.Inputs.{Inputs, packed_rows, mask_accepted, inputs_of}
use Rattle.packing.specs.declared.answer.PackError.{PackError}
use Rattle.packing.specs.declared.answer.PackError.TheVariants.{WrongLength, WrongMask}

-- The answer, and the destination afterwards. A float has one NaN here: which of its bit patterns stands in the destination is left free.
pub record PackOutcome : Type 0 where
  pub answer : Result Unit PackError
  pub floats : List Float

abbrev pub pack_outcome : Result Unit PackError → List Float → PackOutcome
pack_outcome a xs = record { answer = a; floats = xs }

-- how many rows the section has, by the table
abbrev pub input_rows : Section → FfVsKey → Inputs → ℕ
input_rows σ k i = section_rows σ k i.texture_mask

unfoldable pub pack_inputs : Section → FfVsKey → Inputs → List Float → PackOutcome
pack_inputs σ k i dst =
    cond (eqb (length dst) (4 * input_rows σ k i))
    (cond (mask_accepted σ k i) (pack_outcome (Ok tt) (floats (packed_rows σ k i))) (pack_outcome (Err WrongMask) dst))
    (pack_outcome (Err WrongLength) dst)

unfoldable pub pack_section : Section → FfState → FfVsKey → List Float → PackOutcome
pack_section σ s k dst = pack_inputs σ k (inputs_of s) dst

-- the state's rows of a section under a key, and how many they are
abbrev pub state_count : Section → FfState → FfVsKey → ℕ
state_count σ s k = input_rows σ k (inputs_of s)

abbrev pub state_rows : Section → FfState → FfVsKey → List Float
state_rows σ s k = floats (packed_rows σ k (inputs_of s))

-- document 01's number of each answer
unfoldable pub pack_number : Result Unit PackError → ℕ
pack_number (Ok u) = 0
pack_number (Err WrongLength) = 4
pack_number (Err WrongMask) = 5

-- what a refusal is in words
abbrev pub pack_error_text : PackError → List ℕ
pack_error_text WrongLength = codes "the destination is not as long as the section's rows"
pack_error_text WrongMask = codes "the light mask is not that of the active lights"
