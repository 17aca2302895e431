-- The fills of docs/INTERFACE.md: 9, then 4 for a slice that is not the section's rows of 16 bytes, then for the lights 5.
use Rattle.std.specs.Prelude.{ℕ, ◌*◌, cond, List, eqb, Result, Ok, Err, length}
use Rattle.codec.specs.Float.{float_bytes}
use Rattle.image_lists.specs.Lists.{list_bytes}
use Rattle.sections.specs.declared.sections.Section.{Section}
use Rattle.ff_state.specs.declared.state.FfState.{FfState}
use Rattle.calls.specs.Answer.{Answer}
use Rattle.calls.specs.Call.{reading}
use Rattle.sections.specs.declared.key.FfVsKey.{FfVsKey}
use Rattle.packing.specs.Inputs.{mask_accepted, inputs_of}
use Rattle.packing.specs.Pack.{state_rows, state_count, pack_number}
use Rattle.packing.specs.declared.answer.PackError.{PackError}
use Rattle.packing.specs.declared.answer.PackError.TheVariants.{WrongLength, WrongMask}

-- past the length, packing's answer by the key's mask
abbrev pub mask_answer : Section → FfVsKey → FfState → Result Unit PackError
mask_answer σ k s = cond (mask_accepted σ k (inputs_of s)) (Ok tt) (Err WrongMask)

abbrev pub mask_number : Section → FfVsKey → FfState → ℕ
mask_number σ k s = pack_number (mask_answer σ k s)

abbrev pub fill_bytes : Section → FfVsKey → FfState → List ℕ
fill_bytes σ k s = list_bytes float_bytes (state_rows σ s k)

-- packing's number
unfoldable pub fill_number : Section → FfVsKey → List ℕ → FfState → ℕ
fill_number σ k dst s = pack_number (cond (eqb (length dst) (16 * state_count σ s k)) (mask_answer σ k s) (Err WrongLength))

abbrev pub ff_fill_section : Section → List ℕ → FfVsKey → List ℕ → Answer (List ℕ)
ff_fill_section σ image k dst = reading (fill_number σ k dst) (fill_bytes σ k) 0 image dst
