-- Writing a state. Document 01, 'State image': "Writing refuses 4 for another length."
use Rattle.std.specs.Prelude.{ℕ, cond, List, eqb, Result, Ok, Err, codes, length}
use Rattle.ff_state.specs.declared.state.FfState.{FfState}
use Rattle.image_reasons.specs.Length.{image_length}
use Rattle.image.specs.Format.{image_bytes}
use Rattle.image.specs.declared.write.WrongLength.{WrongLength}

-- the answer, and the destination afterwards
pub record WriteOutcome : Type 0 where
  pub answer : Result Unit WrongLength
  pub bytes : List ℕ

abbrev pub write_outcome : Result Unit WrongLength → List ℕ → WriteOutcome
write_outcome a bs = record { answer = a; bytes = bs }

abbrev pub wrong_length : WrongLength
wrong_length = record {}

abbrev pub wrong_length_text : List ℕ
wrong_length_text = codes "the destination is not as long as an image"

unfoldable pub write_image : FfState → List ℕ → WriteOutcome
write_image s dst = cond (eqb (length dst) image_length) (write_outcome (Ok tt) (image_bytes s)) (write_outcome (Err wrong_length) dst)

-- document 01's number of each answer
unfoldable pub write_number : Result Unit WrongLength → ℕ
write_number (Ok u) = 0
write_number (Err e) = 4
