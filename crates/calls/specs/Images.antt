-- `ff_image_fresh` and `ff_image_check` of docs/INTERFACE.md.
use Rattle.std.specs.Prelude.{ℕ, List, Result, Ok, Err, cond}
use Rattle.ff_state.specs.State.{fresh_state}
use Rattle.ff_state.specs.declared.state.FfState.{FfState}
use Rattle.image_reasons.specs.Reasons.{refused}
use Rattle.image.specs.Read.{state_of}
use Rattle.image.specs.Write.{WriteOutcome, write_image, write_number}
use Rattle.calls.specs.Answer.{Answer, answer}
use Rattle.calls.specs.Call.{call_code, none}
use Rattle.calls.specs.declared.refusal.Refusal.{Refusal}
use Rattle.calls.specs.declared.refusal.Refusal.TheVariants.{NotAnImage}

-- a writing's number, and the destination afterwards
abbrev pub write_answer : WriteOutcome → Answer (List ℕ)
write_answer o = answer (write_number o.answer) o.bytes

unfoldable pub ff_image_fresh : List ℕ → Answer (List ℕ)
ff_image_fresh image = write_answer (write_image fresh_state image)

abbrev pub ff_image_check : List ℕ → ℕ
ff_image_check = call_code none 0

-- the state that an image holds, or 9
unfoldable pub read_state : List ℕ → Result FfState Refusal
read_state image = cond (refused image) (Err NotAnImage) (Ok (state_of image))
