-- A host's call over an image. Document 01, 'State image': "Such a call reads the image, makes one call and writes the image back; 9 goes before the call's own refusals, and a refusal leaves the image as found."
-- "A slice of another length than its item's is refused 4, after 9 and before anything else except the refusals of a wrong state or index."
use Rattle.std.specs.Prelude.{ℕ, cond, List, Err}
use Rattle.ff_state.specs.declared.state.FfState.{FfState}
use Rattle.image_reasons.specs.Reasons.{refused}
use Rattle.image.specs.Format.{image_bytes}
use Rattle.image.specs.Read.{state_of, not_an_image, read_number}
use Rattle.calls.specs.Answer.{Answer, answered, or_next}

-- what a call on states gives: document 01's number, and the state afterwards
pub record Called : Type 0 where
  pub number : ℕ
  pub state : FfState

abbrev pub called : ℕ → FfState → Called
called n s = record { number = n; state = s }

-- the code: reading's 9 for what is not an image, then the call's own number, then the number of a lent slice's length
unfoldable pub call_code : (FfState → ℕ) → ℕ → List ℕ → ℕ
call_code own len image = cond (refused image) (read_number (Err not_an_image)) (or_next (own (state_of image)) len)

-- a call that changes the state, and the image left behind
unfoldable pub changing : (FfState → Called) → ℕ → List ℕ → Answer (List ℕ)
changing call len image =
    answered (call_code (λ s. (call s).number) len image) (image_bytes (call (state_of image)).state) image

-- a call that reads the state, and what is left in the place for its result
unfoldable pub reading : {A : Type 0} → (FfState → ℕ) → (FfState → A) → ℕ → List ℕ → A → Answer A
reading own value len image out = answered (call_code own len image) (value (state_of image)) out

-- a number that never refuses
abbrev pub none : FfState → ℕ
none s = 0
