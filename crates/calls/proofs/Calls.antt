-- The code of a call over an image, at each of its returns: 9 before all, then the call's own number, then that of a length.
-- Assumes nothing.
use Prim.Native.Nat.{ℕ, suc, ◌≤◌}
use native.Mathlib.Omega.{arith}
use mathlib.Core.Path.{◌≡◌, ◌∙◌}
use mathlib.Core.Bool.{true, false}
use mathlib.Core.List.{List}
use lib.ListN.{length}
use Rattle.ff_state.specs.declared.state.FfState.{FfState}
use Rattle.image_reasons.specs.Length.{image_length}
use Rattle.image_reasons.specs.Reasons.{refused}
use Rattle.image_reasons.proofs.Accepted as Accepted
use Rattle.image.specs.Read.{state_of, read_number}
use Rattle.calls.specs.Answer.{answer, or_next}
use Rattle.calls.specs.Call.{call_code, reading}
use Rattle.calls.proofs.Answers as Answers

-- what is not refused has an image's length
pub image_long : (image : List ℕ) → refused image ≡ false → length image ≡ image_length
image_long image h = (Accepted.accepted image h).long

pub image_fits : (image : List ℕ) → refused image ≡ false → image_length ≤ length image
image_fits image h = omega (arith, image_long image h)

module _ (own : FfState → ℕ) (len : ℕ) (image : List ℕ) where
  pub code_nine : refused image ≡ true → call_code own len image ≡ 9
  unfolding call_code read_number
  code_nine h = rw h

  module _ (h : refused image ≡ false) where
    pub code_is : call_code own len image ≡ or_next (own (state_of image)) len
    unfolding call_code
    code_is = rw h

    pub code_own : {k : ℕ} → own (state_of image) ≡ suc k → call_code own len image ≡ suc k
    unfolding call_code or_next
    code_own e = rw (h, e)

    pub code_length : own (state_of image) ≡ 0 → call_code own len image ≡ len
    unfolding call_code or_next
    code_length e = rw (h, e)

-- the returns of a call that reads the state
module _ {A : Type 0} (own : FfState → ℕ) (value : FfState → A) (len : ℕ) (image : List ℕ) (out : A) where
  pub reading_nine : refused image ≡ true → answer 9 out ≡ reading own value len image out
  unfolding reading
  reading_nine h = Answers.refused _ out (code_nine own len image h)

  module _ (h : refused image ≡ false) where
    pub reading_own : {k : ℕ} → own (state_of image) ≡ suc k → answer (suc k) out ≡ reading own value len image out
    unfolding reading
    reading_own e = Answers.refused _ out (code_own own len image h e)

    pub reading_done : {last : A} → own (state_of image) ≡ 0 → len ≡ 0 → last ≡ value (state_of image) → answer 0 last ≡ reading own value len image out
    unfolding reading
    reading_done e l q = Answers.accepted _ out (code_length own len image h e ∙ l) q
