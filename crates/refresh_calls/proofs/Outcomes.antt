-- The ways out of a refresh over bytes: 9, 4 and the refusals by value leave all three as found; past them stands what an accepted one leaves.
-- Assumes nothing.
use Prim.Native.Nat.{ℕ, suc}
use mathlib.Core.Path.{◌≡◌, ◌∙◌, ap}
use mathlib.Core.Bool.{true, false}
use mathlib.Core.List.{List}
use lib.ListN.{length}
use Rattle.std.specs.Prelude.{Err}
use Rattle.ff_state.specs.Dirty.{take_ff_vs_dirty}
use Rattle.sections.specs.Sections.{sections}
use Rattle.image_reasons.specs.Reasons.{refused}
use Rattle.image.specs.Format.{image_bytes}
use Rattle.image.specs.Read.{state_of}
use Rattle.calls.specs.Answer.{answer, or_next}
use Rattle.calls.proofs.Answers as Answers
use Rattle.calls.proofs.Calls.{code_nine, code_own, code_length}
use Rattle.sections.specs.declared.key.FfVsKey.{FfVsKey}
use Rattle.refresh.specs.Answer.{refresh_answer, refresh_number}
use Rattle.refresh.specs.declared.answer.RefreshError.{RefreshError}
use Rattle.refresh.specs.declared.answer.RefreshError.TheVariants.{WrongLength, HasRhw, WrongMask}
use Rattle.refresh_calls.specs.Written.{written_bytes}
use Rattle.refresh_calls.specs.Mirror.{HostRefreshed, left, ff_refresh_number, ff_refresh}

module _ (image : List ℕ) (k : FfVsKey) (mirror : List ℕ) (out : ℕ) where
  pub refresh_nine : refused image ≡ true → answer 9 (left image mirror out) ≡ ff_refresh image k mirror out
  unfolding ff_refresh
  refresh_nine h = Answers.refused _ (left image mirror out) (code_nine (ff_refresh_number k mirror) 0 image h)

  module _ (h : refused image ≡ false) where
    pub refresh_four : (length mirror ≡ 17_840 → ⊥) → answer 4 (left image mirror out) ≡ ff_refresh image k mirror out
    unfolding ff_refresh ff_refresh_number or_next
    refresh_four n = Answers.refused _ (left image mirror out) (code_own (ff_refresh_number k mirror) 0 image h (rw (Answers.length_wrong 17_840 mirror n)))

    module _ (long : length mirror ≡ 17_840) where
      own_is : ff_refresh_number k mirror (state_of image) ≡ refresh_number (refresh_answer (state_of image) k 4460)
      unfolding ff_refresh_number or_next
      own_is = rw (Answers.length_right 17_840 mirror long)

      refresh_refused : {n : ℕ} → refresh_number (refresh_answer (state_of image) k 4460) ≡ suc n → answer (suc n) (left image mirror out) ≡ ff_refresh image k mirror out
      unfolding ff_refresh
      refresh_refused e = Answers.refused _ (left image mirror out) (code_own (ff_refresh_number k mirror) 0 image h (own_is ∙ e))

      pub refresh_error : (e : RefreshError) → refresh_answer (state_of image) k 4460 ≡ Err e → answer (refresh_number (Err e)) (left image mirror out) ≡ ff_refresh image k mirror out
      unfolding refresh_number
      refresh_error WrongLength q = refresh_refused (ap refresh_number q)
      refresh_error HasRhw q = refresh_refused (ap refresh_number q)
      refresh_error WrongMask q = refresh_refused (ap refresh_number q)

      pub refresh_done : refresh_number (refresh_answer (state_of image) k 4460) ≡ 0 → (last : HostRefreshed)
          → last ≡ left (image_bytes (take_ff_vs_dirty (state_of image)).state) (written_bytes sections (take_ff_vs_dirty (state_of image)).bits (state_of image) k mirror) (take_ff_vs_dirty (state_of image)).bits
          → answer 0 last ≡ ff_refresh image k mirror out
      unfolding ff_refresh
      refresh_done e last q = Answers.accepted _ (left image mirror out) (code_length (ff_refresh_number k mirror) 0 image h (own_is ∙ e)) q
