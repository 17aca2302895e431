-- A take on an accepted image: its number is the dirty byte, and the image that it leaves is accepted, has none dirty, and holds the same abstract state. Refused, image and number are as found.
-- Assumes nothing.
use Prim.Native.Nat.{ℕ}
use mathlib.Core.Path.{◌≡◌, refl, sym, ap, subst, ◌∙◌}
use mathlib.Core.Bool.{true}
use mathlib.Core.List.{List}
use Rattle.codec.specs.Little.{number_at}
use Rattle.ff_state.specs.Dirty.{take_ff_vs_dirty}
use Rattle.ff_state.specs.State.{dirty_word}
use Rattle.ff_state.specs.Valid.{Valid}
use Rattle.ff_state.specs.declared.state.FfState.{FfState}
use Rattle.agreement.specs.Agrees.{Agrees}
use Rattle.agreement.proofs.Dirty.{taken_valid, taken_agrees}
use Rattle.image_reasons.specs.Reasons.{refused}
use Rattle.image_model.specs.Abstract.{image_abstract}
use Rattle.image.specs.Format.{image_bytes}
use Rattle.image.specs.Read.{state_of}
use Rattle.image_laws.specs.Exactly.{IsAccepted}
use Rattle.image_laws.proofs.AcceptedValid.{accepted_valid}
use Rattle.image_laws.proofs.Exactly.{image-bytes}
use Rattle.image_laws.proofs.ReadWritten.{read_written}
use Rattle.image_laws.proofs.ValidAccepted.{valid_accepted}
use Rattle.image_agreement.proofs.ImageAgrees.{image_agrees}
use Rattle.calls.specs.Answer.{Answer, answer}
use Rattle.calls.specs.Bits.{ImageAndNumber, image_and_number, ff_take_ff_vs_dirty}
use Rattle.calls.specs.Call.{none}
use Rattle.calls.proofs.Calls.{reading_nine, reading_done}

module _ (image : List ℕ) (out : ℕ) where
  pub take-refused : refused image ≡ true → ff_take_ff_vs_dirty image out ≡ answer 9 (image_and_number image out)
  take-refused h = sym (reading_nine none _ 0 image (image_and_number image out) h)

  module _ (a : IsAccepted image) where
    abbrev left : List ℕ
    left = (ff_take_ff_vs_dirty image out).out.image

    valid : Valid (take_ff_vs_dirty (state_of image)).state
    valid = taken_valid (accepted_valid image a.each a.taken)

    is : ff_take_ff_vs_dirty image out ≡ answer 0 (image_and_number (image_bytes (take_ff_vs_dirty (state_of image)).state) (take_ff_vs_dirty (state_of image)).bits)
    is = sym (reading_done none _ 0 image (image_and_number image out) a.taken refl refl refl)

    left_is : left ≡ image_bytes (take_ff_vs_dirty (state_of image)).state
    left_is = ap (λ (r : Answer ImageAndNumber). r.out.image) is

    state_is : state_of left ≡ (take_ff_vs_dirty (state_of image)).state
    state_is = ap state_of left_is ∙ read_written _ valid

    pub take_accepted : (ff_take_ff_vs_dirty image out).code ≡ 0
    take_accepted = ap (λ (r : Answer ImageAndNumber). r.code) is

    -- "dirty byte 17,926"
    pub take_bits : (ff_take_ff_vs_dirty image out).out.number ≡ number_at 1 image 17_926
    unfolding take_ff_vs_dirty state_of
    take_bits = ap (λ (r : Answer ImageAndNumber). r.out.number) is

    pub take_clears : number_at 1 left 17_926 ≡ 0
    unfolding take_ff_vs_dirty state_of
    take_clears = ap dirty_word state_is

    pub take_accepted_kept : IsAccepted left
    take_accepted_kept = subst IsAccepted (sym left_is) (record { each = image-bytes _; taken = valid_accepted _ valid })

    pub take_agrees_kept : Agrees (state_of left) (image_abstract image)
    take_agrees_kept =
        subst (λ (s : FfState). Agrees s (image_abstract image)) (sym state_is) (taken_agrees (image_agrees image a.taken))
