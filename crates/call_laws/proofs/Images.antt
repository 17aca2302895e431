-- The fresh image: where the slice has an image's length it is accepted, reads as the fresh state and holds the fresh abstract state. Another length is refused 4 and left.
-- Assumes nothing.
use Prim.Native.Nat.{ℕ}
use mathlib.Core.Path.{◌≡◌, sym, ap, subst, ◌∙◌}
use mathlib.Core.List.{List}
use lib.ListN.{length}
use borrow.Author.Tests.{eq-eqb, ne_eqb}
use Rattle.d3d9_model.specs.State.{fresh_abstract}
use Rattle.ff_state.specs.State.{fresh_state}
use Rattle.ff_state.specs.declared.state.FfState.{FfState}
use Rattle.agreement.specs.Agrees.{Agrees}
use Rattle.agreement.proofs.Fresh.{fresh_valid, fresh_agrees}
use Rattle.image_reasons.specs.Length.{image_length}
use Rattle.image.specs.Format.{image_bytes}
use Rattle.image.specs.Read.{state_of}
use Rattle.image.specs.Write.{write_image, write_number}
use Rattle.image_laws.specs.Exactly.{IsAccepted}
use Rattle.image_laws.proofs.Exactly.{image-bytes}
use Rattle.image_laws.proofs.ReadWritten.{read_written}
use Rattle.image_laws.proofs.ValidAccepted.{valid_accepted}
use Rattle.calls.specs.Answer.{Answer, answer}
use Rattle.calls.specs.Images.{ff_image_fresh}

module _ (image : List ℕ) where
  -- "Writing refuses 4 for another length."
  pub fresh_refused : (length image ≡ image_length → ⊥) → ff_image_fresh image ≡ answer 4 image
  unfolding ff_image_fresh write_image write_number
  fresh_refused h = rw (ne_eqb (length image) image_length h)

  module _ (long : length image ≡ image_length) where
    is : ff_image_fresh image ≡ answer 0 (image_bytes fresh_state)
    unfolding ff_image_fresh write_image write_number
    is = rw (eq-eqb (length image) image_length long)

    left_is : (ff_image_fresh image).out ≡ image_bytes fresh_state
    left_is = ap (λ (r : Answer (List ℕ)). r.out) is

    pub fresh_accepted : ((ff_image_fresh image).code ≡ 0) × IsAccepted (ff_image_fresh image).out
    fresh_accepted =
        (ap (λ (r : Answer (List ℕ)). r.code) is, subst IsAccepted (sym left_is) (record { each = image-bytes fresh_state; taken = valid_accepted fresh_state fresh_valid }))

    pub fresh_reads : state_of (ff_image_fresh image).out ≡ fresh_state
    fresh_reads = ap state_of left_is ∙ read_written fresh_state fresh_valid

    pub fresh_image_agrees : Agrees (state_of (ff_image_fresh image).out) fresh_abstract
    fresh_image_agrees = subst (λ (s : FfState). Agrees s fresh_abstract) (sym fresh_reads) fresh_agrees
