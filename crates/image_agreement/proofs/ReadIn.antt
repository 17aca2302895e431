-- An image read in, in terms of the call: it is refused as the abstract rule says, keeps a state valid and in agreement; and a written image holds what the state holds.
-- Assumes nothing.
use Prim.Native.Nat.{ℕ}
use mathlib.Core.Path.{◌≡◌, refl, subst}
use mathlib.Core.Bool.{Bool, true, false}
use mathlib.Core.List.{List}
use Rattle.codec.specs.Little.{Bytes}
use Rattle.ff_state.specs.Valid.{Valid}
use Rattle.ff_state.specs.declared.state.FfState.{FfState}
use Rattle.d3d9_model.specs.State.{AbstractState}
use Rattle.image_reasons.specs.Reasons.{refused}
use Rattle.image_model.specs.Abstract.{image_abstract, read_refusal, abstract_read}
use Rattle.image.specs.Format.{image_bytes}
use Rattle.image.specs.Read.{read_image, read_number}
use Rattle.image_laws.proofs.AcceptedValid.{accepted_valid}
use Rattle.image_laws.proofs.ReadWritten.{read_written}
use Rattle.image_laws.proofs.ValidAccepted.{valid_accepted}
use Rattle.agreement.specs.Agrees.{Agrees}
use Rattle.image_agreement.proofs.ImageAgrees.{image_agrees}

module _ (s : FfState) (bytes : List ℕ) where
  pub read_refused-alike : read_number (read_image s bytes).answer ≡ read_refusal bytes
  unfolding read_number read_image read_refusal
  read_refused-alike = by_cases (refused bytes) refl
    where
      by_cases : (t : Bool) → refused bytes ≡ t → read_number (read_image s bytes).answer ≡ read_refusal bytes
      by_cases true e = rw e
      by_cases false e = rw e

  pub read_valid_kept : Bytes bytes → Valid s → Valid (read_image s bytes).state
  unfolding read_image
  read_valid_kept b v = by_cases (refused bytes) refl
    where
      by_cases : (t : Bool) → refused bytes ≡ t → Valid (read_image s bytes).state
      by_cases true e = rw e v
      by_cases false e = rw e (accepted_valid bytes b e)

  pub read_agrees_kept : (a : AbstractState) → Agrees s a → Agrees (read_image s bytes).state (abstract_read a bytes)
  unfolding read_image abstract_read
  read_agrees_kept a g = by_cases (refused bytes) refl
    where
      by_cases : (t : Bool) → refused bytes ≡ t → Agrees (read_image s bytes).state (abstract_read a bytes)
      by_cases true e = rw e g
      by_cases false e = rw e (image_agrees bytes e)

-- what is written holds what the state holds
pub written_agrees : (s : FfState) → Valid s → Agrees s (image_abstract (image_bytes s))
written_agrees s v = subst (λ (t : FfState). Agrees t (image_abstract (image_bytes s))) (read_written s v) (image_agrees (image_bytes s) (valid_accepted s v))
