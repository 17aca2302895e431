-- What `read_image` and `read_state` answer of the bytes: that they are refused, or which state they hold.
use Rattle.std.proofs.Common.{◌≡◌, List, ℕ, Bool, true, false, Ok, Err, ap, refl}
use Rattle.ff_state.specs.State.{fresh_state}
use Rattle.ff_state.specs.declared.state.FfState.{FfState}
use Rattle.image_reasons.specs.Reasons.{refused}
use Rattle.image.specs.Read.{ImageRead, read_outcome, read_image, state_of}
use Rattle.image.specs.declared.read.NotAnImage.{NotAnImage}
use Rattle.calls.specs.Images.{read_state}
use Rattle.calls.specs.declared.refusal.Refusal.{Refusal}
use Rattle.calls.specs.declared.refusal.Refusal.TheVariants as Refusals

module _ (image : List ℕ) where
  pub refused_is : (e : NotAnImage) → ((s : FfState) → read_outcome s (Err e) ≡ read_image s image) → refused image ≡ true
  unfolding read_image
  refused_is e h = go (refused image) refl
    where
      go : (b : Bool) → refused image ≡ b → refused image ≡ true
      go true q = q
      go false q = let told = ap (λ (r : ImageRead). r.answer) (rw q at h fresh_state) in absurd (cc told)

  pub read_is : (t : FfState) → ((s : FfState) → read_outcome s (Ok t) ≡ read_image s image) → (refused image ≡ false) × (t ≡ state_of image)
  unfolding read_image
  read_is t h = go (refused image) refl
    where
      go : (b : Bool) → refused image ≡ b → (refused image ≡ false) × (t ≡ state_of image)
      go true q = let told = ap (λ (r : ImageRead). r.answer) (rw q at h fresh_state) in absurd (cc told)
      go false q = (q, ap (λ (r : ImageRead). r.state) (rw q at h fresh_state))

  pub state_refused : (e : Refusal) → Err e ≡ read_state image → (refused image ≡ true) × (e ≡ Refusals.NotAnImage)
  unfolding read_state
  state_refused e h = go (refused image) refl
    where
      go : (b : Bool) → refused image ≡ b → (refused image ≡ true) × (e ≡ Refusals.NotAnImage)
      go true q = let told = rw q at h in (q, cc told)
      go false q = let told = rw q at h in absurd (cc told)

  pub state_is : (s : FfState) → Ok s ≡ read_state image → (refused image ≡ false) × (s ≡ state_of image)
  unfolding read_state
  state_is s h = go (refused image) refl
    where
      go : (b : Bool) → refused image ≡ b → (refused image ≡ false) × (s ≡ state_of image)
      go true q = let told = rw q at h in absurd (cc told)
      go false q = let told = rw q at h in (q, cc told)
