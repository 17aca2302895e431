-- What a host's refresh on an accepted image answers and leaves: as by value.
-- Assumes nothing.
use Prim.Native.Nat.{ℕ, zero, suc}
use mathlib.Core.Path.{◌≡◌, refl, sym, ◌∙◌}
use mathlib.Core.Logic.{⊎_elim}
use mathlib.Core.Bool.{false}
use mathlib.Core.List.{List}
use Rattle.ff_state.specs.Dirty.{take_ff_vs_dirty}
use Rattle.sections.specs.Sections.{sections}
use Rattle.sections.specs.declared.key.FfVsKey.{FfVsKey}
use Rattle.image_reasons.specs.Reasons.{refused}
use Rattle.image.specs.Format.{image_bytes}
use Rattle.image.specs.Read.{state_of}
use Rattle.calls.specs.Answer.{answered}
use Rattle.calls.specs.Call.{call_code}
use Rattle.calls.proofs.Answers.{answered_code, answered_either, next_zero}
use Rattle.calls.proofs.Calls.{code_is}
use Rattle.refresh_calls.specs.Written.{written_bytes}
use Rattle.refresh_calls.specs.Mirror.{HostRefreshed, left, ff_refresh_number, ff_refresh}

-- the number that is lent for the bits plays no part in the rest
lent_apart : (c : ℕ) (new : HostRefreshed) (image mirror : List ℕ) (n : ℕ)
    → let r = answered c new (left image mirror n) in let r₀ = answered c new (left image mirror 0) in (r.code ≡ r₀.code) × (r.out.image ≡ r₀.out.image) × (r.out.mirror ≡ r₀.out.mirror)
unfolding answered
lent_apart zero new image mirror n = (refl, refl, refl)
lent_apart (suc c) new image mirror n = (refl, refl, refl)

pub out_apart : (image : List ℕ) (k : FfVsKey) (lent : List ℕ) (n : ℕ)
    → let r = ff_refresh image k lent n in let r₀ = ff_refresh image k lent 0 in (r.code ≡ r₀.code) × (r.out.image ≡ r₀.out.image) × (r.out.mirror ≡ r₀.out.mirror)
unfolding ff_refresh
out_apart image k lent n = lent_apart _ _ image lent n

module _ (image : List ℕ) (k : FfVsKey) (lent : List ℕ) (ok : refused image ≡ false) where
  code : call_code (ff_refresh_number k lent) 0 image ≡ ff_refresh_number k lent (state_of image)
  code = code_is (ff_refresh_number k lent) 0 image ok ∙ next_zero (ff_refresh_number k lent (state_of image))

  pub host_refresh_code : (ff_refresh image k lent 0).code ≡ ff_refresh_number k lent (state_of image)
  unfolding ff_refresh
  host_refresh_code = answered_code (call_code (ff_refresh_number k lent) 0 image) _ _ ∙ code

  -- a refused one leaves the image and the slice that it was lent
  pub host_refresh_old : (ff_refresh_number k lent (state_of image) ≡ 0 → ⊥) → (ff_refresh image k lent 0).out ≡ left image lent 0
  unfolding ff_refresh
  host_refresh_old f = ⊎_elim (λ y. absurd (f (sym code ∙ y.0))) (λ n. n.1) (answered_either (call_code (ff_refresh_number k lent) 0 image) _ _)

  pub host_refresh_new : ff_refresh_number k lent (state_of image) ≡ 0
      → (ff_refresh image k lent 0).out
      ≡ left (image_bytes (take_ff_vs_dirty (state_of image)).state) (written_bytes sections (take_ff_vs_dirty (state_of image)).bits (state_of image) k lent) (take_ff_vs_dirty (state_of image)).bits
  unfolding ff_refresh
  host_refresh_new e = ⊎_elim (λ y. y.1) (λ n. absurd (n.0 (code ∙ e))) (answered_either (call_code (ff_refresh_number k lent) 0 image) _ _)
