-- What a host's refresh leaves, by its code: accepted, the number is the dirty bits that the image held and the image the same state with none; refused, all three are as found.
-- Assumes nothing.
use Prim.Native.Nat.{ℕ}
use mathlib.Core.Path.{◌≡◌, ap}
use mathlib.Core.List.{List}
use Rattle.ff_state.specs.State.{dirty_word, with_ff_vs_dirty}
use Rattle.ff_state.specs.Dirty.{take_ff_vs_dirty}
use Rattle.image.specs.Format.{image_bytes}
use Rattle.image.specs.Read.{state_of}
use Rattle.calls.specs.Call.{call_code}
use Rattle.calls.proofs.Answers.{new_by_code, old_by_code}
use Rattle.sections.specs.Sections.{sections}
use Rattle.sections.specs.declared.key.FfVsKey.{FfVsKey}
use Rattle.refresh_calls.specs.Written.{written_bytes}
use Rattle.refresh_calls.specs.Mirror.{HostRefreshed, left, ff_refresh_number, ff_refresh}

module _ (image : List ℕ) (k : FfVsKey) (mirror : List ℕ) (out : ℕ) where
  -- "a refusal leaves the image as found"; the mirror and the number too
  pub refused-left : ((ff_refresh image k mirror out).code ≡ 0 → ⊥) → (ff_refresh image k mirror out).out ≡ left image mirror out
  unfolding ff_refresh
  refused-left f = old_by_code (call_code (ff_refresh_number k mirror) 0 image) _ (left image mirror out) f

  module _ (is : (ff_refresh image k mirror out).code ≡ 0) where
    -- "The answer is the bits taken."
    pub bits_told : (ff_refresh image k mirror out).out.bits ≡ dirty_word (state_of image)
    unfolding ff_refresh take_ff_vs_dirty
    bits_told = ap (λ (h : HostRefreshed). h.bits) (new_by_code (call_code (ff_refresh_number k mirror) 0 image) _ _ is)

    -- "takes the dirty bits, clears them"
    pub bits_cleared : (ff_refresh image k mirror out).out.image ≡ image_bytes (with_ff_vs_dirty (state_of image) 0)
    unfolding ff_refresh take_ff_vs_dirty
    bits_cleared = ap (λ (h : HostRefreshed). h.image) (new_by_code (call_code (ff_refresh_number k mirror) 0 image) _ _ is)

    -- "and writes each named section"
    pub sections-written : (ff_refresh image k mirror out).out.mirror ≡ written_bytes sections (dirty_word (state_of image)) (state_of image) k mirror
    unfolding ff_refresh take_ff_vs_dirty
    sections-written = ap (λ (h : HostRefreshed). h.mirror) (new_by_code (call_code (ff_refresh_number k mirror) 0 image) _ _ is)
