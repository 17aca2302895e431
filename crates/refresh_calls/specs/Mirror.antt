-- The refresh of docs/INTERFACE.md: 9, then 4 for a mirror that is not 17,840 bytes, then 8, then 5. Accepted, the image has its bits taken, the mirror its dirty sections written, and the number is the bits; refused, all three are as found.
use Rattle.std.specs.Prelude.{ℕ, List}
use Rattle.ff_state.specs.Dirty.{take_ff_vs_dirty}
use Rattle.sections.specs.Sections.{sections}
use Rattle.ff_state.specs.declared.state.FfState.{FfState}
use Rattle.image.specs.Format.{image_bytes}
use Rattle.image.specs.Read.{state_of}
use Rattle.calls.specs.Answer.{Answer, or_next, length_number, answered}
use Rattle.calls.specs.Call.{call_code}
use Rattle.sections.specs.declared.key.FfVsKey.{FfVsKey}
use Rattle.refresh.specs.Answer.{refresh_answer, refresh_number}
use Rattle.refresh_calls.specs.Written.{written_bytes}

-- the image, the mirror's bytes and the lent number when it returns
pub record HostRefreshed : Type 0 where
  pub image : List ℕ
  pub mirror : List ℕ
  pub bits : ℕ

abbrev pub left : List ℕ → List ℕ → ℕ → HostRefreshed
left image mirror bits = record { image = image; mirror = mirror; bits = bits }

-- the refusals behind 9
unfoldable pub ff_refresh_number : FfVsKey → List ℕ → FfState → ℕ
ff_refresh_number k mirror s = or_next (length_number 17_840 mirror) (refresh_number (refresh_answer s k 4460))

unfoldable pub ff_refresh : List ℕ → FfVsKey → List ℕ → ℕ → Answer HostRefreshed
ff_refresh image k mirror out =
    let s = state_of image in
    let taken = take_ff_vs_dirty s in
    answered (call_code (ff_refresh_number k mirror) 0 image)
    (left (image_bytes taken.state) (written_bytes sections taken.bits s k mirror) taken.bits)
    (left image mirror out)
