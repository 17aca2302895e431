-- Sections over a mirror's bytes, one after another.
-- Assumes nothing.
use Rattle.std.proofs.Common.{◌≡◌, ℕ, ◌+◌, ◌<◌, List, ap, add-one, length, get_or, drop, drop-cons}
use Rattle.sections.specs.declared.sections.Section.{Section}
use Rattle.ff_state.specs.declared.state.FfState.{FfState}
use Rattle.sections.specs.declared.key.FfVsKey.{FfVsKey}
use Rattle.refresh_calls.specs.Written.{written_section_bytes, written_bytes}

-- the sections, in the table's order
pub next_written : (σs : List Section) (i : ℕ) (d : Section) (bits : ℕ) (s : FfState) (k : FfVsKey) (m : List ℕ) → i < length σs
    → written_bytes (drop i σs) bits s k m ≡ written_bytes (drop (i + 1) σs) bits s k (written_section_bytes (get_or σs i d) bits s k m)
unfolding written_bytes
next_written σs i d bits s k m h = rw add-one (ap (λ (τs : List Section). written_bytes τs bits s k m) (drop-cons σs i d h))
