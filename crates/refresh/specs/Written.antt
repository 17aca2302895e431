-- Sections written into a mirror. Document 01, 'A refresh, from the top': "Each row range is filled through the part of the mirror that starts at the section's first row. … Other rows keep their contents."
use Rattle.std.specs.Prelude.{ℕ, ◌*◌, cond, List, [], ◌∷◌, Float}
use Rattle.codec.specs.Put.{put}
use Rattle.sections.specs.Sections.{has_section}
use Rattle.sections.specs.declared.sections.Section.{Section}
use Rattle.ff_state.specs.declared.state.FfState.{FfState}
use Rattle.sections.specs.Sections.{first_row}
use Rattle.sections.specs.declared.key.FfVsKey.{FfVsKey}
use Rattle.packing.specs.Pack.{state_rows}

-- where a section begins in the mirror, a row being four floats
abbrev pub first_float : Section → ℕ
first_float σ = 4 * first_row σ

-- the section's packing in its place, if the bits name it
unfoldable pub written_section : Section → ℕ → FfState → FfVsKey → List Float → List Float
written_section σ bits s k m = cond (has_section bits σ) (put (first_float σ) (state_rows σ s k) m) m

-- one section after another
unfoldable pub written : List Section → ℕ → FfState → FfVsKey → List Float → List Float
written [] bits s k m = m
written (σ ∷ σs) bits s k m = written σs bits s k (written_section σ bits s k m)
