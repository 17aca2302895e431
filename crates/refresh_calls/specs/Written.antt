-- Sections written over a mirror's bytes. Document 01, 'State image': "Matrices, materials, lights, rows and mirrors cross as byte slices, four little-endian bytes a number". docs/INTERFACE.md: "Mirror bytes of rows that a refresh does not write keep their bytes, whatever they are."
use Rattle.std.specs.Prelude.{ℕ, ◌*◌, cond, List, [], ◌∷◌, Float}
use Rattle.codec.specs.Float.{float_bytes, float_at}
use Rattle.codec.specs.Put.{put}
use Rattle.image_lists.specs.Lists.{list_bytes, list_at}
use Rattle.sections.specs.Sections.{has_section}
use Rattle.sections.specs.declared.sections.Section.{Section}
use Rattle.ff_state.specs.declared.state.FfState.{FfState}
use Rattle.sections.specs.declared.key.FfVsKey.{FfVsKey}
use Rattle.packing.specs.Pack.{state_rows}
use Rattle.refresh.specs.Written.{first_float}

-- what the bytes of a mirror say
abbrev pub mirror_floats : List ℕ → List Float
mirror_floats bytes = list_at float_at 4 4460 bytes 0

-- a section's packing over its bytes, if the bits name it
unfoldable pub written_section_bytes : Section → ℕ → FfState → FfVsKey → List ℕ → List ℕ
written_section_bytes σ bits s k bytes = cond (has_section bits σ) (put (4 * first_float σ) (list_bytes float_bytes (state_rows σ s k)) bytes) bytes

-- sections written over their bytes; the other bytes stay, whatever they are
unfoldable pub written_bytes : List Section → ℕ → FfState → FfVsKey → List ℕ → List ℕ
written_bytes [] bits s k bytes = bytes
written_bytes (σ ∷ σs) bits s k bytes = written_bytes σs bits s k (written_section_bytes σ bits s k bytes)
