-- Rows of each section under a key. Document 01, 'Rows of a section'; ff_state.rs 451–468, 1957–1998. Document 02, T-05.
use Rattle.std.specs.Prelude.{ℕ, ◌-◌, ◌*◌, cond, eqb}
use Rattle.std.specs.Int.Count.{count_leading_zeros}
use Rattle.sections.specs.declared.key.FfVsKey.{FfVsKey}
use Rattle.sections.specs.declared.sections.Section.{Section}
use Rattle.sections.specs.declared.sections.Section.TheVariants.{Wv, Proj, Material, Lights, Palette, Tt, Fog, Ambient}

-- "8 minus the mask's leading zeros"
unfoldable pub places : ℕ → ℕ
places mask = 8 - count_leading_zeros 8 mask

-- diffuse alone when unlit; four colours; the power too if specular
unfoldable pub material_count : FfVsKey → ℕ
material_count k = cond k.lighting_enabled (cond k.specular_enable 5 4) 1

unfoldable pub light_count : FfVsKey → ℕ
light_count k = places k.light_active_mask * 6

-- "count 0 gives 0; indexed gives 40; otherwise the count, up to 255"
unfoldable pub palette_matrices : FfVsKey → ℕ
palette_matrices k = cond (eqb k.vertex_blend_count 0) 0 (cond k.vertex_blend_indexed 40 k.vertex_blend_count)

unfoldable pub palette_count : FfVsKey → ℕ
palette_count k = palette_matrices k * 4

unfoldable pub texture_count : ℕ → ℕ
texture_count mask = places mask * 4

-- of each section, under a key and a texture mask
abbrev pub section_rows : Section → FfVsKey → ℕ → ℕ
section_rows Wv k t = 4
section_rows Proj k t = 4
section_rows Material k t = material_count k
section_rows Lights k t = light_count k
section_rows Palette k t = palette_count k
section_rows Tt k t = texture_count t
section_rows Fog k t = 1
section_rows Ambient k t = 1
