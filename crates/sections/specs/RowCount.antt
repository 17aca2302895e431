-- The number of rows that a draw reads (ff_state.rs 1631–1676), each part one past the last row that the Rust gives it. A fog row, 8, is never the last: the material's begin at 10.
use Rattle.std.specs.Prelude.{ℕ, ◌+◌, max, cond, List, [], ◌∷◌, eqb}
use Rattle.sections.specs.declared.sections.Section.{Section}
use Rattle.sections.specs.declared.sections.Section.TheVariants.{Wv, Proj, Material, Lights, Palette, Tt, Fog, Ambient}
use Rattle.sections.specs.Counts.{light_count, palette_count, texture_count, section_rows}
use Rattle.sections.specs.Sections.{first_row}
use Rattle.sections.specs.declared.key.FfVsKey.{FfVsKey}

-- unlit up to row 10; lit up to row 13, or 14 if specular; a lit light's rows lie beyond both
unfoldable pub lighting_reach : FfVsKey → ℕ
lighting_reach k =
    cond k.lighting_enabled
    (cond (eqb k.light_active_mask 0) (cond k.specular_enable 15 14) (15 + light_count k))
    11

unfoldable pub texture_reach : ℕ → ℕ
texture_reach mask = cond (eqb mask 0) 0 (63 + texture_count mask)

unfoldable pub palette_reach : FfVsKey → ℕ
palette_reach k = cond (eqb k.vertex_blend_count 0) 0 (95 + palette_count k)

unfoldable pub ff_vs_row_count : FfVsKey → ℕ → ℕ
ff_vs_row_count k t = cond k.has_rhw 1 (max (max (lighting_reach k) (texture_reach t)) (palette_reach k))

-- ---- the same by the table

-- the sections that a draw without HAS_RHW reads: the lights' only when lit. The rows of fog and ambient lie before the material's: whether a draw reads them makes no difference
unfoldable pub read_sections : FfVsKey → List Section
read_sections k =
    let others = Wv ∷ Proj ∷ Fog ∷ Ambient ∷ Material ∷ Tt ∷ Palette ∷ [] in
    cond k.lighting_enabled (Lights ∷ others) others

-- the row behind a section's last, 0 where it has none
unfoldable pub reach : Section → FfVsKey → ℕ → ℕ
reach σ k t = cond (eqb (section_rows σ k t) 0) 0 (first_row σ + section_rows σ k t)

-- the greatest reach
unfoldable pub greatest_reach : List Section → FfVsKey → ℕ → ℕ
greatest_reach [] k t = 0
greatest_reach (σ ∷ σs) k t = max (reach σ k t) (greatest_reach σs k t)
