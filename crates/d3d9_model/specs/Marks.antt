-- Which sections an operation marks, by its numbers alone. Document 01, 'Calls that change the state'; document 02, T-05.
use Rattle.std.specs.Prelude.{ℕ, Bool, false, cond, ◌&&◌, ◌||◌, List, [], ◌∷◌, leb, eqb}
use Rattle.sections.specs.Sections.{bit_place, has_section}
use Rattle.sections.specs.declared.sections.Section.{Section}
use Rattle.sections.specs.declared.sections.Section.TheVariants.{Wv, Proj, Material, Lights, Palette, Tt, Fog, Ambient}
use Rattle.d3d9_model.specs.Operations.{Operation, set_transform, multiply_transform, set_material, set_light, enable_light, set_fog_start, set_fog_end, set_fog_density, set_ambient, set_texture_mask, mark}

-- "view gives WV, PALETTE, LIGHTS; projection PROJ; texture TT; 256 WV and PALETTE; 257 up PALETTE"
unfoldable pub transform_marks : ℕ → List Section
transform_marks n =
    cond (eqb n 2) (Wv ∷ Palette ∷ Lights ∷ [])
    (cond (eqb n 3) (Proj ∷ [])
    (cond (leb 16 n && leb n 23) (Tt ∷ [])
    (cond (eqb n 256) (Wv ∷ Palette ∷ [])
    (cond (leb 257 n && leb n 511) (Palette ∷ [])
    []))))

unfoldable pub among : List Section → Section → Bool
among [] σ = false
among (τ ∷ τs) σ = eqb (bit_place τ) (bit_place σ) || among τs σ

-- whether an accepted operation marks a section: "Material .. dirties MATERIAL", "Each accepted call dirties LIGHTS", "fog's dirty FOG, the colour's AMBIENT", "the mask's setter dirties TT", and a mark the sections of its bits
unfoldable pub marks_section : Operation → Section → Bool
marks_section (set_transform n m) = among (transform_marks n)
marks_section (multiply_transform n m) = among (transform_marks n)
marks_section (set_material m) = among (Material ∷ [])
marks_section (set_light i l) = among (Lights ∷ [])
marks_section (enable_light i on) = among (Lights ∷ [])
marks_section (set_fog_start x) = among (Fog ∷ [])
marks_section (set_fog_end x) = among (Fog ∷ [])
marks_section (set_fog_density x) = among (Fog ∷ [])
marks_section (set_ambient c) = among (Ambient ∷ [])
marks_section (set_texture_mask t) = among (Tt ∷ [])
marks_section (mark bits) = has_section bits
