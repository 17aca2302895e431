-- The papers' numbers by name, computed: the sections that a word of one bit names, where each begins, and some row counts. Code and table bent alike would name another.
--
use Prim.Native.Nat.{ℕ}
use mathlib.Core.Path.{◌≡◌, refl}
use mathlib.Core.Bool.{Bool, true, false, cond}
use mathlib.Core.List.{List, [], ◌∷◌, map}
use lib.Count.{count_leading_zeros}
use Rattle.words.specs.Bits.{has_bit}
use Rattle.sections.specs.Counts.{places, light_count, texture_count}
use Rattle.sections.specs.RowCount.{lighting_reach, texture_reach, palette_reach, ff_vs_row_count}
use Rattle.sections.specs.declared.key.FfVsKey.{FfVsKey}
use Rattle.sections.specs.Sections.{sections, bit_of, has_section, first_row}
use Rattle.sections.specs.declared.sections.Section.{Section}
use Rattle.sections.specs.declared.sections.Section.TheVariants.{Wv, Proj, Material, Lights, Palette, Tt, Fog, Ambient}

abbrev named_in : List Section → ℕ → List Section
named_in [] w = []
named_in (σ ∷ σs) w = cond (has_section w σ) (σ ∷ named_in σs w) (named_in σs w)

abbrev named : ℕ → List Section
named = named_in sections

-- "WV 1, PROJ 2, MATERIAL 4, LIGHTS 8, PALETTE 16, TT 32"; "Bits FOG 64 and AMBIENT 128 join"
pub bits_name : (named 1 ≡ Wv ∷ []) × (named 2 ≡ Proj ∷ []) × (named 4 ≡ Material ∷ []) × (named 8 ≡ Lights ∷ []) × (named 16 ≡ Palette ∷ []) × (named 32 ≡ Tt ∷ []) × (named 64 ≡ Fog ∷ []) × (named 128 ≡ Ambient ∷ [])
unfolding has_bit
bits_name = (refl, refl, refl, refl, refl, refl, refl, refl)

pub bits_are : map bit_of (Wv ∷ Proj ∷ Material ∷ Lights ∷ Palette ∷ Tt ∷ Fog ∷ Ambient ∷ []) ≡ 1 ∷ 2 ∷ 4 ∷ 8 ∷ 16 ∷ 32 ∷ 64 ∷ 128 ∷ []
bits_are = refl

-- "First rows: WV 0, PROJ 4, MATERIAL 10, LIGHTS 15, PALETTE 95."; "Fog packs to row 8 …, ambient to row 9 …, texture matrices from row 63"
pub first_rows : map first_row (Wv ∷ Proj ∷ Material ∷ Lights ∷ Palette ∷ Fog ∷ Ambient ∷ Tt ∷ []) ≡ 0 ∷ 4 ∷ 10 ∷ 15 ∷ 95 ∷ 8 ∷ 9 ∷ 63 ∷ []
first_rows = refl

-- ---- "The row count now reads it": the texture mask

-- lit or not, of a mask of lights
abbrev drawn : Bool → ℕ → FfVsKey
drawn lit lights =
    record {
      has_rhw = false;
      lighting_enabled = lit;
      specular_enable = false;
      vertex_blend_indexed = false;
      preview = false;
      light_active_mask = lights;
      fog_mode = 3;
      vertex_blend_count = 0;
    }

-- eight lights end at row 62, so the textures' are the last
pub row_counts : (map (ff_vs_row_count (drawn false 0)) (0 ∷ 1 ∷ 4 ∷ 0x80 ∷ []) ≡ 11 ∷ 67 ∷ 75 ∷ 95 ∷ [])
    × (map (ff_vs_row_count (drawn true 0xFF)) (0 ∷ 1 ∷ 0x80 ∷ []) ≡ 63 ∷ 67 ∷ 95 ∷ [])
unfolding ff_vs_row_count lighting_reach texture_reach palette_reach light_count texture_count places count_leading_zeros
row_counts = (refl, refl)
