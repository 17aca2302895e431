-- The table of sections: bit and first row. Document 01, 'A refresh, from the top'; document 02, T-05.
use Rattle.std.specs.Prelude.{ℕ, ◌+◌, Bool, List, [], ◌∷◌, Result, eqb, codes}
use Rattle.std.specs.List.{find}
use Rattle.std.specs.Option.{ok_or}
use Rattle.words.specs.Bits.{has_bit}
use Rattle.sections.specs.declared.sections.Section.{Section}
use Rattle.sections.specs.declared.sections.UnknownSection.{UnknownSection}
use Rattle.sections.specs.declared.sections.Section.TheVariants.{Wv, Proj, Material, Lights, Palette, Tt, Fog, Ambient}

-- "WV 1, PROJ 2, MATERIAL 4, LIGHTS 8, PALETTE 16, TT 32"; "Bits FOG 64 and AMBIENT 128 join"
abbrev pub bit_of : Section → ℕ
bit_of Wv = 1
bit_of Proj = 2
bit_of Material = 4
bit_of Lights = 8
bit_of Palette = 16
bit_of Tt = 32
bit_of Fog = 64
bit_of Ambient = 128

abbrev pub sections : List Section
sections = Wv ∷ Proj ∷ Material ∷ Lights ∷ Palette ∷ Tt ∷ Fog ∷ Ambient ∷ []

-- the section with this bit, if one has it
abbrev pub section_of : ℕ → Result Section UnknownSection
section_of bit = ok_or (find (λ σ. eqb (bit_of σ) bit) sections) (record {})

-- a word of the bits of some sections
abbrev pub bits_of : List Section → ℕ
bits_of [] = 0
bits_of (σ ∷ σs) = bit_of σ + bits_of σs

abbrev pub all_bits : ℕ
all_bits = bits_of sections

-- the place of a section's bit in a word, and whether a word has it
abbrev pub bit_place : Section → ℕ
bit_place Wv = 0
bit_place Proj = 1
bit_place Material = 2
bit_place Lights = 3
bit_place Palette = 4
bit_place Tt = 5
bit_place Fog = 6
bit_place Ambient = 7

abbrev pub has_section : ℕ → Section → Bool
has_section w σ = has_bit w (bit_place σ)

-- "First rows: WV 0, PROJ 4, MATERIAL 10, LIGHTS 15, PALETTE 95."; "Fog packs to row 8 …, ambient to row 9 …, texture matrices from row 63"
abbrev pub first_row : Section → ℕ
first_row Wv = 0
first_row Proj = 4
first_row Material = 10
first_row Lights = 15
first_row Palette = 95
first_row Tt = 63
first_row Fog = 8
first_row Ambient = 9

-- what is written of the error
abbrev pub unknown_section_text : List ℕ
unknown_section_text = codes "a number that is no section's bit"
