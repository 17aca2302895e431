-- Transforms. Document 01, 'Calls that change the state'; ff_state.rs 319–430. D3DTRANSFORMSTATETYPE: VIEW 2, PROJECTION 3, TEXTURE0 to 7 16 to 23, WORLDMATRIX(i) 256 + i.
use Rattle.std.specs.Prelude.{ℕ, ◌+◌, ◌-◌, ◌<◌, max, cond, Option, Some, None, Result, Ok, Err, List, [], ◌∷◌, ltb, eqb, set, get_or, codes}
use Rattle.d3d9_types.specs.Matrix.{identity}
use Rattle.d3d9_types.specs.declared.matrix.D3DMATRIX.{D3DMATRIX}
use Rattle.matrix.specs.Product.{mat_mul}
use Rattle.sections.specs.Sections.{bits_of}
use Rattle.ff_state.specs.State.{no_matrix, with_view, with_projection, with_world_palette, with_world_palette_high_water, with_texture_transforms}
use Rattle.ff_state.specs.Dirty.{dirtied}
use Rattle.sections.specs.declared.sections.Section.{Section}
use Rattle.sections.specs.declared.sections.Section.TheVariants.{Wv, Proj, Lights, Tt}
use Rattle.sections.specs.declared.sections.Section.TheVariants as Sections
use Rattle.ff_state.specs.declared.state.FfState.{FfState}
use Rattle.ff_state.specs.declared.transforms.Place.{Place}
use Rattle.ff_state.specs.declared.transforms.Place.TheVariants.{View, Projection, Texture, Palette}
use Rattle.ff_state.specs.Changed.{Changed, accepted, refused}
use Rattle.ff_state.specs.declared.transforms.UnknownState.{UnknownState}

unfoldable pub slot_of : ℕ → Option Place
slot_of n =
    cond (eqb n 2) (Some View)
    (cond (eqb n 3) (Some Projection)
    (cond (ltb n 16) None
    (cond (ltb n 24) (Some (Texture (n - 16)))
    (cond (ltb n 256) None
    (cond (ltb n 512) (Some (Palette (n - 256)))
    None)))))

-- the places there are
abbrev pub InRange : Place → Type 0
InRange View = Unit {0}
InRange Projection = Unit {0}
InRange (Texture i) = i < 8
InRange (Palette i) = i < 256

-- "view gives WV, PALETTE, LIGHTS; projection PROJ; texture TT; 256 WV and PALETTE; 257 up PALETTE"
unfoldable pub place_sections : Place → List Section
place_sections View = Wv ∷ Sections.Palette ∷ Lights ∷ []
place_sections Projection = Proj ∷ []
place_sections (Texture i) = Tt ∷ []
place_sections (Palette i) = cond (eqb i 0) (Wv ∷ Sections.Palette ∷ []) (Sections.Palette ∷ [])

abbrev pub place_bits : Place → ℕ
place_bits p = bits_of (place_sections p)

unfoldable pub place_matrix : FfState → Place → D3DMATRIX
place_matrix s View = s.view
place_matrix s Projection = s.projection
place_matrix s (Texture i) = get_or s.texture_transforms i no_matrix
place_matrix s (Palette i) = get_or s.world_palette i no_matrix

-- a matrix stored at a place; a palette index raises the highest one ever set or multiplied
unfoldable pub placed : FfState → Place → D3DMATRIX → FfState
placed s View m = with_view s m
placed s Projection m = with_projection s m
placed s (Texture i) m = with_texture_transforms s (set s.texture_transforms i m)
placed s (Palette i) m = with_world_palette_high_water (with_world_palette s (set s.world_palette i m)) (max s.world_palette_high_water i)

-- "Set, multiply and read of a transform refuse 1 for any other number"
unfoldable pub change_at : FfState → Option Place → (Place → D3DMATRIX) → Changed UnknownState
change_at s (Some p) f = accepted (dirtied (placed s p (f p)) (place_bits p))
change_at s None f = refused s (record {})

unfoldable pub set_transform : FfState → ℕ → D3DMATRIX → Changed UnknownState
set_transform s n m = change_at s (slot_of n) (λ p. m)

-- Document 02, T-02: "Multiply now stores argument × slot."
abbrev pub multiplied : FfState → D3DMATRIX → Place → D3DMATRIX
multiplied s m p = mat_mul m (place_matrix s p)

unfoldable pub multiply_transform : FfState → ℕ → D3DMATRIX → Changed UnknownState
multiply_transform s n m = change_at s (slot_of n) (multiplied s m)

unfoldable pub read_at : FfState → Option Place → Result D3DMATRIX UnknownState
read_at s (Some p) = Ok (place_matrix s p)
read_at s None = Err (record {})

unfoldable pub transform_of : FfState → ℕ → Result D3DMATRIX UnknownState
transform_of s n = read_at s (slot_of n)

unfoldable pub world_palette_used : FfState → ℕ
world_palette_used s = s.world_palette_high_water + 1

-- ff_state.rs 1141–1144
unfoldable pub world_view_projection : FfState → D3DMATRIX
world_view_projection s = mat_mul (mat_mul (get_or s.world_palette 0 no_matrix) s.view) s.projection

-- document 01's number of each answer, and its matrix: the identity beside a refusal
unfoldable pub transform_number : Result (Unit {0}) UnknownState → ℕ
transform_number (Ok _) = 0
transform_number (Err _) = 1

unfoldable pub transform_read_number : Result D3DMATRIX UnknownState → ℕ
transform_read_number (Ok m) = 0
transform_read_number (Err _) = 1

unfoldable pub transform_read_matrix : Result D3DMATRIX UnknownState → D3DMATRIX
transform_read_matrix (Ok m) = m
transform_read_matrix (Err _) = identity

-- what is written of the error
abbrev pub unknown_state_text : List ℕ
unknown_state_text = codes "a transform state that is none"
