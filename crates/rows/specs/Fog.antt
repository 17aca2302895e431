-- The row of fog. Document 02, T-05: "Fog packs to row 8 by `fill_fog_section`"; ff_state.rs 1723–1741.
use Rattle.std.specs.Prelude.{ℕ, cond, List, [], ◌∷◌, eqb, Float}
use Rattle.d3d9_types.specs.Numbers.{zero}
use Rattle.d3d9_types.specs.declared.matrix.Row.{Row}

-- start, end and density under every mode of the key but 0
unfoldable pub fog_row : ℕ → Float → Float → Float → Row
fog_row mode start end density =
    cond (eqb mode 0)
    (record { x = zero; y = zero; z = zero; w = zero })
    (record { x = start; y = end; z = density; w = zero })

abbrev pub fog_rows : ℕ → Float → Float → Float → List Row
fog_rows mode start end density = fog_row mode start end density ∷ []
