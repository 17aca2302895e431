-- Rows of matrices. Document 01, 'Rows of a section'; ff_state.rs 1699–1713, 1937–1953. Document 02, T-05; ff_state.rs 1912–1927.
use Rattle.std.specs.Prelude.{ℕ, List, [], ◌∷◌, take}
use Rattle.d3d9_types.specs.declared.matrix.Row.{Row}
use Rattle.d3d9_types.specs.declared.matrix.D3DMATRIX.{D3DMATRIX}
use Rattle.matrix.specs.Product.{mat_mul}
use Rattle.matrix.specs.Transposition.{transposed}
use Rattle.sections.specs.Counts.{places}
use Rattle.rows.specs.Rows.{rows_of}

abbrev pub matrix_rows : D3DMATRIX → List Row
matrix_rows m = m.r0 ∷ m.r1 ∷ m.r2 ∷ m.r3 ∷ []

-- "PROJ: transpose(projection)"
unfoldable pub projection_rows : D3DMATRIX → List Row
projection_rows projection = matrix_rows (transposed projection)

-- "WV: transpose(palette[0] × view)": the rows of a world matrix times the view
unfoldable pub world_view_rows : D3DMATRIX → D3DMATRIX → List Row
world_view_rows view world = matrix_rows (transposed (mat_mul world view))

-- "PALETTE: transpose(palette[i] × view), in order of i"
unfoldable pub palette_rows : D3DMATRIX → List D3DMATRIX → List Row
palette_rows view worlds = rows_of (world_view_rows view) worlds

-- "texture matrices from row 63 by `fill_tt_section`": transpose(texture[s]) of each stage up to the mask's highest bit, also where its own bit is clear
unfoldable pub texture_rows : ℕ → List D3DMATRIX → List Row
texture_rows mask textures = rows_of projection_rows (take (places mask) textures)
