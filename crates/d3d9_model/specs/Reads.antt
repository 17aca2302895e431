-- What the reads of a transform and of a light answer. Document 01, 'Calls that change the state'.
use Rattle.std.specs.Prelude.{ℕ, ◌+◌, cond}
use Rattle.d3d9_types.specs.Matrix.{identity}
use Rattle.d3d9_types.specs.declared.matrix.D3DMATRIX.{D3DMATRIX}
use Rattle.matrix.specs.Product.{mat_mul}
use Rattle.d3d9_model.specs.State.{AbstractState}
use Rattle.d3d9_model.specs.Lights.{is_there, abstract_light}
use Rattle.d3d9_model.specs.Operations.{known}

-- "Set, multiply and read of a transform refuse 1 for any other number"; 0 where there is no refusal
unfoldable pub transform_read_refusal : ℕ → ℕ
transform_read_refusal n = cond (known n) 0 1

-- "a matrix that stands beside a refusal is the identity"
unfoldable pub abstract_read_matrix : AbstractState → ℕ → D3DMATRIX
abstract_read_matrix a n = cond (known n) (a.matrix n) identity

-- "Read refuses 2 if undefined."
unfoldable pub light_read_refusal : AbstractState → ℕ → ℕ
light_read_refusal a i = cond (is_there (abstract_light a i)) 0 2

-- "`world_palette_used` is the highest palette index ever set or multiplied, plus 1"
unfoldable pub abstract_palette_used : AbstractState → ℕ
abstract_palette_used a = a.highest_index + 1

-- the world matrix is palette[0], state 256: world × view × projection (ff_state.rs 1141–1144)
unfoldable pub abstract_world_view_projection : AbstractState → D3DMATRIX
abstract_world_view_projection a = mat_mul (mat_mul (a.matrix 256) (a.matrix 2)) (a.matrix 3)
