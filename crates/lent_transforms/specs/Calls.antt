-- The calls on the transforms of a lent state: document 01's number of the answer, beside the state that the call by value leaves.
use Rattle.std.specs.Prelude.{ℕ}
use Rattle.d3d9_types.specs.declared.matrix.D3DMATRIX.{D3DMATRIX}
use Rattle.ff_state.specs.Transforms.{set_transform, multiply_transform, transform_number}
use Rattle.ff_state.specs.declared.state.FfState.{FfState}

abbrev pub ff_state_set_transform : FfState → ℕ → D3DMATRIX → ℕ × FfState
ff_state_set_transform s n m = (transform_number (set_transform s n m).answer, (set_transform s n m).state)

abbrev pub ff_state_multiply_transform : FfState → ℕ → D3DMATRIX → ℕ × FfState
ff_state_multiply_transform s n m = (transform_number (multiply_transform s n m).answer, (multiply_transform s n m).state)
