-- The transpose (ff_state.rs 1152–1160).
use Rattle.d3d9_types.specs.declared.matrix.D3DMATRIX.{D3DMATRIX}
use Rattle.matrix.specs.Entry.{entry, matrix_of}

unfoldable pub transposed : D3DMATRIX → D3DMATRIX
transposed m = matrix_of (λ i j. entry m j i)
