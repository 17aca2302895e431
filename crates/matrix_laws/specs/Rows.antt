-- The floats of the WV and PALETTE rows as entries of products. Document 02, T-12: both laws "cover WV and PALETTE rows". A world matrix has 16 floats, four to a row, and its rows are transposed:
-- float n stands for row n % 4 of world matrix n / 16 times column n / 4 % 4 of the view.
use Rattle.std.specs.Prelude.{ℕ, ◌/◌, ◌%◌, ◌<◌, List, T, ℤ, Float, length, get_or}
use Rattle.std.specs.Float.{nan}
use Rattle.d3d9_types.specs.Matrix.{matrixFits}
use Rattle.d3d9_types.specs.declared.matrix.Row.{Row}
use Rattle.d3d9_types.specs.declared.matrix.D3DMATRIX.{D3DMATRIX}
use Rattle.matrix.specs.Entry.{row}
use Rattle.ff_state.specs.State.{no_matrix}
use Rattle.packing.specs.Inputs.{Inputs}
use Rattle.matrix_laws.specs.Exact.{moderate, Close, IsWhole, WholeEntries, whole_sum}

abbrev pub world_at : Inputs → ℕ → D3DMATRIX
world_at i w = get_or i.palette w no_matrix

-- the matrices hold f32 values, as a state's do
pub record MatricesFit (i : Inputs) : Type 0 where
  pub view : matrixFits i.view
  pub world : (w : ℕ) → w < length i.palette → matrixFits (world_at i w)

abbrev pub world_row : Inputs → ℕ → Row
world_row i n = row (world_at i (n / 16)) (n % 4)

abbrev pub view_column : ℕ → ℕ
view_column n = n / 4 % 4

-- every float of xs, in general
abbrev pub EachClose : Inputs → List Float → Type 0
EachClose i xs = (n : ℕ) → n < length xs → T (moderate (world_row i n) i.view (view_column n)) → Close (get_or xs n nan) (world_row i n) i.view (view_column n)

-- every float of xs, where its world matrix and the view have the whole numbers u and v
abbrev pub EachWhole : Inputs → List Float → Type 0
EachWhole i xs =
    (n : ℕ) → n < length xs → (u v : ℕ → ℕ → ℤ) → WholeEntries (world_at i (n / 16)) u → WholeEntries i.view v → IsWhole (get_or xs n nan) (whole_sum u v (n % 4) (view_column n))
