-- Positions and directions of lights in view space, as row vectors. Document 01, 'Rows of a section'.
use Rattle.std.specs.Prelude.{[], ◌∷◌}
use Rattle.d3d9_types.specs.declared.matrix.D3DMATRIX.{D3DMATRIX}
use Rattle.d3d9_types.specs.declared.vector.D3DVECTOR.{D3DVECTOR}
use Rattle.matrix.specs.Entry.{entry, vector_of}
use Rattle.matrix.specs.Sum.{times, sum}

-- the translation row is the fourth term, not multiplied (ff_state.rs 1103–1117)
unfoldable pub view_transform_point : D3DMATRIX → D3DVECTOR → D3DVECTOR
view_transform_point view p =
    vector_of (λ j. sum (times p.x (entry view 0 j) ∷ times p.y (entry view 1 j) ∷ times p.z (entry view 2 j) ∷ entry view 3 j ∷ []))

-- no translation (ff_state.rs 1123–1135)
unfoldable pub view_transform_dir : D3DMATRIX → D3DVECTOR → D3DVECTOR
view_transform_dir view d =
    vector_of (λ j. sum (times d.x (entry view 0 j) ∷ times d.y (entry view 1 j) ∷ times d.z (entry view 2 j) ∷ []))
