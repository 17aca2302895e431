-- Unit directions. Document 01, 'Rows of a section'; ff_state.rs 1847–1862; scaled first by document 02, T-04.
use Rattle.std.specs.Prelude.{cond, [], ◌∷◌, Float}
use Rattle.std.specs.Float.{binary32}
use Rattle.std.specs.Float.Ieee.{div, lt}
use Rattle.d3d9_types.specs.Numbers.{zero}
use Rattle.d3d9_types.specs.declared.vector.D3DVECTOR.{D3DVECTOR}
use Rattle.float32.specs.Root.{sqrt_of}
use Rattle.matrix.specs.Sum.{times, sum}
use Rattle.directions.specs.Scale.{scaled}

-- "length is the root of the sum of squares"
unfoldable pub length_of : D3DVECTOR → Float
length_of d = sqrt_of (sum (times d.x d.x ∷ times d.y d.y ∷ times d.z d.z ∷ []))

abbrev pub over : D3DVECTOR → Float → D3DVECTOR
over d n = record { x = div binary32 d.x n; y = div binary32 d.y n; z = div binary32 d.z n }

abbrev pub no_direction : D3DVECTOR
no_direction = record { x = zero; y = zero; z = zero }

-- "if it exceeds 0 divide, else 0,0,0": a NaN exceeds nothing
unfoldable pub over_length : D3DVECTOR → D3DVECTOR
over_length d = cond (lt zero (length_of d)) (over d (length_of d)) no_direction

-- "first scaled"; "then document 01's steps follow"
unfoldable pub unit_direction : D3DVECTOR → D3DVECTOR
unfolding over_length scaled
unit_direction d = over_length (scaled d)
