-- Directions scaled before their length is taken. Document 02, T-04: "Each finite, nonzero view-space direction is first scaled by a power of two that brings its largest component
-- to at least 1 and below 2 in magnitude, each component rounded once"; "A direction with a NaN or infinity is treated as before."
use Rattle.std.specs.Prelude.{ℕ, max, Bool, false, ◌&&◌, cond, ltb, Float}
use Rattle.std.specs.Float.{fin}
use Rattle.std.specs.Float.Ieee.{size, minus}
use Rattle.std.specs.Float.Ieee.Scale.{finite}
use Rattle.d3d9_types.specs.declared.vector.D3DVECTOR.{D3DVECTOR}
use Rattle.float32.specs.Root.{in_units}
use Rattle.matrix.specs.Sum.{times}

-- the largest magnitude of a component, in units of the least f32 value, 2 ^ −149
unfoldable pub largest : D3DVECTOR → ℕ
unfolding in_units
largest d = max (in_units d.x) (max (in_units d.y) (in_units d.z))

-- "finite, nonzero"
unfoldable pub scalable : D3DVECTOR → Bool
unfolding largest
scalable d = finite d.x && (finite d.y && (finite d.z && ltb 0 (largest d)))

-- 1 is 2 ^ 149 units, and so is of 150 binary digits, as is all from there to 2
abbrev pub digits_of_one : ℕ
digits_of_one = 150

-- The power of two: the exact number, up to 2 ^ 149, which no f32 is.
unfoldable pub scaling : D3DVECTOR → Float
unfolding largest size
scaling d = fin false 1 (minus digits_of_one (size (largest d)))

-- the exact product with each component, rounded once
abbrev pub scaled_by : Float → D3DVECTOR → D3DVECTOR
scaled_by p d = record { x = times d.x p; y = times d.y p; z = times d.z p }

unfoldable pub scaled : D3DVECTOR → D3DVECTOR
unfolding scalable scaling
scaled d = cond (scalable d) (scaled_by (scaling d) d) d
