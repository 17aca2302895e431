-- Where the Rust remains the oracle. Document 02, T-04: "where each component is zero or has its square and quotient in the normal range, and the sum is finite".
-- Square, quotient and sum are those of document 01's steps, rounded, on the direction that is not scaled.
use Rattle.std.specs.Prelude.{◌^◌, Bool, ◌&&◌, ◌||◌, [], ◌∷◌, leb, eqb, Float}
use Rattle.std.specs.Float.{binary32}
use Rattle.std.specs.Float.Ieee.{div}
use Rattle.std.specs.Float.Ieee.Scale.{finite}
use Rattle.d3d9_types.specs.declared.vector.D3DVECTOR.{D3DVECTOR}
use Rattle.float32.specs.Root.{in_units}
use Rattle.matrix.specs.Sum.{times, sum}
use Rattle.directions.specs.Direction.{length_of}

-- "zero", of either sign
abbrev pub is_zero : Float → Bool
is_zero c = finite c && eqb (in_units c) 0

-- "in the normal range": 2 ^ −126 at least, in units of 2 ^ −149
abbrev pub is_normal : Float → Bool
is_normal c = finite c && leb (2 ^ 23) (in_units c)

-- "each component is zero or has its square and quotient in the normal range", n being the length
abbrev pub in_range : Float → Float → Bool
in_range n c = is_zero c || (is_normal (times c c) && is_normal (div binary32 c n))

abbrev pub sum_of_squares : D3DVECTOR → Float
sum_of_squares d = sum (times d.x d.x ∷ times d.y d.y ∷ times d.z d.z ∷ [])

unfoldable pub rust_rules : D3DVECTOR → Bool
unfolding length_of
rust_rules d = (in_range (length_of d) d.x && (in_range (length_of d) d.y && in_range (length_of d) d.z)) && finite (sum_of_squares d)
