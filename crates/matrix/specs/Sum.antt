-- Products and sums of f32, each rounded once. Document 01, 'The arithmetic underneath'.
use Rattle.std.specs.Prelude.{true, List, [], ◌∷◌, pos, Float}
use Rattle.std.specs.Float.{fin, binary32}
use Rattle.std.specs.Float.Ieee.{add, mul}

abbrev pub plus : Float → Float → Float
plus = add binary32

abbrev pub times : Float → Float → Float
times = mul binary32

abbrev pub neg_zero : Float
neg_zero = fin true 0 (pos 0)

-- left to right, from a given float on
unfoldable pub sum_from : Float → List Float → Float
sum_from a [] = a
sum_from a (x ∷ xs) = sum_from (plus a x) xs

-- "Sums run left to right starting at −0.0"
abbrev pub sum : List Float → Float
sum = sum_from neg_zero
