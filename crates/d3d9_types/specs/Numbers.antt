-- The floats 0 and 1, and what it is to be an f32 value.
use Rattle.std.specs.Prelude.{false, pos, T, Float}
use Rattle.std.specs.Float.{fin, binary32}
use Rattle.std.specs.Float.Ieee.{fits}

-- +0.0 and 1.0
abbrev pub zero : Float
zero = fin false 0 (pos 0)

abbrev pub one : Float
one = fin false 1 (pos 0)

-- x is a value of f32
abbrev pub float_fits : Float → Type 0
float_fits x = T (fits binary32 x)
