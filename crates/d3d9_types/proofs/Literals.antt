-- The literals 0.0 and 1.0 are the floats that the definitions name.
use mathlib.Core.Path.{◌≡◌, refl}
use lib.Ieee.{binary32, of_bits}
use Rattle.d3d9_types.specs.Numbers.{zero, one}

pub zero_is : of_bits binary32 0 ≡ zero
unfolding of_bits
zero_is = refl

pub one_is : of_bits binary32 0x3F80_0000 ≡ one
unfolding of_bits
one_is = refl
