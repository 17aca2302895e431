-- The code's literals are the floats that the definitions name.
use mathlib.Core.Path.{◌≡◌, refl}
use lib.IntN.{pos}
use lib.Ieee.{binary32, of_bits, of_int}
use Rattle.light_rows.specs.Cone.{half}

pub half_is : of_bits binary32 0x3F00_0000 ≡ half
unfolding of_bits
half_is = refl

pub one_is : of_bits binary32 0x3F80_0000 ≡ of_int binary32 (pos 1)
unfolding of_bits of_int
one_is = refl

pub two_is : of_bits binary32 0x4000_0000 ≡ of_int binary32 (pos 2)
unfolding of_bits of_int
two_is = refl

pub three_is : of_bits binary32 0x4040_0000 ≡ of_int binary32 (pos 3)
unfolding of_bits of_int
three_is = refl
