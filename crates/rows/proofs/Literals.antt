-- The literal 255.0 is the float that the definition names.
use mathlib.Core.Path.{◌≡◌, refl}
use lib.IntN.{pos}
use lib.Ieee.{binary32, of_bits, of_int}

pub full_is : of_bits binary32 0x437F_0000 ≡ of_int binary32 (pos 255)
unfolding of_bits of_int
full_is = refl
