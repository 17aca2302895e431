-- Floats as the four bytes of their bits. Document 01, 'State image': a NaN is written 0x7FC00000 only, and any NaN pattern reads as the NaN.
use Rattle.std.specs.Prelude.{ℕ, List, Float}
use Rattle.std.specs.Float.{binary32}
use Rattle.std.specs.Float.Ieee.{to_bits, of_bits}
use Rattle.codec.specs.Little.{little_bytes, number_at}

unfoldable pub float_bytes : Float → List ℕ
float_bytes x = little_bytes 4 (to_bits binary32 x)

unfoldable pub float_at : List ℕ → ℕ → Float
float_at bytes at = of_bits binary32 (number_at 4 bytes at)
