-- The floor of a falloff and of a cone's width. Document 01, 'Rows of a section': "1e-6 is 0x358637BD".
use Rattle.std.specs.Prelude.{Float}
use Rattle.std.specs.Float.{binary32}
use Rattle.std.specs.Float.Ieee.{of_bits}
use Rattle.float32.specs.Larger.{larger}

unfoldable pub smallest : Float
smallest = of_bits binary32 0x358637BD

-- "larger of falloff and 1e-6"; "NaN loses"
unfoldable pub floored : Float → Float
floored x = larger x smallest
