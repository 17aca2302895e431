-- Bits without the sign, by which the code compares magnitudes, and powers of two by their exponent's field. `scaled` does not cite these.
use Rattle.std.specs.Prelude.{ℕ, ◌%◌, ◌^◌, max, false, Float}
use Rattle.std.specs.Float.{fin, binary32}
use Rattle.std.specs.Float.Ieee.{minus, to_bits}
use Rattle.d3d9_types.specs.declared.vector.D3DVECTOR.{D3DVECTOR}

abbrev pub magnitude_bits : Float → ℕ
magnitude_bits x = to_bits binary32 x % 2 ^ 31

abbrev pub largest_bits : D3DVECTOR → ℕ
largest_bits d = max (magnitude_bits d.x) (max (magnitude_bits d.y) (magnitude_bits d.z))

-- 2 ^ (n − 127)
unfoldable pub power_of_two : ℕ → Float
power_of_two n = fin false 1 (minus n 127)
