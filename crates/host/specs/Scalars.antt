-- `ff_sqrt` and `ff_cos` of docs/INTERFACE.md: float bits in, float bits out.
use Rattle.std.specs.Prelude.{ℕ}
use Rattle.std.specs.Float.{binary32}
use Rattle.std.specs.Float.Ieee.{of_bits, to_bits}
use Rattle.float32.specs.Root.{sqrt_of}
use Rattle.float32.specs.Cosine.{cos_of}

abbrev pub ff_sqrt : ℕ → ℕ
ff_sqrt x = to_bits binary32 (sqrt_of (of_bits binary32 x))

abbrev pub ff_cos : ℕ → ℕ
ff_cos x = to_bits binary32 (cos_of (of_bits binary32 x))
