-- A float that is an f32 value comes back from its bytes.
use Prim.Native.Nat.{ℕ}
use mathlib.Core.Path.{◌≡◌, ap, ◌∙◌}
use mathlib.Core.List.{List}
use lib.Ieee.{Float, binary32, to_bits, of_bits}
use lib.Ieee.Bits.{of_bits-to_bits, of_bits-fits, to_bits-lt}
use Rattle.d3d9_types.specs.Numbers.{float_fits}
use Rattle.codec.specs.Little.{little_bytes, little_number, number_at}
use Rattle.codec.specs.Float.{float_bytes, float_at}
use Rattle.codec.proofs.Laws.Little.{little_number-little_bytes, number_at_skips}
use Rattle.codec.proofs.Inside.{Skips, Starts}
pub use Rattle.codec.specs.Sizes.{length-float_bytes}

-- what the bytes of x read as
abbrev pub again : Float → Float
again x = of_bits binary32 (little_number (little_bytes 4 (to_bits binary32 x)))

pub again_is : {x : Float} → float_fits x → again x ≡ x
again_is {x} h =
    ap (λ (n : ℕ). of_bits binary32 n) (little_number-little_bytes 4 (to_bits binary32 x) (to_bits-lt binary32 x h)) ∙ of_bits-to_bits binary32 x h

pub float_at_skips : Skips float_at
unfolding float_at
float_at_skips p q n = ap (λ (k : ℕ). of_bits binary32 k) (number_at_skips 4 p q n)

pub float_at_starts : {x : Float} → float_fits x → Starts float_at (float_bytes x) x
unfolding float_at float_bytes little_bytes
float_at_starts h rest = again_is h

pub float_at_fits : (bytes : List ℕ) (at : ℕ) → float_fits (float_at bytes at)
unfolding float_at
float_at_fits bytes at = of_bits-fits binary32 (number_at 4 bytes at)
