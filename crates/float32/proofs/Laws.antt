-- What other crates cite of this one: the laws of the root, the count of units and the bits of a value, and that every result is an f32 value. Assumes nothing.
use lib.Dec.{T}
use mathlib.Core.Bool.{◌||◌}
use lib.Ieee.{Float, binary32, fits, lt, is_nan}
use lib.Ieee.Fits.{cond-fits}
use Rattle.float32.specs.Larger.{larger}
pub use Rattle.float32.proofs.root.Values.{size_is, root_of_value}
pub use Rattle.float32.proofs.root.Laws.{units_of_value, sqrt_nearest, sqrt_only, sqrt_exact, sqrt_normal, sqrt_fits, sqrt_unsigned}
pub use Rattle.float32.proofs.cosine.Laws.{cos_fits}
pub use Rattle.float32.proofs.cosine.Magnitude.{magnitude-bits}

pub larger_fits : (a b : Float) → T (fits binary32 a) → T (fits binary32 b) → T (fits binary32 (larger a b))
unfolding larger
larger_fits a b p q = cond-fits binary32 (lt a b || is_nan a) b a q p
