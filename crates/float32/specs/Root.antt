-- squareRoot of IEEE 754-2019 (clause 5.4.1) on binary32, rounded by roundTiesToEven (4.3.1), stated by squares of whole numbers.
-- Document 01, 'The arithmetic underneath'. A finite value is m * up e / down e (`lib.Ieee`).
use Rattle.std.specs.Prelude.{ℕ, zero, suc, ◌+◌, ◌-◌, ◌*◌, ◌/◌, ◌^◌, ◌<◌, Bool, false, not, cond, T, leb, Float}
use Rattle.std.specs.Float.{nan, inf, fin, binary32}
use Rattle.std.specs.Float.Ieee.{up, down, size, odd, fits}

-- The largest number among r, .., r + (2 ^ k - 1) whose square is at most n, if r's is: a digit is kept where the square still is.
unfoldable pub root_from : ℕ → ℕ → ℕ → ℕ
root_from zero n r = r
root_from (suc k) n r = root_from k n (cond (leb ((r + 2 ^ k) * (r + 2 ^ k)) n) (r + 2 ^ k) r)

-- The whole-number root of an n below 2 ^ 48.
unfoldable pub floor_root : ℕ → ℕ
floor_root n = root_from 24 n 0

-- The whole number nearest to the root r of n. The next one is nearer exactly if the remainder exceeds r: (r + 1/2) ^ 2 is r * r + r + 1/4, which no n is.
unfoldable pub nearest_root : ℕ → ℕ
nearest_root n = let r = floor_root n in cond (leb (n - r * r) r) r (suc r)

-- The root of n * 2 ^ -298, for an n of 47 digits or more, in units of the format's least value, 2 ^ -149.
-- Of the root's digits the leading 24 are kept, rounded to the nearest, and k are dropped.
unfoldable pub root_of : ℕ → Float
root_of n = let k = (size n - 47) / 2 in odd 25 false (nearest_root (n / (2 ^ k * 2 ^ k))) k 149

-- A zero and +infinity return themselves; a NaN and any other negative give NaN (6.3, 7.2).
unfoldable pub sqrt_of : Float → Float
sqrt_of nan = nan
sqrt_of (inf s) = cond s nan (inf s)
sqrt_of (fin s zero e) = fin s zero e
sqrt_of (fin s (suc m) e) = cond s nan (root_of (suc m * up e * 2 ^ 298 / down e))

-- ---- the rule that the nearest root obeys, and no other value does

-- The magnitude of a finite value, in units of the format's least, 2 ^ -149.
unfoldable pub in_units : Float → ℕ
in_units nan = 0
in_units (inf s) = 0
in_units (fin s m e) = m * up e * 2 ^ 149 / down e

-- finite, with the sign clear
abbrev pub unsigned : Float → Bool
unsigned nan = false
unsigned (inf s) = false
unsigned (fin s m e) = not s

-- roundTiesToEven to the nearest, by squares: for every other f32 value z the midpoint of z and y lies strictly between z and the root of x.
-- Twice the midpoint is z + y; its square is compared with 4 * x in units of 2 ^ -298. The comparisons are strict, so there is no tie.
pub record NearestRoot (x y : Float) : Type 0 where
  pub below : (z : Float) → T (fits binary32 z) → T (unsigned z) → in_units z < in_units y
      → (in_units z + in_units y) * (in_units z + in_units y) < 4 * (in_units x * 2 ^ 149)
  pub above : (z : Float) → T (fits binary32 z) → T (unsigned z) → in_units y < in_units z
      → 4 * (in_units x * 2 ^ 149) < (in_units z + in_units y) * (in_units z + in_units y)
