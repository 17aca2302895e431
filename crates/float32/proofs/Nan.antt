-- A NaN in tests and in bit patterns: a NaN is the one `nan`, its bits are those of one pattern, and a pattern above infinity's, once the sign is cut off, is a NaN's.
use Prim.Native.Nat.{ℕ, ◌%◌, ◌<◌, ◌≤◌}
use mathlib.Core.Path.{◌≡◌, refl, sym, subst, ◌∙◌}
use mathlib.Core.Bool.{true, false}
use lib.Dec.{T}
use lib.Ieee.{Float, nan, inf, fin, binary32, is_nan, nan_bits, of_bits, to_bits}
use lib.Ieee.Bits.{nan_bits_is, nan_bits_above}
use borrow.Author.Tests.{lt-ltb, le-ltb}

pub nan_is : (x : Float) → is_nan x ≡ true → x ≡ nan
unfolding is_nan
nan_is nan e = refl
nan_is (inf s) e = absurd (subst T (sym e) tt)
nan_is (fin s m n) e = absurd (subst T (sym e) tt)

-- the bits of a NaN
pub nan_pattern : (x : Float) → is_nan x ≡ true → to_bits binary32 x ≡ 0x7FC0_0000
nan_pattern x e = rw (nan_is x e) (unfold to_bits in refl)

-- what the comparison with infinity's pattern says
pub above_is_nan : (n : ℕ) → 0x7F80_0000 < n % 0x8000_0000 → of_bits binary32 n ≡ nan
above_is_nan n h = nan_is (of_bits binary32 n) (sym (nan_bits_is binary32 n) ∙ nan_bits_above binary32 n ∙ lt-ltb 0x7F80_0000 (n % 0x8000_0000) h)

pub below_is_no_nan : (n : ℕ) → n % 0x8000_0000 ≤ 0x7F80_0000 → nan_bits binary32 n ≡ false
below_is_no_nan n h = nan_bits_above binary32 n ∙ le-ltb 0x7F80_0000 (n % 0x8000_0000) h
