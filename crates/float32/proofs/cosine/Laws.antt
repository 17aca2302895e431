-- The cosine of every operand is that of its folded magnitude, and it is an f32 value.
use mathlib.Core.Path.{◌≡◌, refl, ap, ◌∙◌}
use mathlib.Core.Bool.{false}
use Rattle.std.specs.Float.{float_with_sign}
use lib.Dec.{T}
use lib.Ieee.{Float, nan, inf, fin, binary32, fits, of_bits, of_int, rem, lt, sub, mul, add, div}
use lib.Ieee.Fits.{add-fits, neg-fits, cond-fits}
use Rattle.float32.specs.Cosine.{magnitude, turn, half_turn, quarter_turn, folded, fraction, horner, polynomial, cos_folded, cos_of}

-- the three kinds of operand are one to the code
pub cos_is : (x : Float) → cos_of x ≡ cos_folded (folded (magnitude x))
unfolding cos_of
cos_is nan = unfold cos_folded folded magnitude turn half_turn quarter_turn polynomial horner fraction of_bits of_int rem lt mul add div in refl
cos_is (inf s) = unfold cos_folded folded magnitude turn half_turn quarter_turn polynomial horner fraction of_bits of_int rem lt mul add div in refl
cos_is (fin s m e) = refl

-- the magnitude is the library's `abs`
magnitude_is : (x : Float) → magnitude x ≡ float_with_sign false x
unfolding magnitude float_with_sign
magnitude_is nan = refl
magnitude_is (inf s) = refl
magnitude_is (fin s m e) = refl

pub cos_by_abs : (x : Float) → cos_of x ≡ cos_folded (folded (float_with_sign false x))
cos_by_abs x = cos_is x ∙ ap (λ (y : Float). cos_folded (folded y)) (magnitude_is x)

polynomial_fits : (t : Float) → T (fits binary32 (polynomial t))
unfolding polynomial horner
polynomial_fits t = add-fits binary32 _ _

folded_fits : (r : Float) → T (fits binary32 (cos_folded r))
unfolding cos_folded
folded_fits r = cond-fits binary32 (lt quarter_turn r) _ _ (neg-fits binary32 _ (polynomial_fits (sub binary32 half_turn r))) (polynomial_fits r)

pub cos_fits : (x : Float) → T (fits binary32 (cos_of x))
cos_fits x = rw cos_is (folded_fits (folded (magnitude x)))
