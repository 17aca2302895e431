-- Worked examples, computed: they hold the definitions to document 01, so that bending code and definition alike does not go unseen.
use Prim.Native.Nat.{ℕ}
use mathlib.Core.Path.{◌≡◌, refl}
use lib.IntN.{pos}
use lib.Ieee.{Float, nan, binary32, of_bits, to_bits, of_int, add, sub, mul, div, rem, neg, lt, is_nan}
use Rattle.d3d9_types.specs.Numbers.{zero, one}
use Rattle.float32.specs.Larger.{larger}
use Rattle.float32.specs.Cosine.{magnitude, turn, half_turn, quarter_turn, folded, fraction, horner, polynomial, cos_folded, cos_of}
use Rattle.light_rows.specs.Floor.{smallest, floored}
use Rattle.light_rows.specs.Cone.{half_cosine, spot_scale, cone_of}
use Rattle.light_rows.specs.Light.{kind_of}

abbrev p : ℕ → Float
p n = of_int binary32 (pos n)

-- 0x358637BD is 1 / 1,000,000, rounded once
millionth : smallest ≡ div binary32 one (p 1_000_000)
unfolding smallest of_bits of_int div
millionth = refl

nan_loses : floored nan ≡ smallest
unfolding floored larger lt is_nan
nan_loses = refl

above_stays : floored (p 3) ≡ p 3
unfolding floored smallest larger lt is_nan of_bits of_int
above_stays = refl

-- theta = phi = 0 leaves no width: the scale is 1,000,000 and the offset its negative, by their bits
narrow : (to_bits binary32 (cone_of 2 zero zero).scale ≡ 0x49742400) × (to_bits binary32 (cone_of 2 zero zero).offset ≡ 0xC9742400)
unfolding cone_of spot_scale half_cosine floored smallest larger lt is_nan cos_of cos_folded folded polynomial horner fraction magnitude turn half_turn quarter_turn add sub mul div rem neg of_bits of_int to_bits
narrow = (refl, refl)

-- other kinds have none
point_none : cone_of 1 one one ≡ record { scale = zero; offset = zero }
unfolding cone_of
point_none = refl

kinds : (kind_of 3 ≡ p 3) × ((kind_of 2 ≡ p 2) × (kind_of 1 ≡ p 1))
unfolding kind_of
kinds = (refl, (refl, refl))
