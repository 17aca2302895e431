-- Worked examples that the definitions compute to, so that a definition bent together with its code is refused here. Each pair is operand bits and result bits.
-- The cosines are lines of oracle/cosine_vectors.py, computed there in exact fractions; the roots are lines of oracle/root_vectors.txt, reasoned there in whole numbers. Assumes nothing.
use Prim.Native.Nat.{ℕ}
use mathlib.Core.Path.{◌≡◌, refl}
use mathlib.Core.Bool.{Bool, true, ◌&&◌}
use mathlib.Core.List.{List, [], ◌∷◌}
use lib.Dec.{eqb}
use lib.Ieee.{Float, nan, inf, binary32, odd, of_bits, to_bits, of_int, add, sub, mul, div, rem, neg, lt, is_nan}
use Rattle.float32.specs.Larger.{larger}
use Rattle.float32.specs.Root.{root_from, floor_root, nearest_root, root_of, sqrt_of}
use Rattle.float32.specs.Cosine.{magnitude, turn, half_turn, quarter_turn, folded, fraction, horner, polynomial, cos_folded, cos_of}

record Pair : Type 0 where
  operand : ℕ
  result : ℕ

unfoldable all : (Float → Float) → List Pair → Bool
all f [] = true
all f (p ∷ ps) = eqb (to_bits binary32 (f (of_bits binary32 p.operand))) p.result && all f ps

pair : ℕ → ℕ → Pair
pair x y = record { operand = x; result = y }

-- special operands; squares; the neighbours of 1 and 4; the least and largest subnormal and normal
roots : List Pair
roots =
    pair 0x00000000 0x00000000
    ∷ pair 0x80000000 0x80000000
    ∷ pair 0x7f800000 0x7f800000
    ∷ pair 0xff800000 0x7fc00000
    ∷ pair 0xffffffff 0x7fc00000
    ∷ pair 0x80000001 0x7fc00000
    ∷ pair 0x40100000 0x3fc00000
    ∷ pair 0x007fe002 0x1fffe000
    ∷ pair 0x40000000 0x3fb504f3
    ∷ pair 0x3f800002 0x3f800001
    ∷ pair 0x407fffff 0x3fffffff
    ∷ pair 0x00000001 0x1a3504f3
    ∷ []

-- each branch: within a quarter turn, beyond it, beyond half a turn and within a quarter of the whole; a quarter turn itself and the float behind it; a large angle, a negative one, an infinity
cosines : List Pair
cosines =
    pair 0x00000000 0x3f800000
    ∷ pair 0x3f800000 0x3f0a5145
    ∷ pair 0x41200000 0xbf56cd66
    ∷ pair 0x40afeddf 0x3f3504f0
    ∷ pair 0x4089f629 0xbec7e59a
    ∷ pair 0x401a5bed 0xbf3ecf76
    ∷ pair 0x3fc90fdb 0x37cf8000
    ∷ pair 0x3fc90fdc 0xb7d08000
    ∷ pair 0x782aaaaa 0xbf7ffe95
    ∷ pair 0xff5c96a0 0x3e8a8d28
    ∷ pair 0x7f800000 0x7fc00000
    ∷ []

roots_right : all sqrt_of roots ≡ true
unfolding all roots pair sqrt_of root_of nearest_root floor_root root_from odd of_bits to_bits
roots_right = refl

cosines_right : all cos_of cosines ≡ true
unfolding all cosines pair cos_of cos_folded folded magnitude turn half_turn quarter_turn polynomial horner fraction of_bits to_bits of_int add sub mul div rem neg lt
cosines_right = refl

-- a NaN loses on either side
nan_loses : (larger nan (inf true) ≡ inf true) × (larger (inf true) nan ≡ inf true)
unfolding larger lt is_nan
nan_loses = (refl, refl)
