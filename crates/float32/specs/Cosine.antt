-- The stand-in cosine of document 01, 'The arithmetic underneath', each step one rounded operation of `lib.Ieee`. The constants are the floats with those bits.
use Rattle.std.specs.Prelude.{ℕ, false, cond, ℤ, pos, negsuc, Float}
use Rattle.std.specs.Float.{nan, inf, fin, binary32}
use Rattle.std.specs.Float.Ieee.{of_bits, of_int, add, sub, mul, div, rem, neg, lt}

-- y: the magnitude
unfoldable pub magnitude : Float → Float
magnitude nan = nan
magnitude (inf s) = inf false
magnitude (fin s m e) = fin false m e

-- T, and the two floats that the angle is compared with
unfoldable pub turn : Float
turn = of_bits binary32 0x40C90FDB

unfoldable pub half_turn : Float
half_turn = of_bits binary32 0x40490FDB

unfoldable pub quarter_turn : Float
quarter_turn = of_bits binary32 0x3FC90FDB

-- r = y % T, and T - r where r exceeds half a turn
unfoldable pub folded : Float → Float
folded y = let r = rem binary32 y turn in cond (lt half_turn r) (sub binary32 turn r) r

-- a fraction: one division
unfoldable pub fraction : ℤ → ℕ → Float
fraction a b = div binary32 (of_int binary32 a) (of_int binary32 (pos b))

-- one step from the inside: c + u * rest
unfoldable pub horner : Float → Float → Float → Float
horner u c rest = add binary32 c (mul binary32 u rest)

-- P(t) = 1 + u (-1/2 + u (1/24 + u (-1/720 + u (1/40320)))), with u = t t
unfoldable pub polynomial : Float → Float
polynomial t =
    let u = mul binary32 t t in
    horner u (of_int binary32 (pos 1))
    (horner u (fraction (negsuc 0) 2)
    (horner u (fraction (pos 1) 24)
    (horner u (fraction (negsuc 0) 720) (fraction (pos 1) 40320))))

-- P(r), or beyond a quarter turn -P(half a turn - r)
unfoldable pub cos_folded : Float → Float
cos_folded r = cond (lt quarter_turn r) (neg (polynomial (sub binary32 half_turn r))) (polynomial r)

-- a NaN and an infinity give NaN
unfoldable pub cos_of : Float → Float
cos_of nan = nan
cos_of (inf s) = nan
cos_of (fin s m e) = cos_folded (folded (magnitude (fin s m e)))
