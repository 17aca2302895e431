-- Borders of the domain, computed, and whether the scaled and the unscaled steps give the same bits there: where the Rust rules they must, beyond it the two part. Assumes nothing.
use Prim.Native.Nat.{ℕ}
use mathlib.Core.Path.{◌≡◌, refl}
use mathlib.Core.Bool.{Bool, true, false, ◌&&◌, beq}
use mathlib.Core.List.{List, [], ◌∷◌}
use lib.Dec.{eqb}
use lib.Ieee.{binary32, of_bits, to_bits, add, mul, div, lt}
use Rattle.d3d9_types.specs.declared.vector.D3DVECTOR.{D3DVECTOR}
use Rattle.float32.specs.Root.{sqrt_of, root_of, nearest_root, floor_root, root_from, in_units}
use Rattle.matrix.specs.Sum.{sum_from}
use Rattle.directions.specs.Direction.{length_of, over_length, unit_direction}
use Rattle.direction_laws.specs.Domain.{rust_rules}

record Case : Type 0 where
  x : ℕ
  y : ℕ
  z : ℕ
  rules : Bool
  same : Bool

case : ℕ → ℕ → ℕ → Bool → Bool → Case
case x y z r s = record { x = x; y = y; z = z; rules = r; same = s }

of : Case → D3DVECTOR
of c = record { x = of_bits binary32 c.x; y = of_bits binary32 c.y; z = of_bits binary32 c.z }

same_bits : D3DVECTOR → D3DVECTOR → Bool
same_bits d e =
    eqb (to_bits binary32 d.x) (to_bits binary32 e.x) && (eqb (to_bits binary32 d.y) (to_bits binary32 e.y) && eqb (to_bits binary32 d.z) (to_bits binary32 e.z))

unfoldable all_rule : List Case → Bool
all_rule [] = true
all_rule (c ∷ cs) = beq (rust_rules (of c)) c.rules && all_rule cs

unfoldable all_same : List Case → Bool
all_same [] = true
all_same (c ∷ cs) = beq (same_bits (unit_direction (of c)) (over_length (of c))) c.same && all_same cs

-- bits; whether the Rust rules; whether the answers are the same
-- 3, 4, 12; zeros; 2 ^ −63 and the float below it, whose square is subnormal; the float below 2 ^ 64, and 2 ^ 64, whose square is infinite
-- 2 ^ −63 beside 2 ^ 63, a quotient of 2 ^ −126; beside the float below 2 ^ 64, a subnormal quotient
-- twice the float below 2 ^ 64: finite squares, an infinite sum; 2 ^ −75, whose square is 0; 1e20; a NaN; an infinity
borders : List Case
borders =
    case 0x40400000 0x40800000 0x41400000 true true
    ∷ case 0 0x80000000 0 true true
    ∷ case 0x20000000 0 0x80000000 true true
    ∷ case 0x1fffffff 0 0 false true
    ∷ case 0 0xdf7fffff 0 true true
    ∷ case 0 0xdf800000 0 false false
    ∷ case 0x5f000000 0x20000000 0 true true
    ∷ case 0x5f7fffff 0x20000000 0 false true
    ∷ case 0x5f7fffff 0x5f7fffff 0 false false
    ∷ case 0 0 0x1a000000 false false
    ∷ case 0x60ad78ec 0 0 false false
    ∷ case 0x7fc00000 0x3f800000 0 false true
    ∷ case 0x7f800000 0x3f800000 0 false true
    ∷ []

rules_right : all_rule borders ≡ true
unfolding all_rule borders case of rust_rules in_units length_of sqrt_of root_of nearest_root floor_root root_from sum_from add mul div of_bits
rules_right = refl

answers_right : all_same borders ≡ true
unfolding all_same borders case of same_bits unit_direction over_length length_of sqrt_of root_of nearest_root floor_root root_from sum_from add mul div lt of_bits to_bits
answers_right = refl
