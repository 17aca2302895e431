-- Directions and what they pack, computed, by their bits. The first three are the Rust's, who is the oracle there; the others come from exact fractions, rounded
-- step by step (`oracle/run scene` prints both).
use Prim.Native.Nat.{ℕ}
use mathlib.Core.Path.{◌≡◌, refl}
use mathlib.Core.Bool.{Bool, true, ◌&&◌}
use mathlib.Core.List.{List, [], ◌∷◌}
use lib.Dec.{eqb}
use lib.Ieee.{binary32, of_bits, to_bits, add, mul, div, lt}
use Rattle.float32.specs.Root.{sqrt_of, root_of, nearest_root, floor_root, root_from}
use Rattle.matrix.specs.Sum.{sum_from}
use Rattle.directions.specs.Direction.{length_of, unit_direction}

record Case : Type 0 where
  x : ℕ
  y : ℕ
  z : ℕ
  packed_x : ℕ
  packed_y : ℕ
  packed_z : ℕ

unfoldable all : List Case → Bool
all [] = true
all (c ∷ cs) =
    let d = unit_direction (record { x = of_bits binary32 c.x; y = of_bits binary32 c.y; z = of_bits binary32 c.z }) in
    eqb (to_bits binary32 d.x) c.packed_x && (eqb (to_bits binary32 d.y) c.packed_y && (eqb (to_bits binary32 d.z) c.packed_z && all cs))

case : ℕ → ℕ → ℕ → ℕ → ℕ → ℕ → Case
case x y z u v w = record { x = x; y = y; z = z; packed_x = u; packed_y = v; packed_z = w }

-- 3, 4, 12 has the length 13; P11; 0.1, 0.1, 0.4, whose squares are summed from x on
-- 1e20 and −1e20 on one axis; the least value, 2 ^ −149; 1e20 beside 1e−20; the largest float beside the least
-- a zero; a NaN; an infinity, over which 1 is 0
directions : List Case
directions =
    case 0x40400000 0x40800000 0x41400000 0x3e6c4ec5 0x3e9d89d9 0x3f6c4ec5
    ∷ case 0 0 0x40000000 0 0 0x3f800000
    ∷ case 0x3dcccccd 0x3dcccccd 0x3ecccccd 0x3e715bef 0x3e715bef 0x3f715bef
    ∷ case 0x60ad78ec 0 0 0x3f800000 0 0
    ∷ case 0 0xe0ad78ec 0 0 0xbf800000 0
    ∷ case 0 0 0x00000001 0 0 0x3f800000
    ∷ case 0x60ad78ec 0x1e3ce508 0 0x3f800000 0x000116c2 0
    ∷ case 0x00000001 0x80000000 0x7f7fffff 0 0x80000000 0x3f800000
    ∷ case 0 0x80000000 0 0 0 0
    ∷ case 0x7fc00000 0x3f800000 0x3f800000 0 0 0
    ∷ case 0x7f800000 0x3f800000 0xbf800000 0x7fc00000 0 0x80000000
    ∷ []

directions_right : all directions ≡ true
unfolding all directions case unit_direction length_of sqrt_of root_of nearest_root floor_root root_from sum_from add mul div lt of_bits to_bits
directions_right = refl
