-- Where the Rust rules, a direction scaled first has the unit direction that document 01's steps give unscaled: its length differs by the same power of two as its components do.
-- Assumes nothing.
use Prim.Native.Nat.{ℕ, ◌+◌, ◌-◌, ◌*◌, ◌^◌, ◌≤◌, ◌<◌, max}
use native.Mathlib.Nat.{le_trans, le_of_eq, lt_of_lt_of_le, lt_of_le_of_lt, le-max_left, le-max_right}
use native.Mathlib.Omega.{arith}
use mathlib.Core.Path.{◌≡◌, refl, sym, ap, ap₂, subst, ◌∙◌}
use mathlib.Core.Bool.{Bool, true, false, ◌&&◌}
use mathlib.Core.Logic.{⊎_elim}
use lib.Dec.{T, leb, lit≤}
use lib.Pow.{pow_pos}
use lib.Ieee.{Float, size}
use lib.Ieee.Digits.{size-lt, size-le}
use lib.Ieee.Exact.{HasValue}
use lib.Ieee.Fits.{and_l, and_r}
use lib.Ieee.Positive.{first_pos}
use lib.Ieee.Scale.{finite}
use borrow.Author.Tests.{leb-true, leb-false}
use Rattle.d3d9_types.specs.Vector.{vectorFits}
use Rattle.d3d9_types.specs.declared.vector.D3DVECTOR.{D3DVECTOR}
use Rattle.float32.specs.Root.{in_units}
use Rattle.lemmas.proofs.Tests.{test}
use Rattle.directions.specs.Scale.{largest, scalable, scaling, scaled_by, scaled}
use Rattle.directions.specs.Direction.{length_of, over_length, unit_direction}
use Rattle.directions.proofs.Range.{largest_in_range}
use Rattle.directions.proofs.Scaling.{scaled_if, scaled-not, scalable_says}
use Rattle.direction_laws.specs.Domain.{in_range, sum_of_squares, rust_rules}
use Rattle.float32.proofs.Grid.{unit}
use Rattle.float32.proofs.Units.{Counted, counted, units_of}
use Rattle.direction_laws.proofs.Sum.{square, Large, two, total, total_exact, total_moved, reaching, total_small, total_bounds}
use Rattle.direction_laws.proofs.Steps.{limit, sum_finite}
use Rattle.direction_laws.proofs.Pair.{same}
use Rattle.direction_laws.proofs.Exact.{is_finite, is_large, power, scaled_up, scaled_down}

module _ (d : D3DVECTOR) (h : vectorFits d) (R : T (rust_rules d)) where
  abbrev l : Float
  l = length_of d

  abbrev a : ℕ
  a = in_units d.x

  abbrev b : ℕ
  b = in_units d.y

  abbrev c : ℕ
  c = in_units d.z

  says : T (in_range l d.x) × T (in_range l d.y) × T (in_range l d.z) × T (finite (sum_of_squares d))
  unfolding rust_rules
  says =
      let p = in_range l d.x in
      let q = in_range l d.y in
      let r = in_range l d.z in
      let all = and_l (p && (q && r)) (finite (sum_of_squares d)) R in
      (and_l p (q && r) all, and_l q r (and_r p (q && r) all), and_r q r (and_r p (q && r) all), and_r (p && (q && r)) (finite (sum_of_squares d)) R)

  cx : Counted d.x
  cx = counted d.x h.x (is_finite d.x l h.x says.0)

  cy : Counted d.y
  cy = counted d.y h.y (is_finite d.y l h.y says.1)

  cz : Counted d.z
  cz = counted d.z h.z (is_finite d.z l h.z says.2)

  lx : Large a
  lx = is_large d.x l h.x says.0

  ly : Large b
  ly = is_large d.y l h.y says.1

  lz : Large c
  lz = is_large d.z l h.z says.2

  -- the sum is finite, so that no component reaches 2 ^ 64
  below : total a b c < limit
  below = sum_finite d.x d.y d.z cx.sign cy.sign cz.sign a b c cx.value cy.value cz.value says.3

  -- the digits of the largest component
  z : ℕ
  z = size (max a (max b c))

  few : z ≤ 213
  unfolding z
  few = size-le (max a (max b c)) 213 (total_bounds a b c below)

  module _ (yes : scalable d ≡ true) where
    abbrev e : D3DVECTOR
    e = scaled_by (power z) d

    scaled_is : scaled d ≡ e
    unfolding z scaling largest
    scaled_is = scaled_if d yes

    range : (2 ^ 149 ≤ largest e) × (largest e < 2 ^ 150)
    range = subst (λ (v : D3DVECTOR). (2 ^ 149 ≤ largest v) × (largest v < 2 ^ 150)) scaled_is (let s = scalable_says d yes in largest_in_range d h s.0 s.1 s.2 s.3)

    by_counts : (r s u : Bool) (i j k : ℕ) → HasValue e.x r i unit → HasValue e.y s j unit → HasValue e.z u k unit → largest e ≡ max i (max j k)
    unfolding largest
    by_counts r s u i j k x y w =
        ap₂ max (units_of e.x r i unit i (pow_pos 149) x refl) (ap₂ max (units_of e.y s j unit j (pow_pos 149) y refl) (units_of e.z u k unit k (pow_pos 149) w refl))

    size_max : max a (max b c) < 2 ^ z
    unfolding z
    size_max = size-lt (max a (max b c))

    -- the largest component is below 2: each goes up by 2 ^ t, or stays
    up_case : z ≤ 150 → over_length e ≡ over_length d
    up_case g =
        let t : ℕ = 150 - z in
        let sum : z + t ≡ 150 = omega arith in
        let X = scaled_up d.x cx z t sum (lt_of_le_of_lt (le-max_left a (max b c)) size_max) in
        let Y = scaled_up d.y cy z t sum (lt_of_le_of_lt (le_trans (le-max_left b c) (le-max_right a (max b c))) size_max) in
        let Z = scaled_up d.z cz z t sum (lt_of_le_of_lt (le_trans (le-max_right b c) (le-max_right a (max b c))) size_max) in
        let most : largest e ≡ max (a * 2 ^ t) (max (b * 2 ^ t) (c * 2 ^ t)) = by_counts cx.sign cy.sign cz.sign (a * 2 ^ t) (b * 2 ^ t) (c * 2 ^ t) X Y Z in
        let is : total (a * 2 ^ t) (b * 2 ^ t) (c * 2 ^ t) ≡ total a b c * 2 ^ (t + t) = total_exact a b c t lx ly lz in
        let reach = reaching (a * 2 ^ t) (b * 2 ^ t) (c * 2 ^ t) (le_trans range.0 (le_of_eq most)) in
        let some : 0 < total a b c = first_pos (total a b c) (2 ^ (t + t)) (lt_of_lt_of_le (pow_pos 149) (le_trans reach (le_of_eq is))) in
        sym
        (same d e cx.sign cy.sign cz.sign a b c t cx.value cy.value cz.value X Y Z some
        (total_small (a * 2 ^ t) (b * 2 ^ t) (c * 2 ^ t) (lt_of_le_of_lt (le_of_eq (sym most)) range.1)) is)

    -- it is 2 or more: each goes down by 2 ^ t, to i, j, k units
    down_at : (t i j k : ℕ) → i * 2 ^ t ≡ a → j * 2 ^ t ≡ b → k * 2 ^ t ≡ c → HasValue e.x cx.sign i unit → HasValue e.y cy.sign j unit → HasValue e.z cz.sign k unit → over_length e ≡ over_length d
    down_at t i j k p q r X Y Z =
        let reach : 2 ^ 149 ≤ total i j k = reaching i j k (le_trans range.0 (le_of_eq (by_counts cx.sign cy.sign cz.sign i j k X Y Z))) in
        let whole : total (i * 2 ^ t) (j * 2 ^ t) (k * 2 ^ t) ≡ total a b c = ap₂ two (ap₂ two (ap square p) (ap square q)) (ap square r) in
        same e d cx.sign cy.sign cz.sign i j k t X Y Z
        (subst (λ (n : ℕ). HasValue d.x cx.sign n unit) (sym p) cx.value)
        (subst (λ (n : ℕ). HasValue d.y cy.sign n unit) (sym q) cy.value)
        (subst (λ (n : ℕ). HasValue d.z cz.sign n unit) (sym r) cz.value)
        (lt_of_lt_of_le (pow_pos 149) reach) (lt_of_le_of_lt (le_of_eq whole) below) (total_moved i j k t reach)

    down_case : 150 < z → over_length e ≡ over_length d
    down_case g =
        let t : ℕ = z - 150 in
        let sum : z ≡ 150 + t = omega arith in
        let near : t ≤ 63 = omega (arith, few) in
        let under : max a (max b c) < limit = lt_of_lt_of_le (total_bounds a b c below) (lit≤ tt) in
        let X = scaled_down d.x cx z t sum near lx (lt_of_le_of_lt (le-max_left a (max b c)) under) in
        let Y = scaled_down d.y cy z t sum near ly (lt_of_le_of_lt (le_trans (le-max_left b c) (le-max_right a (max b c))) under) in
        let Z = scaled_down d.z cz z t sum near lz (lt_of_le_of_lt (le_trans (le-max_right b c) (le-max_right a (max b c))) under) in
        down_at t X.0 Y.0 Z.0 X.1 Y.1 Z.1 X.2 Y.2 Z.2

    scaled_same : over_length (scaled d) ≡ over_length d
    scaled_same = ap over_length scaled_is ∙ go (leb z 150) refl
      where
        go : (q : Bool) → leb z 150 ≡ q → over_length e ≡ over_length d
        go true w = up_case (leb-true z 150 w)
        go false w = down_case (leb-false z 150 w)

  pub agree : unit_direction d ≡ over_length d
  unfolding unit_direction
  agree = ⊎_elim scaled_same (λ (no : scalable d ≡ false). ap over_length (scaled-not d no)) (test (scalable d))
