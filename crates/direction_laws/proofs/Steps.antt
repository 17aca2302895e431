-- The floats that document 01's steps make of a direction, by counts of units: each is rounded once, so it is what `Sum` says, and finite as long as the whole sum is. Assumes nothing.
use Prim.Native.Nat.{ℕ, ◌+◌, ◌*◌, ◌^◌, ◌≤◌, ◌<◌}
use native.Mathlib.Nat.{lt_of_not-le, not-le_of_lt}
use mathlib.Core.Path.{◌≡◌, sym, ap, subst, ◌∙◌}
use mathlib.Core.Bool.{Bool, true, false}
use mathlib.Core.List.{[], ◌∷◌}
use lib.Dec.{T}
use lib.Pow.{pow_pos}
use lib.Ieee.{Float, nan, inf, fin, binary32, round, add}
use lib.Ieee.Exact.{HasValue}
use lib.Ieee.Scale.{grid, finite, round_val, round_under}
use Rattle.matrix.specs.Sum.{plus, times, neg_zero, sum_from}
use Rattle.float32.proofs.Grid.{unit, short}
use Rattle.float32.proofs.Arithmetic.{unlike_itself, mul_is, add-alike, from_zero}
use Rattle.direction_laws.proofs.Sum.{square, two, total, first_below, second_below}

-- ---- a square, and a sum

square_is : (x : Float) (s : Bool) (n : ℕ) → HasValue x s n unit → times x x ≡ round binary32 false (n * n) (2 ^ 298)
square_is x s n h = mul_is x x s s n n unit unit (pow_pos 149) (pow_pos 149) h h ∙ ap (λ (b : Bool). round binary32 b (n * n) (2 ^ 298)) (unlike_itself s)

plus_is : (x y : Float) (p q : ℕ) → HasValue x false p unit → HasValue y false q unit → plus x y ≡ round binary32 false (p + q) unit
plus_is x y p q = add-alike x y false p q unit (pow_pos 149)

-- a sum is finite only where both its terms are
plus_finite : (x y : Float) → T (finite (plus x y)) → T (finite x) × T (finite y)
unfolding add
plus_finite nan y h = absurd h
plus_finite (inf s) nan h = absurd h
plus_finite (inf true) (inf true) h = absurd h
plus_finite (inf true) (inf false) h = absurd h
plus_finite (inf false) (inf true) h = absurd h
plus_finite (inf false) (inf false) h = absurd h
plus_finite (inf s) (fin t n d) h = absurd h
plus_finite (fin s m e) nan h = absurd h
plus_finite (fin s m e) (inf t) h = absurd h
plus_finite (fin s m e) (fin t n d) h = (tt, tt)

-- ---- their values

-- from here on it is an infinity
abbrev pub limit : ℕ
limit = 2 ^ 277

valued : (x : Float) (a c : ℕ) → x ≡ round binary32 false a c → grid binary32 a c < limit → HasValue x false (grid binary32 a c) unit
valued x a c e h = subst (λ (y : Float). HasValue y false (grid binary32 a c) unit) (sym e) (round_val binary32 a c h)

bounded : (x : Float) (a c : ℕ) → x ≡ round binary32 false a c → T (finite x) → grid binary32 a c < limit
bounded x a c e h = round_under binary32 a c (subst (λ (y : Float). T (finite y)) e h)

pub square_value : (x : Float) (s : Bool) (n : ℕ) → HasValue x s n unit → T (finite (times x x)) → HasValue (times x x) false (square n) unit
square_value x s n h f = valued (times x x) (n * n) (2 ^ 298) (square_is x s n h) (bounded (times x x) (n * n) (2 ^ 298) (square_is x s n h) f)

module _ (x y z : Float) (s t u : Bool) (a b c : ℕ) (X : HasValue x s a unit) (Y : HasValue y t b unit) (Z : HasValue z u c unit) where
  abbrev all : Float
  all = sum_from neg_zero (times x x ∷ times y y ∷ times z z ∷ [])

  vx : square a < limit → HasValue (plus neg_zero (times x x)) false (square a) unit
  vx A = from_zero (times x x) false (square a) (valued (times x x) (a * a) (2 ^ 298) (square_is x s a X) A) (short (a * a) (2 ^ 298) (pow_pos 298)) A

  vy : square b < limit → HasValue (times y y) false (square b) unit
  vy B = valued (times y y) (b * b) (2 ^ 298) (square_is y t b Y) B

  vz : square c < limit → HasValue (times z z) false (square c) unit
  vz C = valued (times z z) (c * c) (2 ^ 298) (square_is z u c Z) C

  xy_is : square a < limit → square b < limit → plus (plus neg_zero (times x x)) (times y y) ≡ round binary32 false (square a + square b) unit
  xy_is A B = plus_is (plus neg_zero (times x x)) (times y y) (square a) (square b) (vx A) (vy B)

  all_is : square a < limit → square b < limit → two (square a) (square b) < limit → square c < limit → all ≡ round binary32 false (two (square a) (square b) + square c) unit
  unfolding sum_from
  all_is A B AB C =
      plus_is (plus (plus neg_zero (times x x)) (times y y)) (times z z) (two (square a) (square b)) (square c)
      (valued (plus (plus neg_zero (times x x)) (times y y)) (square a + square b) unit (xy_is A B) AB) (vz C)

  pub sum_value : total a b c < limit → HasValue all false (total a b c) unit
  sum_value h =
      let below : (p q : ℕ) → two p q < limit → (p < limit) × (q < limit) =
      λ (p q : ℕ) (l : two p q < limit).
      (lt_of_not-le (λ (g : limit ≤ p). not-le_of_lt l (first_below 277 p q g)), lt_of_not-le (λ (g : limit ≤ q). not-le_of_lt l (second_below 277 p q g))) in
      let l = below (two (square a) (square b)) (square c) h in
      let k = below (square a) (square b) l.0 in
      valued all (two (square a) (square b) + square c) unit (all_is k.0 k.1 l.0 l.1) h

  pub sum_finite : T (finite all) → total a b c < limit
  unfolding sum_from
  sum_finite h =
      let f = plus_finite (plus (plus neg_zero (times x x)) (times y y)) (times z z) h in
      let g = plus_finite (plus neg_zero (times x x)) (times y y) f.0 in
      let A : square a < limit = bounded (times x x) (a * a) (2 ^ 298) (square_is x s a X) (plus_finite neg_zero (times x x) g.0).1 in
      let B : square b < limit = bounded (times y y) (b * b) (2 ^ 298) (square_is y t b Y) g.1 in
      let C : square c < limit = bounded (times z z) (c * c) (2 ^ 298) (square_is z u c Z) f.1 in
      let AB : two (square a) (square b) < limit = bounded (plus (plus neg_zero (times x x)) (times y y)) (square a + square b) unit (xy_is A B) f.0 in
      bounded all (two (square a) (square b) + square c) unit (all_is A B AB C) h
