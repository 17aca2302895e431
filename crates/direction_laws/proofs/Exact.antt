-- Scaling is exact where the Rust rules: a component's square is not subnormal, so it is 2 ^ −63 at least, and the sum is finite, so it is below 2 ^ 64; scaled it stays in the normal range.
-- Assumes nothing.
use Prim.Native.Nat.{ℕ, ◌+◌, ◌-◌, ◌*◌, ◌/◌, ◌^◌, ◌≤◌, ◌<◌}
use native.Mathlib.Nat.{le_trans, le_of_eq, le_of_lt, le_of_suc-le-suc, lt_of_lt_of_le, lt_of_le_of_lt, lt_of_not-le, not-le_of_lt, zero-mul, mul_assoc, mul_comm, mul_right_comm, mul-pos, le-mul_of_pos_right, mul-lt-mul_of_pos_right, mul-le-mul, mul-le-mul_right, lt_of_mul-lt-mul_right, eq_of_mul-eq-mul_right, div-lt_iff_lt-mul}
use native.Mathlib.Omega.{arith}
use mathlib.Core.Path.{◌≡◌, refl, sym, ap, subst, ◌∙◌}
use mathlib.Core.Bool.{Bool, true, false, ◌&&◌, ◌||◌}
use mathlib.Core.Logic.{◌⊎◌, inl, inr, ⊎_elim}
use lib.Dec.{T, leb, eqb, leb→le, eqb→eq, lit<, lit≤}
use lib.IntN.{ℤ}
use lib.Pow.{pow-add, pow_mono, pow_pos, shl_lt}
use lib.Ieee.{Float, nan, inf, fin, binary32, up, down, minus, size, mul, div}
use lib.Ieee.Digits.{minus_val, size-le, back}
use lib.Ieee.Exact.{HasValue, round_exact}
use lib.Ieee.Fits.{and_l, and_r, down_pos}
use lib.Ieee.Nearest.{closest, closest_mono}
use lib.Ieee.Scale.{finite, round_same}
use borrow.Author.Tests.{leb-true, leb-false}
use Rattle.d3d9_types.specs.Numbers.{float_fits}
use Rattle.float32.specs.Root.{in_units}
use Rattle.float32.proofs.Laws.{units_of_value}
use Rattle.matrix.specs.Sum.{times}
use Rattle.directions.specs.Scale.{digits_of_one}
use Rattle.directions.proofs.Power.{times_value}
use Rattle.direction_laws.specs.Domain.{is_zero, is_normal, in_range}
use Rattle.float32.proofs.Grid.{unit, Short, long}
use Rattle.float32.proofs.Units.{Counted, counted}
use Rattle.direction_laws.proofs.Sum.{square, Large}
use Rattle.direction_laws.proofs.Steps.{limit, square_value}

-- ---- what the domain says of a component

square_finite : (x : Float) → T (finite (times x x)) → T (finite x)
unfolding mul
square_finite nan h = absurd h
square_finite (inf s) h = absurd h
square_finite (fin s m e) h = tt

either : (a b : Bool) → T (a || b) → T a ⊎ T b
either true b t = inl tt
either false b t = inr t

-- the largest float below 2 ^ −63
abbrev edge : ℕ
edge = (2 ^ 24 - 1) * 2 ^ 62

below_edge : (n : ℕ) → Short n → n < 2 ^ 86 → n ≤ edge
below_edge n S h = go (leb S.j 62) refl
  where
    go : (b : Bool) → leb S.j 62 ≡ b → n ≤ edge
    go true e = le_trans (le_of_eq S.is) (mul-le-mul {n₁ = S.m} {m₁ = 2 ^ S.j} {n₂ = 2 ^ 24 - 1} {m₂ = 2 ^ 62} (le_of_suc-le-suc (lt_of_lt_of_le S.few (lit≤ tt))) (pow_mono (leb-true S.j 62 e)))
    go false e =
        let far : 62 ≤ S.j = le_of_lt (leb-false S.j 62 e) in
        let q : ℕ = S.m * 2 ^ (S.j - 62) in
        let is : n ≡ q * 2 ^ 62 = S.is ∙ sym (mul_assoc S.m (2 ^ (S.j - 62)) (2 ^ 62) ∙ ap (λ (a : ℕ). S.m * a) (sym (pow-add 2 (S.j - 62) 62) ∙ ap (λ (i : ℕ). 2 ^ i) (back S.j 62 far))) in
        let few : q < 2 ^ 24 = lt_of_mul-lt-mul_right (2 ^ 62) (lt_of_le_of_lt (le_of_eq (sym is)) h) in
        le_trans (le_of_eq is) (mul-le-mul_right {m = q} {n = 2 ^ 24 - 1} (2 ^ 62) (le_of_suc-le-suc (lt_of_lt_of_le few (lit≤ tt))))

-- its square rounds to less than 2 ^ −126
edge_square : (n : ℕ) → n ≤ edge → square n < 2 ^ 23
edge_square n h =
    let a : ℕ = n * n * 2 ^ 149 in
    let top : a ≤ edge * edge * 2 ^ 149 = mul-le-mul_right (2 ^ 149) (mul-le-mul h h) in
    let under : a < 2 ^ 23 * 2 ^ 298 = lt_of_le_of_lt top (lit< tt) in
    let none : size (a / 2 ^ 298) - 24 ≡ 0 = omega (arith, size-le (a / 2 ^ 298) 23 ((div-lt_iff_lt-mul (pow_pos 298)).1 under)) in
    subst (λ (k : ℕ). closest a (2 ^ 298 * 2 ^ k) * 2 ^ k < 2 ^ 23) (sym none)
    (lt_of_le_of_lt (mul-le-mul_right (2 ^ 0) (closest_mono a (2 ^ 298 * 2 ^ 0) (edge * edge * 2 ^ 149) (2 ^ 298 * 2 ^ 0) (pow_pos 298) (pow_pos 298) (mul-le-mul_right (2 ^ 298 * 2 ^ 0) top))) (lit< tt))

large : (n : ℕ) → Short n → 2 ^ 23 ≤ square n → 2 ^ 86 ≤ n
large n S h = le_of_suc-le-suc (lt_of_not-le (λ (g : n < 2 ^ 86). not-le_of_lt (edge_square n (below_edge n S g)) h))

normal_says : (y : Float) → T (is_normal y) → T (finite y) × (2 ^ 23 ≤ in_units y)
normal_says y n = (and_l (finite y) (leb (2 ^ 23) (in_units y)) n, leb→le (2 ^ 23) (in_units y) (and_r (finite y) (leb (2 ^ 23) (in_units y)) n))

module _ (x l : Float) (h : float_fits x) (r : T (in_range l x)) where
  kinds : T (is_zero x) ⊎ T (is_normal (times x x))
  kinds = elim (either (is_zero x) (is_normal (times x x) && is_normal (div binary32 x l)) r) [ inl z ↦ inl z | inr n ↦ inr (and_l (is_normal (times x x)) (is_normal (div binary32 x l)) n) ]

  pub is_finite : T (finite x)
  is_finite = ⊎_elim (and_l (finite x) (eqb (in_units x) 0)) (λ (n : T (is_normal (times x x))). square_finite x (normal_says (times x x) n).0) kinds

  pub is_large : Large (in_units x)
  is_large =
      let c = counted x h is_finite in
      elim kinds [
        | inl z ↦ inl (eqb→eq (in_units x) 0 (and_r (finite x) (eqb (in_units x) 0) z))
        | inr n ↦
            let q = normal_says (times x x) n in
            let count : in_units (times x x) ≡ square (in_units x) = units_of_value (times x x) (square (in_units x)) (square_value x c.sign (in_units x) c.value q.0) in
            inr (large (in_units x) c.short (le_trans q.1 (le_of_eq count)))
      ]

-- ---- a component times 2 ^ (150 − z), where that has at most 24 digits

abbrev pub power : ℕ → Float
power z = fin false 1 (minus digits_of_one z)

pub scaled_value : (x : Float) (s : Bool) (n z y : ℕ) → HasValue x s n unit → Short y → y < limit → y * 2 ^ z ≡ n * 2 ^ 150 → HasValue (times x (power z)) s y unit
scaled_value x s n z y v S small e =
    let p : ℤ = minus digits_of_one z in
    let same : n * up p ≡ y * down p =
    eq_of_mul-eq-mul_right (2 ^ z) (pow_pos z) (n * up p) (y * down p)
    (minus_val n digits_of_one z ∙ ap (λ (a : ℕ). a * down p) (sym e) ∙ mul_right_comm y (2 ^ z) (down p)) in
    subst (λ (w : Float). HasValue w s y unit)
    (sym
    (times_value x s n unit p (pow_pos 149) v
    ∙ round_same binary32 s (n * up p) (unit * down p) y unit (mul-pos (pow_pos 149) (down_pos p)) (pow_pos 149)
    (ap (λ (a : ℕ). a * unit) same ∙ mul_assoc y (down p) unit ∙ ap (λ (a : ℕ). y * a) (mul_comm (down p) unit))))
    (round_exact binary32 s y unit S.m S.j (pow_pos 149) S.few (lt_of_le_of_lt (le_of_eq (sym S.is)) small) (ap (λ (a : ℕ). a * unit) S.is))

module _ (x : Float) (c : Counted x) (z : ℕ) where
  abbrev n : ℕ
  n = in_units x

  -- up, by 2 ^ t
  pub scaled_up : (t : ℕ) → z + t ≡ 150 → n < 2 ^ z → HasValue (times x (power z)) c.sign (n * 2 ^ t) unit
  scaled_up t e h =
      let S = c.short in
      scaled_value x c.sign n z (n * 2 ^ t) c.value
      (record { m = S.m; j = S.j + t; few = S.few; is = ap (λ (a : ℕ). a * 2 ^ t) S.is ∙ mul_assoc S.m (2 ^ S.j) (2 ^ t) ∙ ap (λ (a : ℕ). S.m * a) (sym (pow-add 2 S.j t)) })
      (lt_of_lt_of_le (mul-lt-mul_of_pos_right h (pow_pos t)) (le_trans (le_of_eq (sym (pow-add 2 z t) ∙ ap (λ (i : ℕ). 2 ^ i) e)) (lit≤ {m = 2 ^ 150} {n = limit} tt)))
      (mul_assoc n (2 ^ t) (2 ^ z) ∙ ap (λ (a : ℕ). n * a) (mul_comm (2 ^ t) (2 ^ z) ∙ sym (pow-add 2 z t) ∙ ap (λ (i : ℕ). 2 ^ i) e))

  -- down, by 2 ^ t
  pub scaled_down : (t : ℕ) → z ≡ 150 + t → t ≤ 63 → Large n → n < limit → (y : ℕ) × (y * 2 ^ t ≡ n) × HasValue (times x (power z)) c.sign y unit
  scaled_down t e near L small =
      ⊎_elim
      (λ (none : n ≡ 0). (0, zero-mul (2 ^ t) ∙ sym none, value 0 (record { m = 0; j = 0; few = lit< tt; is = refl }) (zero-mul (2 ^ t) ∙ sym none)))
      (λ (some : 2 ^ 86 ≤ n).
      let S = c.short in
      let digits : 86 < size n = long n 86 some in
      let few : size n ≤ 24 + S.j = size-le n (24 + S.j) (lt_of_le_of_lt (le_of_eq S.is) (shl_lt 24 S.j S.few)) in
      let y : ℕ = S.m * 2 ^ (S.j - t) in
      let is : y * 2 ^ t ≡ n = mul_assoc S.m (2 ^ (S.j - t)) (2 ^ t) ∙ ap (λ (a : ℕ). S.m * a) (sym (pow-add 2 (S.j - t) t) ∙ ap (λ (i : ℕ). 2 ^ i) (back S.j t (omega arith))) ∙ sym S.is in
      (y, is, value y (record { m = S.m; j = S.j - t; few = S.few; is = refl }) is))
      L
    where
      value : (y : ℕ) → Short y → y * 2 ^ t ≡ n → HasValue (times x (power z)) c.sign y unit
      value y S is =
          scaled_value x c.sign n z y c.value S (lt_of_le_of_lt (le_trans (le-mul_of_pos_right y (pow_pos t)) (le_of_eq is)) small)
          (ap (λ (i : ℕ). y * 2 ^ i) e ∙ ap (λ (a : ℕ). y * a) (pow-add 2 150 t ∙ mul_comm (2 ^ 150) (2 ^ t)) ∙ sym (mul_assoc y (2 ^ t) (2 ^ 150)) ∙ ap (λ (a : ℕ). a * 2 ^ 150) is)
