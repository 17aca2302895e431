-- The sum of three squares, each step rounded, in units of 2 ^ −149: of components 2 ^ t times as large it is 2 ^ (2 t) times as large, where no square is subnormal, or where a component is 1 or more.
-- Assumes nothing.
use Prim.Native.Nat.{ℕ, ◌+◌, ◌*◌, ◌/◌, ◌^◌, ◌-◌, ◌≤◌, ◌<◌, max}
use native.Mathlib.Nat.{le_trans, le_of_eq, le_of_suc-le-suc, lt_of_lt_of_le, lt_of_le_of_lt, lt_of_not-le, not-le_of_lt, le-add_left, le-add_right, le-max_left, le-max_right, add-mul, zero-mul, mul_assoc, mul_left_comm, mul_right_comm, mul-le-mul, mul-le-mul_right, mul-lt-mul_of_pos_right, div-lt_iff_lt-mul}
use native.Mathlib.Omega.{arith}
use mathlib.Core.Path.{◌≡◌, refl, sym, ap, ap₂, ◌∙◌}
use mathlib.Core.Bool.{Bool, true, false}
use mathlib.Core.Logic.{◌⊎◌, inl, inr, ⊎_elim}
use lib.Dec.{leb, lit<, lit≤}
use lib.Pow.{pow-add, pow_mono, pow_pos}
use lib.Ieee.{binary32, size}
use lib.Ieee.Digits.{size-lt}
use lib.Ieee.Scale.{grid, grid_scale, normal_of_fraction}
use borrow.Author.Tests.{leb-true, leb-false}
use Rattle.float32.proofs.Grid.{unit, Short, power_below, power_above, short, whole_scale}
use Rattle.direction_laws.proofs.Absorb.{Alike, exactly, small, weaker, joined, sum_above, sum_below}

-- ---- squares

abbrev pub square : ℕ → ℕ
square n = grid binary32 (n * n) (2 ^ 298)

moved : (n t : ℕ) → n * 2 ^ t * (n * 2 ^ t) ≡ n * n * 2 ^ (t + t)
moved n t = simp (pow-add, mul_assoc, mul_left_comm)

normal_square : (n t : ℕ) → 24 ≤ size (n * n * 2 ^ 149 / 2 ^ 298) → square (n * 2 ^ t) ≡ square n * 2 ^ (t + t)
normal_square n t h = ap (λ (a : ℕ). grid binary32 a (2 ^ 298)) (moved n t) ∙ grid_scale binary32 (n * n) (2 ^ 298) (t + t) (pow_pos 298) h

square_alike : (n t : ℕ) → Alike (t + t) 23 (square n) (square (n * 2 ^ t))
square_alike n t = go (leb 24 (size (n * n * 2 ^ 149 / 2 ^ 298))) refl
  where
    go : (b : Bool) → leb 24 (size (n * n * 2 ^ 149 / 2 ^ 298)) ≡ b → Alike (t + t) 23 (square n) (square (n * 2 ^ t))
    go true e = exactly (normal_square n t (leb-true 24 (size (n * n * 2 ^ 149 / 2 ^ 298)) e))
    go false e =
        let few : size (n * n * 2 ^ 149 / 2 ^ 298) ≤ 23 = le_of_suc-le-suc (leb-false 24 (size (n * n * 2 ^ 149 / 2 ^ 298)) e) in
        let l : n * n * 2 ^ 149 < 2 ^ 23 * 2 ^ 298 = (div-lt_iff_lt-mul (pow_pos 298)).0 (lt_of_lt_of_le (size-lt (n * n * 2 ^ 149 / 2 ^ 298)) (pow_mono few)) in
        let r : n * 2 ^ t * (n * 2 ^ t) * 2 ^ 149 < 2 ^ (23 + (t + t)) * 2 ^ 298 =
        lt_of_le_of_lt (le_of_eq (ap (λ (a : ℕ). a * 2 ^ 149) (moved n t) ∙ mul_right_comm (n * n) (2 ^ (t + t)) (2 ^ 149)))
        (lt_of_lt_of_le (mul-lt-mul_of_pos_right l (pow_pos (t + t))) (le_of_eq (mul_right_comm (2 ^ 23) (2 ^ 298) (2 ^ (t + t)) ∙ ap (λ (a : ℕ). a * 2 ^ 298) (sym (pow-add 2 23 (t + t)))))) in
        small (power_above (n * n) (2 ^ 298) (pow_pos 298) 23 l) (power_above (n * 2 ^ t * (n * 2 ^ t)) (2 ^ 298) (pow_pos 298) (23 + (t + t)) r)

-- zero, or 2 ^ −63 at least: the square is not subnormal
abbrev pub Large : ℕ → Type 0
Large n = (n ≡ 0) ⊎ (2 ^ 86 ≤ n)

square_zero : square 0 ≡ 0
unfolding size
square_zero = refl

square_exact : (n t : ℕ) → Large n → square (n * 2 ^ t) ≡ square n * 2 ^ (t + t)
square_exact n t =
    ⊎_elim
    (λ (e : n ≡ 0). rw (e, zero-mul (2 ^ t)) (square_zero ∙ sym (ap (λ (a : ℕ). a * 2 ^ (t + t)) square_zero ∙ zero-mul (2 ^ (t + t)))))
    (λ (h : 2 ^ 86 ≤ n). normal_square n t (normal_of_fraction binary32 (n * n) (2 ^ 298) (pow_pos 298) (mul-le-mul_right (2 ^ 149) (mul-le-mul h h))))

square_below : (n : ℕ) → 2 ^ 149 ≤ n → 2 ^ 149 ≤ square n
square_below n h = power_below (n * n) (2 ^ 298) (pow_pos 298) 149 (mul-le-mul_right (2 ^ 149) (mul-le-mul h h))

-- a float whose square is finite is below 2 ^ 64
square_over : (n : ℕ) → 2 ^ 213 ≤ n → 2 ^ 277 ≤ square n
square_over n h = power_below (n * n) (2 ^ 298) (pow_pos 298) 277 (le_trans (lit≤ {m = 2 ^ 277 * 2 ^ 298} {n = 2 ^ 213 * 2 ^ 213 * 2 ^ 149} tt) (mul-le-mul_right (2 ^ 149) (mul-le-mul h h)))

-- ---- sums

abbrev pub two : ℕ → ℕ → ℕ
two p q = grid binary32 (p + q) unit

pub first_below : (j p q : ℕ) → 2 ^ j ≤ p → 2 ^ j ≤ two p q
first_below j p q h = sum_below (p + q) j (le_trans h (le-add_right p q))

pub second_below : (j p q : ℕ) → 2 ^ j ≤ q → 2 ^ j ≤ two p q
second_below j p q h = sum_below (p + q) j (le_trans h (le-add_left q p))

abbrev pub total : ℕ → ℕ → ℕ → ℕ
total x y z = two (two (square x) (square y)) (square z)

module _ (x y z t : ℕ) where
  abbrev x' : ℕ
  x' = x * 2 ^ t

  abbrev y' : ℕ
  y' = y * 2 ^ t

  abbrev z' : ℕ
  z' = z * 2 ^ t

  two_exact : (p q s : ℕ) → two (p * 2 ^ s) (q * 2 ^ s) ≡ two p q * 2 ^ s
  two_exact p q s = ap (λ (a : ℕ). grid binary32 a unit) (sym (add-mul p q (2 ^ s))) ∙ whole_scale (p + q) s

  pub total_exact : Large x → Large y → Large z → total x' y' z' ≡ total x y z * 2 ^ (t + t)
  total_exact X Y Z =
      let s : ℕ = t + t in
      ap₂ two (ap₂ two (square_exact x t X) (square_exact y t Y) ∙ two_exact (square x) (square y) s) (square_exact z t Z)
      ∙ two_exact (two (square x) (square y)) (square z) s

  alike : Alike (t + t) 83 (total x y z) (total x' y' z')
  alike =
      let s : ℕ = t + t in
      let S : (n : ℕ) → Short (square n) = λ (n : ℕ). short (n * n) (2 ^ 298) (pow_pos 298) in
      let S₂ : (p q : ℕ) → Short (two p q) = λ (p q : ℕ). short (p + q) unit (pow_pos 149) in
      joined s 53 (two (square x) (square y)) (two (square x') (square y')) (square z) (square z') (S₂ (square x) (square y)) (S₂ (square x') (square y')) (S z) (S z')
      (joined s 23 (square x) (square x') (square y) (square y') (S x) (S x') (S y) (S y') (square_alike x t) (square_alike y t))
      (weaker s 23 53 (square z) (square z') (lit≤ tt) (square_alike z t))

  pub total_moved : 2 ^ 149 ≤ total x y z → total x' y' z' ≡ total x y z * 2 ^ (t + t)
  total_moved h = go alike
    where
      go : Alike (t + t) 83 (total x y z) (total x' y' z') → total x' y' z' ≡ total x y z * 2 ^ (t + t)
      go (exactly e) = e
      go (small a b) = absurd (not-le_of_lt (lt_of_le_of_lt a (lit< tt)) h)

-- ---- by the largest of the three

under_all : (n a b c : ℕ) → a < n → b < n → c < n → max a (max b c) < n
under_all n a b c x y z = omega arith

reached : (n a b : ℕ) → n ≤ max a b → (n ≤ a) ⊎ (n ≤ b)
reached n a b h = go (leb n a) refl
  where
    go : (t : Bool) → leb n a ≡ t → (n ≤ a) ⊎ (n ≤ b)
    go true e = inl (leb-true n a e)
    go false e = inr (omega (arith, leb-false n a e))

pub reaching : (a b c : ℕ) → 2 ^ 149 ≤ max a (max b c) → 2 ^ 149 ≤ total a b c
reaching a b c h =
    ⊎_elim
    (λ (g : 2 ^ 149 ≤ a). first_below 149 (two (square a) (square b)) (square c) (first_below 149 (square a) (square b) (square_below a g)))
    (λ (g : 2 ^ 149 ≤ max b c).
    ⊎_elim
    (λ (k : 2 ^ 149 ≤ b). first_below 149 (two (square a) (square b)) (square c) (second_below 149 (square a) (square b) (square_below b k)))
    (λ (k : 2 ^ 149 ≤ c). second_below 149 (two (square a) (square b)) (square c) (square_below c k))
    (reached (2 ^ 149) b c g))
    (reached (2 ^ 149) a (max b c) h)

square_small : (n : ℕ) → n < 2 ^ 150 → square n ≤ 2 ^ 151
square_small n h =
    let l : n ≤ 2 ^ 150 - 1 = le_of_suc-le-suc (lt_of_lt_of_le h (lit≤ tt)) in
    power_above (n * n) (2 ^ 298) (pow_pos 298) 151 (lt_of_le_of_lt (mul-le-mul_right (2 ^ 149) (mul-le-mul l l)) (lit< {m = (2 ^ 150 - 1) * (2 ^ 150 - 1) * 2 ^ 149} tt))

two_small : (j p q : ℕ) → p ≤ 2 ^ j → q ≤ 2 ^ j → two p q ≤ 2 ^ (j + 2)
two_small j p q h k =
    let v : 2 ^ (j + 2) ≡ 2 ^ j * 4 = pow-add 2 j 2 in
    let w : 0 < 2 ^ j = pow_pos j in
    sum_above (p + q) (j + 2) (omega arith)

-- components below 2 have a sum of squares far from an infinity
pub total_small : (a b c : ℕ) → max a (max b c) < 2 ^ 150 → total a b c < 2 ^ 277
total_small a b c h =
    let x : square a ≤ 2 ^ 151 = square_small a (lt_of_le_of_lt (le-max_left a (max b c)) h) in
    let y : square b ≤ 2 ^ 151 = square_small b (lt_of_le_of_lt (le_trans (le-max_left b c) (le-max_right a (max b c))) h) in
    let z : square c ≤ 2 ^ 151 = square_small c (lt_of_le_of_lt (le_trans (le-max_right b c) (le-max_right a (max b c))) h) in
    lt_of_le_of_lt (two_small 153 (two (square a) (square b)) (square c) (two_small 151 (square a) (square b) x y) (le_trans z (lit≤ tt))) (lit< tt)

-- a finite sum has no component of 2 ^ 64 or more
pub total_bounds : (a b c : ℕ) → total a b c < 2 ^ 277 → max a (max b c) < 2 ^ 213
total_bounds a b c h =
    under_all (2 ^ 213) a b c
    (lt_of_not-le (λ (g : 2 ^ 213 ≤ a). not-le_of_lt h (first_below 277 (two (square a) (square b)) (square c) (first_below 277 (square a) (square b) (square_over a g)))))
    (lt_of_not-le (λ (g : 2 ^ 213 ≤ b). not-le_of_lt h (first_below 277 (two (square a) (square b)) (square c) (second_below 277 (square a) (square b) (square_over b g)))))
    (lt_of_not-le (λ (g : 2 ^ 213 ≤ c). not-le_of_lt h (second_below 277 (two (square a) (square b)) (square c) (square_over c g))))
