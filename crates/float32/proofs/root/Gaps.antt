-- What lies between two neighbours of 24 digits: a count m * 2 ^ j with an m below 2 ^ 24 that reaches 2 ^ 23 * 2 ^ k is a multiple of 2 ^ k. So the nearest root of a number is nearer to the
-- root than any other such count, by the squares of the midpoints. Whole numbers alone. Assumes nothing.
use Prim.Native.Nat.{ℕ, suc, ◌+◌, ◌-◌, ◌*◌, ◌^◌, ◌≤◌, ◌<◌}
use native.Mathlib.Nat.{le_trans, le_of_eq, le_of_lt, lt_of_lt_of_le, lt_of_le_of_lt, le_of_suc-le-suc, lt_of_not-le, not-le_of_lt, mul_assoc, mul_comm, mul_left_comm, mul-le-mul, mul-le-mul_right, mul-le-mul_left, mul-lt-mul_of_pos_right, mul-pos, lt_of_mul-lt-mul_right, add-mul, one-mul, suc-mul}
use native.Mathlib.Omega.{arith}
use mathlib.Core.Path.{◌≡◌, sym, ap, ◌∙◌}
use mathlib.Core.Logic.{⊎_elim}
use lib.Pow.{pow-add, pow_mono, pow_pos}
use Rattle.float32.proofs.root.Squares.{Near, square_lt}

multiple : (m j k : ℕ) → m < 2 ^ 24 → 2 ^ 23 * 2 ^ k ≤ m * 2 ^ j → (p : ℕ) × (m * 2 ^ j ≡ p * 2 ^ k)
multiple m j k h l = (m * 2 ^ (j - k), sym (mul_assoc m (2 ^ (j - k)) (2 ^ k) ∙ ap (λ (x : ℕ). m * x) (sym (pow-add 2 (j - k) k) ∙ ap (λ (i : ℕ). 2 ^ i) same)))
  where
    far : j < k → ⊥
    far g =
        let a : m * 2 ^ j < 2 ^ 24 * 2 ^ j = mul-lt-mul_of_pos_right h (pow_pos j) in
        let e : 2 ^ 24 * 2 ^ j ≡ 2 ^ 23 * 2 ^ (1 + j) = sym (pow-add 2 24 j) ∙ ap (λ (i : ℕ). 2 ^ i) (let z : 24 + j ≡ 23 + (1 + j) = omega arith in z) ∙ pow-add 2 23 (1 + j) in
        not-le_of_lt a (le_trans (le_of_eq e) (le_trans (mul-le-mul_left (2 ^ 23) (pow_mono {i = 1 + j} {j = k} (omega arith))) l))

    near : k ≤ j
    near = le_of_suc-le-suc (lt_of_not-le (λ (g : suc j ≤ k). far g))

    same : j - k + k ≡ j
    same = omega (arith, near)

pub square_mono : {a b : ℕ} → a < b → a * a < b * b
square_mono {a} {b} h = lt_of_le_of_lt (mul-le-mul_left a (le_of_lt h)) (mul-lt-mul_of_pos_right h (lt_of_le_of_lt (omega arith) h))

square_of_product : (a p : ℕ) → a * p * (a * p) ≡ a * a * (p * p)
square_of_product a p = simp (mul_assoc, mul_comm, mul_left_comm)

four : (n p : ℕ) → 4 * (n * p) ≡ 4 * n * p
four n p = sym (mul_assoc 4 n p)

pub twice_square : (y : ℕ) → (y + y) * (y + y) ≡ 4 * (y * y)
twice_square y =
    let d : y + y ≡ 2 * y = omega arith in
    rw d (simp (mul_assoc, mul_comm, mul_left_comm) (omega arith))

odd_times : (r p : ℕ) → (2 * r + 1) * p ≡ r * p + (r * p + p)
odd_times r p =
    let a : (2 * r + 1) * p ≡ 2 * (r * p) + p = add-mul (2 * r) 1 p ∙ ap (λ (x : ℕ). x + 1 * p) (mul_assoc 2 r p) ∙ ap (λ (x : ℕ). 2 * (r * p) + x) (one-mul p) in
    omega arith

-- n * (p * p) is the operand and q * p the root, with p a power of two; m * 2 ^ j is another count
module _ (n q k m j : ℕ) (near : Near n q) (low : 2 ^ 23 ≤ q) (n46 : 2 ^ 46 ≤ n) (few : m < 2 ^ 24) where
  -- a half square below n is the midpoint's square below the operand, and the same above
  scaled_below : (a z : ℕ) → a * a < 4 * n → z ≤ a * 2 ^ k → z * z < 4 * (n * (2 ^ k * 2 ^ k))
  scaled_below a z h l =
      lt_of_le_of_lt (mul-le-mul l l)
      (lt_of_le_of_lt (le_of_eq (square_of_product a (2 ^ k)))
      (lt_of_lt_of_le (mul-lt-mul_of_pos_right h (mul-pos (pow_pos k) (pow_pos k))) (le_of_eq (sym (four n (2 ^ k * 2 ^ k))))))

  scaled_above : (a z : ℕ) → 4 * n < a * a → a * 2 ^ k ≤ z → 4 * (n * (2 ^ k * 2 ^ k)) < z * z
  scaled_above a z h l =
      lt_of_le_of_lt (le_of_eq (four n (2 ^ k * 2 ^ k)))
      (lt_of_lt_of_le (mul-lt-mul_of_pos_right h (mul-pos (pow_pos k) (pow_pos k)))
      (le_trans (le_of_eq (sym (square_of_product a (2 ^ k)))) (mul-le-mul l l)))

  own_below : q * q ≤ n → 4 * (q * 2 ^ k * (q * 2 ^ k)) ≤ 4 * (n * (2 ^ k * 2 ^ k))
  own_below h = mul-le-mul_left 4 (le_trans (le_of_eq (square_of_product q (2 ^ k))) (mul-le-mul_right (2 ^ k * 2 ^ k) h))

  own_above : n < q * q → 4 * (n * (2 ^ k * 2 ^ k)) ≤ 4 * (q * 2 ^ k * (q * 2 ^ k))
  own_above h = mul-le-mul_left 4 (le_trans (mul-le-mul_right (2 ^ k * 2 ^ k) (le_of_lt h)) (le_of_eq (sym (square_of_product q (2 ^ k)))))

  pub gap_below : m * 2 ^ j < q * 2 ^ k → (m * 2 ^ j + q * 2 ^ k) * (m * 2 ^ j + q * 2 ^ k) < 4 * (n * (2 ^ k * 2 ^ k))
  gap_below h = ⊎_elim down up near
    where
      down : (q * q ≤ n) × (4 * n < (2 * q + 1) * (2 * q + 1)) → (m * 2 ^ j + q * 2 ^ k) * (m * 2 ^ j + q * 2 ^ k) < 4 * (n * (2 ^ k * 2 ^ k))
      down x =
          let l : m * 2 ^ j + q * 2 ^ k < q * 2 ^ k + q * 2 ^ k = omega arith in
          lt_of_lt_of_le (square_mono l) (le_trans (le_of_eq (twice_square (q * 2 ^ k))) (own_below x.0))

      up : (r : ℕ) × (q ≡ suc r) × (n < q * q) × ((2 * r + 1) * (2 * r + 1) < 4 * n) → (m * 2 ^ j + q * 2 ^ k) * (m * 2 ^ j + q * 2 ^ k) < 4 * (n * (2 ^ k * 2 ^ k))
      up x =
          let r : ℕ = x.0 in
          let e = x.1 in
          let big : 2 ^ 23 < q = square_lt {a = 2 ^ 23} {b = q} (omega (arith, x.2)) in
          let below : m * 2 ^ j ≤ r * 2 ^ k = under r e (omega arith) in
          let own : q * 2 ^ k ≡ r * 2 ^ k + 2 ^ k = ap (λ (i : ℕ). i * 2 ^ k) e ∙ suc-mul r (2 ^ k) in
          scaled_below (2 * r + 1) (m * 2 ^ j + q * 2 ^ k) x.3 (omega (arith, odd_times r (2 ^ k)))
        where
          under : (r : ℕ) → q ≡ suc r → 2 ^ 23 ≤ r → m * 2 ^ j ≤ r * 2 ^ k
          under r e b =
              le_of_suc-le-suc
              (lt_of_not-le
              (λ (g : suc (r * 2 ^ k) ≤ m * 2 ^ j).
              let t = multiple m j k few (le_trans (mul-le-mul_right (2 ^ k) b) (le_of_lt g)) in
              let l : t.0 < q = lt_of_mul-lt-mul_right (2 ^ k) (lt_of_le_of_lt (le_of_eq (sym t.1)) h) in
              let c : t.0 ≤ r = omega arith in
              not-le_of_lt g (le_trans (le_of_eq t.1) (mul-le-mul_right (2 ^ k) c))))

  pub gap_above : q * 2 ^ k < m * 2 ^ j → 4 * (n * (2 ^ k * 2 ^ k)) < (m * 2 ^ j + q * 2 ^ k) * (m * 2 ^ j + q * 2 ^ k)
  gap_above h = ⊎_elim down up near
    where
      down : (q * q ≤ n) × (4 * n < (2 * q + 1) * (2 * q + 1)) → 4 * (n * (2 ^ k * 2 ^ k)) < (m * 2 ^ j + q * 2 ^ k) * (m * 2 ^ j + q * 2 ^ k)
      down x =
          let t = multiple m j k few (le_trans (mul-le-mul_right (2 ^ k) low) (le_of_lt h)) in
          let l : q < t.0 = lt_of_mul-lt-mul_right (2 ^ k) (lt_of_lt_of_le h (le_of_eq t.1)) in
          let c : suc q * 2 ^ k ≤ m * 2 ^ j = le_trans (mul-le-mul_right (2 ^ k) l) (le_of_eq (sym t.1)) in
          scaled_above (2 * q + 1) (m * 2 ^ j + q * 2 ^ k) x.1 (omega (arith, odd_times q (2 ^ k), suc-mul q (2 ^ k)))

      up : (r : ℕ) × (q ≡ suc r) × (n < q * q) × ((2 * r + 1) * (2 * r + 1) < 4 * n) → 4 * (n * (2 ^ k * 2 ^ k)) < (m * 2 ^ j + q * 2 ^ k) * (m * 2 ^ j + q * 2 ^ k)
      up x =
          let l : q * 2 ^ k + q * 2 ^ k < m * 2 ^ j + q * 2 ^ k = omega arith in
          lt_of_le_of_lt (own_above x.2) (lt_of_le_of_lt (le_of_eq (sym (twice_square (q * 2 ^ k)))) (square_mono l))
