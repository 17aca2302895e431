-- Document 02, T-12, of whole numbers of magnitude at most 1,024: a row times a column is the exact whole number. Its products reach 2 ^ 20 and its sums 2 ^ 22, and every whole number up to 2 ^ 24
-- is an f32, so that nothing is rounded. Assumes nothing.
use Prim.Native.Nat.{ℕ, ◌+◌, ◌*◌, ◌^◌, ◌≤◌, ◌<◌}
use native.Mathlib.Nat.{le_refl, le_trans, mul-le-mul}
use native.Mathlib.Omega.{arith}
use mathlib.Core.Path.{◌≡◌, refl, sym, ap, ap₂, subst, ◌∙◌}
use mathlib.Core.Bool.{Bool, true, false}
use lib.Dec.{T, lit≤}
use lib.Pow.{pow_pos}
use lib.IntN.{ℤ, pos, nat_abs, ◌+ℤ◌, ◌*ℤ◌}
use lib.Ieee.{Float, binary32, unlike, fits}
use lib.Ieee.Exact.{HasValue}
use lib.Ieee.Back.{round_whole}
use Rattle.d3d9_types.specs.Matrix.{matrixFits}
use Rattle.d3d9_types.specs.declared.matrix.D3DMATRIX.{D3DMATRIX}
use Rattle.float32.specs.Root.{in_units}
use Rattle.float32.proofs.Grid.{unit}
use Rattle.float32.proofs.Units.{Counted, counted}
use Rattle.float32.proofs.Arithmetic.{mul_is}
use Rattle.matrix.specs.Entry.{row, entry}
use Rattle.matrix.specs.Sum.{plus, times, neg_zero, sum_from}
use Rattle.matrix.specs.Product.{dot}
use Rattle.matrix.proofs.Fits.{column_fits, row_fits}
use Rattle.matrix_laws.specs.Exact.{with_sign, IsWhole, largest_whole, WholeEntries, whole_sum}
use Rattle.matrix_laws.proofs.Signed.{gain, loss, even, Sums, add_is}
use Rattle.matrix_laws.proofs.Integers.{Is, is_sign, is_add, is_unique, is_shift, sign_mul, sign_scale, multiple}
use Rattle.matrix_laws.proofs.Values.{has_finite, has_units, to_units, from_units}

-- ---- a float that is the whole number P − N, of magnitude at most m

record Exactly (x : Float) (P N m : ℕ) : Type 0 where
  sign : Bool
  count : ℕ
  value : HasValue x sign count 1
  balance : gain sign count + N ≡ loss sign count + P
  size : count ≤ m

zero_exactly : Exactly neg_zero 0 0 0
zero_exactly = record { sign = true; count = 0; value = (refl, refl); balance = refl; size = le_refl 0 }

times_exactly : (x y : Float) (s t : Bool) (A B m : ℕ) → HasValue x s A 1 → HasValue y t B 1 → A * B ≤ m → m ≤ 2 ^ 24 → Exactly (times x y) (gain (unlike s t) (A * B)) (loss (unlike s t) (A * B)) m
times_exactly x y s t A B m h k u l =
    record {
      sign = unlike s t;
      count = A * B;
      value = subst (λ (z : Float). HasValue z (unlike s t) (A * B) 1) (sym (mul_is x y s t A B 1 1 (pow_pos 0) (pow_pos 0) h k)) (round_whole binary32 (unlike s t) (A * B) (le_trans u l));
      balance = even (unlike s t) (A * B);
      size = u;
    }

-- the balance of a sum, and those of its terms
balanced : (r : Bool) (z p n q m P N Q M : ℕ) → gain r z + (n + m) ≡ loss r z + (p + q) → p + N ≡ n + P → q + M ≡ m + Q → gain r z + (N + M) ≡ loss r z + (P + Q)
balanced true z p n q m P N Q M e f g = omega arith
balanced false z p n q m P N Q M e f g = omega arith

both : (z a b m m' : ℕ) → z ≤ a + b → a ≤ m → b ≤ m' → z ≤ m + m'
both z a b m m' e f g = omega arith

plus_exactly : {x y : Float} {P N m P' N' m' : ℕ} → Exactly x P N m → Exactly y P' N' m' → m + m' ≤ 2 ^ 24 → Exactly (plus x y) (P + P') (N + N') (m + m')
plus_exactly {x} {y} {P} {N} {m} {P'} {N'} {m'} h k l =
    let A : ℕ = h.count in
    let B : ℕ = k.count in
    let S : Sums (plus x y) 1 h.sign A k.sign B = add_is x y h.sign k.sign A B 1 (pow_pos 0) h.value k.value in
    let u : S.count ≤ m + m' = both S.count A B m m' S.small h.size k.size in
    record {
      sign = S.sign;
      count = S.count;
      value = subst (λ (z : Float). HasValue z S.sign S.count 1) (sym S.is) (round_whole binary32 S.sign S.count (le_trans u l));
      balance = balanced S.sign S.count (gain h.sign A) (loss h.sign A) (gain k.sign B) (loss k.sign B) P N P' N' S.balance h.balance k.balance;
      size = u;
    }

-- ---- the same of integers

record Number (x : Float) (n : ℤ) : Type 0 where
  sign : Bool
  value : HasValue x sign (nat_abs n) 1
  is : n ≡ with_sign sign (nat_abs n)

number : (x : Float) (n : ℤ) → T (fits binary32 x) → IsWhole x n → Number x n
number x n t h =
    let c : Counted x = counted x t h.is_finite in
    let d = multiple c.sign (in_units x) n unit (pow_pos 149) (sym (has_units x c.sign (in_units x) c.value) ∙ h.is) in
    record { sign = c.sign; value = from_units x c.sign (nat_abs n) unit (pow_pos 149) (subst (λ (g : ℕ). HasValue x c.sign g unit) d.0 c.value); is = d.1 }

exactly_whole : (x : Float) (n : ℤ) (P N m : ℕ) → Exactly x P N m → Is n P N → IsWhole x n
exactly_whole x n P N m h i =
    let s : Bool = h.sign in
    let z : ℕ = h.count in
    let v : HasValue x s (z * unit) unit = to_units x s z unit h.value in
    let e : with_sign s z ≡ n = is_unique (with_sign s z) n P N (is_shift (with_sign s z) (gain s z) (loss s z) P N (is_sign s z) h.balance) i in
    record { is_finite = has_finite x s (z * unit) unit v; is = has_units x s (z * unit) v ∙ sym (sign_scale s z unit) ∙ ap (λ (y : ℤ). y *ℤ pos unit) e }

-- ---- row i of a times column j of b

module _ (a b : D3DMATRIX) (A : matrixFits a) (B : matrixFits b) (n k : ℕ → ℕ → ℤ) (h : WholeEntries a n) (g : WholeEntries b k) (i j : ℕ) (I : i < 4) (J : j < 4) where
  left : (l : ℕ) → l < 4 → Number (entry a i l) (n i l)
  left l L = number (entry a i l) (n i l) (column_fits (row_fits A i) l) (h.whole i l I L)

  right : (l : ℕ) → l < 4 → Number (entry b l j) (k l j)
  right l L = number (entry b l j) (k l j) (column_fits (row_fits B l) j) (g.whole l j L J)

  abbrev sign : (l : ℕ) → l < 4 → Bool
  sign l L = unlike (left l L).sign (right l L).sign

  abbrev size : ℕ → ℕ
  size l = nat_abs (n i l) * nat_abs (k l j)

  abbrev most : ℕ
  most = largest_whole * largest_whole

  -- the sum of four products
  room : most + most + most + most ≤ 2 ^ 24
  room = lit≤ tt

  abbrev P : (l : ℕ) → l < 4 → ℕ
  P l L = gain (sign l L) (size l)

  abbrev N : (l : ℕ) → l < 4 → ℕ
  N l L = loss (sign l L) (size l)

  product : (l : ℕ) (L : l < 4) → Exactly (times (entry a i l) (entry b l j)) (P l L) (N l L) most
  product l L =
      times_exactly (entry a i l) (entry b l j) (left l L).sign (right l L).sign (nat_abs (n i l)) (nat_abs (k l j)) most (left l L).value (right l L).value
      (mul-le-mul (h.small i l I L) (g.small l j L J)) (omega (arith, room))

  product_is : (l : ℕ) (L : l < 4) → Is (n i l *ℤ k l j) (P l L) (N l L)
  product_is l L =
      subst (λ (z : ℤ). Is z (P l L) (N l L))
      (sym (ap₂ (λ (y z : ℤ). y *ℤ z) (left l L).is (right l L).is ∙ sign_mul (left l L).sign (right l L).sign (nat_abs (n i l)) (nat_abs (k l j))))
      (is_sign (sign l L) (size l))

  pub dot_whole : IsWhole (dot (row a i) b j) (whole_sum n k i j)
  unfolding dot sum_from whole_sum
  dot_whole =
      let L₀ : 0 < 4 = omega arith in
      let L₁ : 1 < 4 = omega arith in
      let L₂ : 2 < 4 = omega arith in
      let L₃ : 3 < 4 = omega arith in
      let t : ℕ → ℤ = λ l. n i l *ℤ k l j in
      let e₀ = plus_exactly zero_exactly (product 0 L₀) (omega (arith, room)) in
      let e₁ = plus_exactly e₀ (product 1 L₁) (omega (arith, room)) in
      let e₂ = plus_exactly e₁ (product 2 L₂) (omega (arith, room)) in
      let e₃ = plus_exactly e₂ (product 3 L₃) (omega (arith, room)) in
      exactly_whole (dot (row a i) b j) (t 0 +ℤ t 1 +ℤ t 2 +ℤ t 3) (0 + P 0 L₀ + P 1 L₁ + P 2 L₂ + P 3 L₃) (0 + N 0 L₀ + N 1 L₁ + N 2 L₂ + N 3 L₃) (0 + most + most + most + most) e₃
      (is_add (t 0 +ℤ t 1 +ℤ t 2) (t 3) (0 + P 0 L₀ + P 1 L₁ + P 2 L₂) (0 + N 0 L₀ + N 1 L₁ + N 2 L₂) (P 3 L₃) (N 3 L₃)
      (is_add (t 0 +ℤ t 1) (t 2) (0 + P 0 L₀ + P 1 L₁) (0 + N 0 L₀ + N 1 L₁) (P 2 L₂) (N 2 L₂)
      (is_add (t 0) (t 1) (0 + P 0 L₀) (0 + N 0 L₀) (P 1 L₁) (N 1 L₁) (is_shift (t 0) (P 0 L₀) (N 0 L₀) (0 + P 0 L₀) (0 + N 0 L₀) (product_is 0 L₀) (omega arith)) (product_is 1 L₁)) (product_is 2 L₂))
      (product_is 3 L₃))
