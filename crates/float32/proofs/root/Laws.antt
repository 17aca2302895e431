-- What callers may cite of the root. (a) `sqrt_nearest`: it is nearest, by squares. (b) `sqrt_only`: no other f32 value is. (c) `sqrt_exact`: the root of a square is exact.
-- (d) `sqrt_normal`: the root of a finite value above zero is finite and not subnormal. (e) `sqrt_fits`: it is an f32 value. Assumes nothing.
use Prim.Native.Nat.{ℕ, zero, suc, ◌+◌, ◌-◌, ◌*◌, ◌/◌, ◌%◌, ◌^◌, ◌≤◌, ◌<◌}
use native.Mathlib.Nat.{le_trans, le_of_eq, le_of_lt, le_antisymm, le_of_suc-le-suc, lt_of_lt_of_le, lt_of_le_of_lt, lt_of_not-le, not-le_of_lt, lt_irrefl, zero-lt-suc, eq-zero-or-pos, zero-mul, zero-div, mul-one, one-mul, mul_assoc, mul_right_comm, mul-pos, mul-le-mul, mul-le-mul_right, mul-le-mul_left, mul-lt-mul_of_pos_right, lt_of_mul-lt-mul_right, add_comm}
use native.Mathlib.Omega.{arith}
use mathlib.Core.Path.{◌≡◌, refl, sym, ap, subst, ◌∙◌}
use mathlib.Core.Bool.{Bool, true, false}
use mathlib.Core.Logic.{◌⊎◌, inl, inr, ⊎_elim}
use lib.IntN.{ℤ, pos, negsuc}
use lib.Dec.{T, leb, ltb, eqb, leb→le, ltb→lt, lit<, lit≤}
use lib.Pow.{pow-add, pow_mono, pow-lt, pow_pos}
use lib.Ieee.{Float, nan, inf, fin, binary32, up, down, size, odd, fits}
use lib.Ieee.Fits.{and_l, and_r, up_pos, nan-fits, inf-fits}
use lib.Ieee.Digits.{size-lt, size-le, size_reaches}
use lib.Ieee.Exact.{HasValue, odd_sign}
use lib.Ieee.Positive.{first_pos}
use mathlib.Core.Bool.{◌&&◌}
use Rattle.float32.specs.Root.{nearest_root, root_of, sqrt_of, in_units, unsigned, NearestRoot}
use Rattle.float32.proofs.root.Squares.{nearest_near, nearest_bounds}
use Rattle.float32.proofs.root.Values.{cut, value_unique, made_fits, root_of_value, root_scaled}
use Rattle.float32.proofs.root.Gaps.{gap_below, gap_above, square_mono, twice_square}

-- ---- a value that fits is a number of at most 24 digits, moved up

pub record Shape (x : Float) : Type 0 where
  pub m : ℕ
  pub j : ℕ
  pub is : in_units x ≡ m * 2 ^ j
  pub few : m < 2 ^ 24
  pub small : in_units x < 2 ^ 277
  pub value : HasValue x false (in_units x) (2 ^ 149)

-- 2 ^ 149 holds every denominator, so nothing is cut off
whole : (e : ℤ) → down e ≤ 2 ^ 149 → (j : ℕ) × (up e * 2 ^ 149 ≡ 2 ^ j * down e)
whole (pos k) h = (k + 149, sym (pow-add 2 k 149) ∙ sym (mul-one (2 ^ (k + 149))))
whole (negsuc k) h =
    let near : suc k ≤ 149 = le_of_suc-le-suc (lt_of_not-le (λ (g : 150 ≤ suc k). not-le_of_lt (lt_of_lt_of_le (pow-lt {i = 149} {j = 150} (lit< tt)) (pow_mono g)) h)) in
    let e : 149 - suc k + suc k ≡ 149 = omega arith in
    (149 - suc k, one-mul (2 ^ 149) ∙ ap (λ (i : ℕ). 2 ^ i) (sym e) ∙ pow-add 2 (149 - suc k) (suc k))

abbrev and2 : Bool → Bool → Bool
and2 a b = a && b

pub shape : (x : Float) → T (fits binary32 x) → T (unsigned x) → Shape x
unfolding in_units fits
shape nan f u = absurd u
shape (inf s) f u = absurd u
shape (fin true m e) f u = absurd u
shape (fin false zero e) f u =
    let n : zero * up e * 2 ^ 149 ≡ 0 = ap (λ (x : ℕ). x * 2 ^ 149) (zero-mul (up e)) ∙ zero-mul (2 ^ 149) in
    let z : zero * up e * 2 ^ 149 / down e ≡ 0 = ap (λ (x : ℕ). x / down e) n ∙ zero-div (down e) in
    record {
      m = 0;
      j = 0;
      is = z;
      few = lit< tt;
      small = rw z (lit< tt);
      value = (refl, n ∙ sym (zero-mul (down e)) ∙ ap (λ (x : ℕ). x * down e) (sym z));
    }
shape (fin false (suc m) e) f u =
    let odd? = eqb (suc m % 2) 1 in
    let digits = ltb (suc m) (2 ^ 24) in
    let above = leb (down e) (2 ^ 149) in
    let under = ltb (suc m * up e) (2 ^ 128 * down e) in
    let f₁ = and_l (and2 (and2 odd? digits) above) under f in
    let few = ltb→lt (suc m) (2 ^ 24) (and_r odd? digits (and_l (and2 odd? digits) above f₁)) in
    let w = whole e (leb→le (down e) (2 ^ 149) (and_r (and2 odd? digits) above f₁)) in
    let n : suc m * up e * 2 ^ 149 ≡ suc m * 2 ^ w.0 * down e =
    mul_assoc (suc m) (up e) (2 ^ 149) ∙ ap (λ (x : ℕ). suc m * x) w.1 ∙ sym (mul_assoc (suc m) (2 ^ w.0) (down e)) in
    let z : suc m * up e * 2 ^ 149 / down e ≡ suc m * 2 ^ w.0 = cut (suc m) e (suc m * 2 ^ w.0) n in
    let top : suc m * 2 ^ w.0 * down e < 2 ^ 277 * down e =
    lt_of_le_of_lt (le_of_eq (sym n))
    (lt_of_lt_of_le (mul-lt-mul_of_pos_right (ltb→lt (suc m * up e) (2 ^ 128 * down e) (and_r (and2 (and2 odd? digits) above) under f)) (pow_pos 149)) (le_of_eq (mul_right_comm (2 ^ 128) (down e) (2 ^ 149)))) in
    record {
      m = suc m;
      j = w.0;
      is = z;
      few = few;
      small = rw z (lt_of_mul-lt-mul_right (down e) top);
      value = (refl, n ∙ ap (λ (x : ℕ). x * down e) (sym z));
    }

pub units_of_value : (x : Float) (a : ℕ) → HasValue x false a (2 ^ 149) → in_units x ≡ a
unfolding in_units
units_of_value nan a h = absurd h
units_of_value (inf s) a h = absurd h
units_of_value (fin t m e) a h = cut m e a h.1

unsigned_of_value : (x : Float) (a : ℕ) → HasValue x false a (2 ^ 149) → T (unsigned x)
unsigned_of_value nan a h = absurd h
unsigned_of_value (inf s) a h = absurd h
unsigned_of_value (fin t m e) a h = rw h.0 tt

le_times : (a k : ℕ) → a ≤ a * 2 ^ k
le_times a k = le_trans (le_of_eq (sym (mul-one a))) (mul-le-mul_left a (pow_pos k))

-- ---- the root of a value above zero: n has 47 or 48 digits, and 2 ^ k is moved out of the root

record Rooted (x : Float) : Type 0 where
  pub n : ℕ
  pub k : ℕ
  pub square : in_units x * 2 ^ 149 ≡ n * (2 ^ k * 2 ^ k)
  pub n46 : 2 ^ 46 ≤ n
  pub n48 : n < 2 ^ 48
  pub far : k ≤ 200
  pub is : sqrt_of x ≡ odd 25 false (nearest_root n) k 149

-- a number of at most 24 digits is moved up to 24
full : (m : ℕ) → 0 < m → m < 2 ^ 24 → (z : ℕ) × (z ≤ 23) × (2 ^ 23 ≤ m * 2 ^ z) × (m * 2 ^ z < 2 ^ 24)
full m p h =
    let d : ℕ = size m in
    let hi : d ≤ 24 = size-le m 24 h in
    let lo : 0 < d = lt_of_not-le (λ (g : d ≤ 0). not-le_of_lt p (le_of_suc-le-suc (lt_of_lt_of_le (size-lt m) (pow_mono g)))) in
    let reach : 2 ^ (d - 1) ≤ m = size_reaches m (d - 1) (omega arith) in
    let a : d - 1 + (24 - d) ≡ 23 = omega arith in
    let b : d + (24 - d) ≡ 24 = omega arith in (
      24 - d,
      omega arith,
      le_trans (le_of_eq (ap (λ (i : ℕ). 2 ^ i) (sym a) ∙ pow-add 2 (d - 1) (24 - d))) (mul-le-mul_right (2 ^ (24 - d)) reach),
      lt_of_lt_of_le (mul-lt-mul_of_pos_right (size-lt m) (pow_pos (24 - d))) (le_of_eq (sym (pow-add 2 d (24 - d)) ∙ ap (λ (i : ℕ). 2 ^ i) b)),
    )

rooted : (x : Float) → T (fits binary32 x) → T (unsigned x) → 0 < in_units x → Rooted x
rooted x f u p =
    let s₀ = shape x f u in
    let m : ℕ = s₀.m in
    let j : ℕ = s₀.j in
    let fl = full m (first_pos m (2 ^ j) (subst (λ (i : ℕ). 0 < i) s₀.is p)) s₀.few in
    let z : ℕ = fl.0 in
    let z23 = fl.1 in
    let q : ℕ = m * 2 ^ z in
    let s : ℕ = j + 149 - z in
    let k : ℕ = (s - 23) / 2 in
    let w : ℕ = s - (k + k) in
    let even : s ≡ w + (k + k) = omega arith in
    let w23 : 23 ≤ w = omega arith in
    let w24 : w ≤ 24 = omega arith in
    let back : z + s ≡ j + 149 = omega arith in
    let n : ℕ = q * 2 ^ w in
    let moved : in_units x * 2 ^ 149 ≡ q * 2 ^ s =
    ap (λ (i : ℕ). i * 2 ^ 149) s₀.is
    ∙ mul_assoc m (2 ^ j) (2 ^ 149)
    ∙ ap (λ (i : ℕ). m * i) (sym (pow-add 2 j 149) ∙ ap (λ (i : ℕ). 2 ^ i) (sym back) ∙ pow-add 2 z s)
    ∙ sym (mul_assoc m (2 ^ z) (2 ^ s)) in
    let square : in_units x * 2 ^ 149 ≡ n * (2 ^ k * 2 ^ k) =
    moved
    ∙ ap (λ (i : ℕ). q * 2 ^ i) even
    ∙ ap (λ (i : ℕ). q * i) (pow-add 2 w (k + k) ∙ ap (λ (i : ℕ). 2 ^ w * i) (pow-add 2 k k))
    ∙ sym (mul_assoc q (2 ^ w) (2 ^ k * 2 ^ k)) in
    let n46 : 2 ^ 46 ≤ n = mul-le-mul fl.2 (pow_mono w23) in
    let far : k ≤ 200 =
    le_of_suc-le-suc
    (lt_of_not-le
    (λ (g : 201 ≤ k).
    not-le_of_lt (mul-lt-mul_of_pos_right s₀.small (pow_pos 149))
    (le_trans (lit≤ {m = 2 ^ 277 * 2 ^ 149} {n = 2 ^ 46 * (2 ^ 201 * 2 ^ 201)} tt)
    (le_trans (mul-le-mul n46 (mul-le-mul (pow_mono g) (pow_mono g))) (le_of_eq (sym square)))))) in
    let n48 : n < 2 ^ 48 = lt_of_lt_of_le (mul-lt-mul_of_pos_right fl.3 (pow_pos w)) (mul-le-mul_left (2 ^ 24) (pow_mono w24)) in
    record {
      n = n;
      k = k;
      square = square;
      n46 = n46;
      n48 = n48;
      far = far;
      is =
          root_of_value x (in_units x) s₀.value p
          ∙ ap root_of square
          ∙ root_scaled n k n46 n48;
    }

-- ---- the laws, for an operand above zero

module _ (x : Float) (f : T (fits binary32 x)) (u : T (unsigned x)) (p : 0 < in_units x) where
  at : Rooted x
  at = rooted x f u p

  bounds : (2 ^ 23 ≤ nearest_root at.n) × (nearest_root at.n ≤ 2 ^ 24)
  bounds = nearest_bounds at.n at.n46 at.n48

  root_value : HasValue (sqrt_of x) false (nearest_root at.n * 2 ^ at.k) (2 ^ 149)
  root_value = rw at.is (odd_sign 25 false (nearest_root at.n) at.k 149)

  root_units : in_units (sqrt_of x) ≡ nearest_root at.n * 2 ^ at.k
  root_units = units_of_value (sqrt_of x) (nearest_root at.n * 2 ^ at.k) root_value

  above_zero_fits : T (fits binary32 (sqrt_of x))
  above_zero_fits = rw at.is (made_fits (nearest_root at.n) at.k bounds.0 bounds.1 at.far)

  -- (d)
  pub sqrt_normal : T (unsigned (sqrt_of x)) × (2 ^ 23 ≤ in_units (sqrt_of x))
  sqrt_normal = (unsigned_of_value (sqrt_of x) _ root_value, rw root_units (le_trans bounds.0 (le_times (nearest_root at.n) at.k)))

  above_zero_nearest : NearestRoot x (sqrt_of x)
  above_zero_nearest =
      record {
        below = λ z g v l.
            let t = shape z g v in
            rw (at.square, root_units, t.is)
            (gap_below at.n (nearest_root at.n) at.k t.m t.j (nearest_near at.n at.n48) bounds.0 at.n46 t.few (rw (root_units, t.is) at l));
        above = λ z g v l.
            let t = shape z g v in
            rw (at.square, root_units, t.is)
            (gap_above at.n (nearest_root at.n) at.k t.m t.j (nearest_near at.n at.n48) bounds.0 at.n46 t.few (rw (root_units, t.is) at l));
      }

-- ---- a value whose square is the operand is nearest

square_nearest : (x y : Float) → in_units x * 2 ^ 149 ≡ in_units y * in_units y → NearestRoot x y
square_nearest x y e =
    record {
      below = λ z f u l.
          let h : in_units z + in_units y < in_units y + in_units y = omega arith in
          lt_of_lt_of_le (square_mono h) (le_of_eq (twice_square (in_units y) ∙ ap (λ (n : ℕ). 4 * n) (sym e)));
      above = λ z f u l.
          let h : in_units y + in_units y < in_units z + in_units y = omega arith in
          lt_of_le_of_lt (le_of_eq (ap (λ (n : ℕ). 4 * n) e ∙ sym (twice_square (in_units y)))) (square_mono h);
    }

-- ---- a zero is its own root

zero_or_above : (x : Float) → T (fits binary32 x) → T (unsigned x) → ((sqrt_of x ≡ x) × (in_units x ≡ 0)) ⊎ (0 < in_units x)
unfolding shape
zero_or_above nan f u = absurd u
zero_or_above (inf s) f u = absurd u
zero_or_above (fin true m e) f u = absurd u
zero_or_above (fin false zero e) f u = inl (unfold sqrt_of in refl, (shape (fin false zero e) f u).is)
zero_or_above (fin false (suc m) e) f u = inr (pos_of_eq (eq-zero-or-pos (in_units (fin false (suc m) e))))
  where
    count : suc m * up e * 2 ^ 149 ≡ in_units (fin false (suc m) e) * down e
    count = (shape (fin false (suc m) e) f u).value.1

    pos_of_eq : (in_units (fin false (suc m) e) ≡ 0) ⊎ (0 < in_units (fin false (suc m) e)) → 0 < in_units (fin false (suc m) e)
    pos_of_eq (inl z) =
        absurd (lt_irrefl 0 (subst (λ (n : ℕ). 0 < n) (count ∙ ap (λ (n : ℕ). n * down e) z ∙ zero-mul (down e)) (mul-pos (mul-pos (zero-lt-suc m) (up_pos e)) (pow_pos 149))))
    pos_of_eq (inr h) = h

-- ---- the laws, for every operand

-- (e)
pub sqrt_fits : (x : Float) → T (fits binary32 x) → T (fits binary32 (sqrt_of x))
unfolding sqrt_of
sqrt_fits nan f = nan-fits binary32
sqrt_fits (inf true) f = nan-fits binary32
sqrt_fits (inf false) f = inf-fits binary32 false
sqrt_fits (fin s zero e) f = f
sqrt_fits (fin true (suc m) e) f = nan-fits binary32
sqrt_fits (fin false (suc m) e) f =
    ⊎_elim
    (λ (z : (sqrt_of (fin false (suc m) e) ≡ fin false (suc m) e) × (in_units (fin false (suc m) e) ≡ 0)). subst (λ (y : Float). T (fits binary32 y)) (sym z.0) f)
    (λ (p : 0 < in_units (fin false (suc m) e)). above_zero_fits (fin false (suc m) e) f tt p)
    (zero_or_above (fin false (suc m) e) f tt)

pub sqrt_unsigned : (x : Float) → T (fits binary32 x) → T (unsigned x) → T (unsigned (sqrt_of x))
sqrt_unsigned x f u =
    ⊎_elim
    (λ (z : (sqrt_of x ≡ x) × (in_units x ≡ 0)). subst (λ (y : Float). T (unsigned y)) (sym z.0) u)
    (λ (p : 0 < in_units x). (sqrt_normal x f u p).0)
    (zero_or_above x f u)

-- (a)
pub sqrt_nearest : (x : Float) → T (fits binary32 x) → T (unsigned x) → NearestRoot x (sqrt_of x)
sqrt_nearest x f u =
    ⊎_elim
    (λ (z : (sqrt_of x ≡ x) × (in_units x ≡ 0)). subst (λ (y : Float). NearestRoot x y) (sym z.0) (square_nearest x x (at_zero z.1)))
    (λ (p : 0 < in_units x). above_zero_nearest x f u p)
    (zero_or_above x f u)
  where
    at_zero : in_units x ≡ 0 → in_units x * 2 ^ 149 ≡ in_units x * in_units x
    at_zero z = rw z

-- two values that are both nearest are one
nearest_once : (x y z : Float) → T (fits binary32 y) → T (unsigned y) → T (fits binary32 z) → T (unsigned z) → NearestRoot x y → NearestRoot x z → in_units y ≤ in_units z
nearest_once x y z f u g v m n =
    le_of_suc-le-suc
    (lt_of_not-le
    (λ (h : suc (in_units z) ≤ in_units y).
    let a = m.below z g v h in
    let b = n.above y f u h in
    not-le_of_lt a (le_trans (le_of_lt b) (le_of_eq (ap (λ (i : ℕ). i * i) (add_comm (in_units y) (in_units z)))))))

-- (b)
pub sqrt_only : (x y : Float) → T (fits binary32 x) → T (unsigned x) → T (fits binary32 y) → T (unsigned y) → NearestRoot x y → y ≡ sqrt_of x
sqrt_only x y f u g v m =
    let r = sqrt_nearest x f u in
    let rf = sqrt_fits x f in
    let ru = sqrt_unsigned x f u in
    let e : in_units y ≡ in_units (sqrt_of x) = le_antisymm (nearest_once x y (sqrt_of x) g v rf ru m r) (nearest_once x (sqrt_of x) y rf ru g v r m) in
    value_unique y (sqrt_of x) (in_units (sqrt_of x)) g rf (subst (λ (a : ℕ). HasValue y false a (2 ^ 149)) e (shape y g v).value) (shape (sqrt_of x) rf ru).value

-- (c)
pub sqrt_exact : (x y : Float) → T (fits binary32 x) → T (unsigned x) → T (fits binary32 y) → T (unsigned y) → in_units x * 2 ^ 149 ≡ in_units y * in_units y → y ≡ sqrt_of x
sqrt_exact x y f u g v e = sqrt_only x y f u g v (square_nearest x y e)
