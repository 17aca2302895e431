-- Integers as differences p − n of two numbers: sums, products, magnitudes, so that what is proved of numbers holds of them. Assumes nothing.
use Prim.Native.Nat.{ℕ, zero, suc, ◌+◌, ◌-◌, ◌*◌, ◌^◌, ◌≤◌, ◌<◌}
use native.Mathlib.Nat.{zero-mul, mul-zero, le-mul_of_pos_right}
use native.Mathlib.Omega.{arith}
use mathlib.Core.Path.{◌≡◌, refl, sym, ap, ◌∙◌}
use mathlib.Core.Bool.{Bool, true, false}
use lib.IntN.{ℤ, pos, negsuc, neg_ℤ, nat_abs, sub_ℕ, pos-ne-negsuc, ◌+ℤ◌, ◌-ℤ◌, ◌*ℤ◌}
use lib.Dec.{ltb}
use lib.Ieee.{unlike}
use borrow.Author.Tests.{ltb-true, ltb-false}
use Rattle.lemmas.proofs.Branch.{branch}
use Rattle.float32.proofs.Arithmetic.{unlike_false}
use Rattle.matrix_laws.specs.Exact.{with_sign}
use Rattle.matrix_laws.proofs.Signed.{gain, loss}

-- z is p − n
abbrev pub Is : ℤ → ℕ → ℕ → Type 0
Is (pos a) p n = p ≡ a + n
Is (negsuc a) p n = n ≡ p + suc a

pub is_sign : (s : Bool) (a : ℕ) → Is (with_sign s a) (gain s a) (loss s a)
is_sign true zero = refl
is_sign true (suc a) = omega arith
is_sign false a = omega arith

difference : (a b p n : ℕ) → p + b ≡ a + n → Is (sub_ℕ a b) p n
difference a b p n e =
    branch (λ (z : ℤ). Is z p n) (ltb a b) (negsuc (b - suc a)) (pos (a - b))
    (λ (t : ltb a b ≡ true). let h : a < b = ltb-true a b t in let k : n ≡ p + suc (b - suc a) = omega arith in k)
    (λ (t : ltb a b ≡ false). let h : b ≤ a = ltb-false a b t in let k : p ≡ a - b + n = omega arith in k)

pub is_add : (y z : ℤ) (p n q m : ℕ) → Is y p n → Is z q m → Is (y +ℤ z) (p + q) (n + m)
is_add (pos a) (pos b) p n q m h k = omega arith
is_add (pos a) (negsuc b) p n q m h k = difference a (suc b) (p + q) (n + m) (omega arith)
is_add (negsuc a) (pos b) p n q m h k = difference b (suc a) (p + q) (n + m) (omega arith)
is_add (negsuc a) (negsuc b) p n q m h k = omega arith

pub is_neg : (z : ℤ) (p n : ℕ) → Is z p n → Is (neg_ℤ z) n p
is_neg (pos zero) p n h = omega arith
is_neg (pos (suc a)) p n h = omega arith
is_neg (negsuc a) p n h = omega arith

pub is_minus : (y z : ℤ) (p n q m : ℕ) → Is y p n → Is z q m → Is (y -ℤ z) (p + m) (n + q)
is_minus y z p n q m h k = is_add y (neg_ℤ z) p n m q h (is_neg z q m k)

-- a magnitude, from a bound either way
pub abs_le : (z : ℤ) (p n e : ℕ) → Is z p n → 2 ^ 24 * p ≤ 2 ^ 24 * n + e → 2 ^ 24 * n ≤ 2 ^ 24 * p + e → nat_abs z * 2 ^ 24 ≤ e
abs_le (pos a) p n e h i j = omega arith
abs_le (negsuc a) p n e h i j = omega arith

pub abs_sign : (s : Bool) (a : ℕ) → nat_abs (with_sign s a) ≡ a
abs_sign true zero = refl
abs_sign true (suc a) = refl
abs_sign false a = refl

pub sign_mul : (s t : Bool) (a b : ℕ) → with_sign s a *ℤ with_sign t b ≡ with_sign (unlike s t) (a * b)
sign_mul false false a b = refl
sign_mul false true a zero = ap pos (mul-zero a) ∙ sym (ap (λ (x : ℕ). neg_ℤ (pos x)) (mul-zero a))
sign_mul false true a (suc b) = refl
sign_mul true false zero b = ap pos (zero-mul b) ∙ sym (ap (λ (x : ℕ). neg_ℤ (pos x)) (zero-mul b))
sign_mul true false (suc a) b = refl
sign_mul true true zero zero = refl
sign_mul true true zero (suc b) = ap (λ (x : ℕ). neg_ℤ (pos x)) (zero-mul (suc b)) ∙ sym (ap pos (zero-mul (suc b)))
sign_mul true true (suc a) zero = ap (λ (x : ℕ). neg_ℤ (pos x)) (mul-zero (suc a)) ∙ sym (ap pos (mul-zero (suc a)))
sign_mul true true (suc a) (suc b) = refl

pub sign_scale : (s : Bool) (a l : ℕ) → with_sign s a *ℤ pos l ≡ with_sign s (a * l)
sign_scale s a l = sign_mul s false a l ∙ ap (λ (z : Bool). with_sign z (a * l)) (unlike_false s)

-- the difference decides the integer
pub is_unique : (y z : ℤ) (p n : ℕ) → Is y p n → Is z p n → y ≡ z
is_unique (pos a) (pos b) p n h k = ap pos (let e : a ≡ b = omega arith in e)
is_unique (pos a) (negsuc b) p n h k = absurd (let e : ⊥ = omega arith in e)
is_unique (negsuc a) (pos b) p n h k = absurd (let e : ⊥ = omega arith in e)
is_unique (negsuc a) (negsuc b) p n h k = ap negsuc (let e : a ≡ b = omega arith in e)

-- p − n in another way
pub is_shift : (z : ℤ) (p n q m : ℕ) → Is z p n → p + m ≡ n + q → Is z q m
is_shift (pos a) p n q m h e = omega arith
is_shift (negsuc a) p n q m h e = omega arith

-- a multiple of l has its factor's sign
no_magnitude : (g b : ℕ) → neg_ℤ (pos g) ≡ pos b → g ≡ 0
no_magnitude zero b e = refl
no_magnitude (suc g) b e = absurd (pos-ne-negsuc b g (sym e))

factor_zero : (a l : ℕ) → 0 < l → a * l ≡ 0 → a ≡ 0
factor_zero a l L e = let h : a ≤ a * l = le-mul_of_pos_right a L in omega arith

pub multiple : (s : Bool) (g : ℕ) (n : ℤ) (l : ℕ) → 0 < l → with_sign s g ≡ n *ℤ pos l → (g ≡ nat_abs n * l) × (n ≡ with_sign s (nat_abs n))
multiple false g (pos a) l L e = (ap nat_abs e, refl)
multiple true g (pos a) l L e =
    let m : g ≡ a * l = sym (abs_sign true g) ∙ ap nat_abs e in
    let z : a ≡ 0 = factor_zero a l L (sym m ∙ no_magnitude g (a * l) e) in
    (m, ap pos z ∙ sym (ap (λ (x : ℕ). neg_ℤ (pos x)) z))
multiple true g (negsuc a) l L e = (sym (abs_sign true g) ∙ ap nat_abs e ∙ abs_sign true (suc a * l), refl)
multiple false g (negsuc a) l L e =
    let z : suc a ≡ 0 = factor_zero (suc a) l L (no_magnitude (suc a * l) g (sym e)) in
    absurd (let q : ⊥ = omega arith in q)
