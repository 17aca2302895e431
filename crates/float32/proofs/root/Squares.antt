-- The whole-number root: `floor_root n` is the one r with r * r ≤ n < (r + 1) * (r + 1), and `nearest_root n` is r or r + 1 by which side of r + 1/2 the root lies.
-- Assumes nothing.
use Prim.Native.Nat.{ℕ, zero, suc, ◌+◌, ◌-◌, ◌*◌, ◌^◌, ◌≤◌, ◌<◌, zero-le}
use native.Mathlib.Nat.{le_antisymm, lt_of_le_of_lt, le_of_suc-le-suc, lt_of_not-le, not-le_of_lt, mul-le-mul, mul-add, add-mul, mul_comm, mul_assoc, mul_left_comm, mul-suc, suc-mul, add_assoc, add_comm, add_left_comm, two-pow-succ}
use native.Mathlib.Omega.{arith}
use native.Mathlib.Numerals.{add-one}
use mathlib.Core.Path.{◌≡◌, refl, sym, ap, subst, ◌∙◌}
use mathlib.Core.Bool.{true, false}
use mathlib.Core.Logic.{◌⊎◌, inl, inr}
use lib.Dec.{leb, lit<}
use mir.Val.{Fits}
use mir.Syntax.{w64}
use borrow.Author.Tests.{leb-true, leb-false}
use Rattle.lemmas.proofs.Branch.{branch}
use Rattle.float32.specs.Root.{root_from, floor_root, nearest_root}

pub square_lt : {a b : ℕ} → a * a < b * b → a < b
square_lt h = lt_of_not-le (λ g. not-le_of_lt h (mul-le-mul g g))

abbrev pub IsRoot : ℕ → ℕ → Type 0
IsRoot n r = (r * r ≤ n) × (n < suc r * suc r)

pub root_unique : {n r q : ℕ} → IsRoot n r → IsRoot n q → r ≡ q
root_unique h g =
    le_antisymm
    (le_of_suc-le-suc (square_lt (lt_of_le_of_lt h.0 g.1)))
    (le_of_suc-le-suc (square_lt (lt_of_le_of_lt g.0 h.1)))

root-from : (k n r : ℕ) → r * r ≤ n → n < (r + 2 ^ k) * (r + 2 ^ k) → IsRoot n (root_from k n r)
unfolding root_from
root-from zero n r lo hi = (lo, subst (λ (x : ℕ). n < x * x) (add-one r) hi)
root-from (suc k) n r lo hi =
    let s : ℕ = r + 2 ^ k in
    let twice : r + 2 ^ suc k ≡ s + 2 ^ k = ap (λ (x : ℕ). r + x) (two-pow-succ k) ∙ sym (add_assoc r (2 ^ k) (2 ^ k)) in
    branch (λ (x : ℕ). IsRoot n (root_from k n x)) (leb (s * s) n) s r
    (λ (e : leb (s * s) n ≡ true). root-from k n s (leb-true (s * s) n e) (subst (λ (x : ℕ). n < x * x) twice hi))
    (λ (e : leb (s * s) n ≡ false). root-from k n r lo (leb-false (s * s) n e))

pub floor-root : (n : ℕ) → n < 2 ^ 48 → IsRoot n (floor_root n)
unfolding floor_root
floor-root n h = root-from 24 n 0 zero-le h

pub next_square : (r : ℕ) → suc r * suc r ≡ r * r + 2 * r + 1
next_square r = suc-mul r (suc r) ∙ ap (λ (x : ℕ). x + suc r) (mul-suc r r) ∙ (let e : r * r + r + suc r ≡ r * r + 2 * r + 1 = omega arith in e)

-- (2 * r + 1) ^ 2, the square of a midpoint, doubled
pub odd_square : (r : ℕ) → (2 * r + 1) * (2 * r + 1) ≡ 4 * (r * r) + 4 * r + 1
odd_square r =
    let p : (2 * r + 1) * (2 * r + 1) ≡ 2 * r * (2 * r) + 2 * r + (2 * r + 1) = simp (mul-add, add-mul, mul_comm, add_assoc, add_comm, add_left_comm) (omega arith) in
    let q : 2 * r * (2 * r) ≡ 4 * (r * r) = simp (mul_assoc, mul_comm, mul_left_comm) (omega arith) in
    omega arith

-- The nearest is below the root and more than half a step from the next, or above it and less than half a step from it.
abbrev pub Near : ℕ → ℕ → Type 0
Near n q = ((q * q ≤ n) × (4 * n < (2 * q + 1) * (2 * q + 1))) ⊎ ((r : ℕ) × (q ≡ suc r) × (n < q * q) × ((2 * r + 1) * (2 * r + 1) < 4 * n))

pub nearest_near : (n : ℕ) → n < 2 ^ 48 → Near n (nearest_root n)
unfolding nearest_root
nearest_near n h =
    let r : ℕ = floor_root n in
    let i : IsRoot n r = floor-root n h in
    branch (Near n) (leb (n - r * r) r) r (suc r)
    (λ (e : leb (n - r * r) r ≡ true). inl (i.0, rw odd_square (omega (arith, leb-true (n - r * r) r e, i.0))))
    (λ (e : leb (n - r * r) r ≡ false). inr (r, refl, i.1, rw odd_square (omega (arith, leb-false (n - r * r) r e, i.0))))

-- the square of a number of at most 32 digits fits 64 bits
pub square_fits : (r : ℕ) → r < 2 ^ 32 → Fits w64 (r * r)
square_fits r h =
    let most : r ≤ 2 ^ 32 - 1 = omega arith in
    record { fits = lt_of_le_of_lt (mul-le-mul most most) (lit< tt) }

-- a remainder of at most 2 * r: n is below the next square
pub below_next : (n r : ℕ) → r * r ≤ n → n - r * r ≤ 2 * r → n < suc r * suc r
below_next n r lo h = rw next_square (omega (arith, lo))

-- the nearest root of a number of 47 or 48 digits has 24, or is 2 ^ 24
near_bounds : (n q : ℕ) → 2 ^ 46 ≤ n → n < 2 ^ 48 → Near n q → (2 ^ 23 ≤ q) × (q ≤ 2 ^ 24)
near_bounds n q lo hi (inl x) =
    let a : 2 ^ 24 < 2 * q + 1 = square_lt {a = 2 ^ 24} {b = 2 * q + 1} (omega (arith, x.1)) in
    let b : q < 2 ^ 24 = square_lt {a = q} {b = 2 ^ 24} (omega (arith, x.0)) in
    (omega arith, omega arith)
near_bounds n q lo hi (inr x) =
    let a : 2 ^ 23 < q = square_lt {a = 2 ^ 23} {b = q} (omega (arith, x.2)) in
    let b : 2 * x.0 + 1 < 2 ^ 25 = square_lt {a = 2 * x.0 + 1} {b = 2 ^ 25} (omega (arith, x.3)) in
    (omega arith, omega (arith, x.1))

pub nearest_bounds : (n : ℕ) → 2 ^ 46 ≤ n → n < 2 ^ 48 → (2 ^ 23 ≤ nearest_root n) × (nearest_root n ≤ 2 ^ 24)
nearest_bounds n lo hi = near_bounds n (nearest_root n) lo hi (nearest_near n hi)

-- the root of a number of at most 48 digits has at most 24
pub floor_small : (n : ℕ) → n < 2 ^ 48 → floor_root n < 2 ^ 24
floor_small n h = square_lt {a = floor_root n} {b = 2 ^ 24} (lt_of_le_of_lt (floor-root n h).0 h)
