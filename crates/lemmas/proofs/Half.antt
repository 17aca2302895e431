-- `closest a b`, the whole number nearest to a / b, is half a step away at most: in the units of a, half of b. The remainder is at most that where it is dropped, and at least that where the next
-- number is taken. Assumes nothing.
use Prim.Native.Nat.{ℕ, zero, suc, ◌+◌, ◌*◌, ◌/◌, ◌%◌, ◌≤◌, ◌<◌, compare, Ordering}
use native.Mathlib.Nat.{add-mul, suc-mul, one-mul, zero-mul, mod-lt, div-add-mod'}
use native.Mathlib.Omega.{arith}
use mathlib.Core.Path.{◌≡◌, refl, subst}
use mathlib.Core.Bool.{not}
use lib.Dec.{T, is_le, compare_is_eq, eqb, leb→le, nleb→lt, eqb→eq, eqb_refl}
use lib.Arith.{lt_of_le-ne}
use lib.Ieee.{nearest}
use lib.Ieee.Nearest.{closest}

-- what `compare` says
abbrev Compared : Ordering → ℕ → ℕ → Type 0
Compared Ordering.lt a b = a < b
Compared Ordering.eq a b = a ≡ b
Compared Ordering.gt a b = b < a

compared : (a b : ℕ) → Compared (compare a b) a b
compared a b = go (compare a b) (leb→le a b) (nleb→lt a b) (eqb→eq a b) (λ (e : a ≡ b). subst (λ (x : ℕ). T (eqb a x)) e (eqb_refl a))
  where
    go : (o : Ordering) → (T (is_le o) → a ≤ b) → (T (not (is_le o)) → b < a) → (T (compare_is_eq o) → a ≡ b) → (a ≡ b → T (compare_is_eq o)) → Compared o a b
    go Ordering.lt h k e n = lt_of_le-ne (h tt) n
    go Ordering.eq h k e n = e tt
    go Ordering.gt h k e n = k tt

pub less : (a b : ℕ) → a < b → compare a b ≡ Ordering.lt
less a b h = go (compare a b) (compared a b)
  where
    go : (o : Ordering) → Compared o a b → o ≡ Ordering.lt
    go Ordering.lt c = refl
    go Ordering.eq c = absurd (omega arith)
    go Ordering.gt c = absurd (omega arith)

-- g is a to half of b
abbrev pub WithinHalf : ℕ → ℕ → ℕ → Type 0
WithinHalf a b g = (2 * g ≤ 2 * a + b) × (2 * a ≤ 2 * g + b)

-- q and r are the quotient and the remainder of a by b; o says how twice r compares with b
within : (a b q r : ℕ) (o : Ordering) → q * b + r ≡ a → r < b → Compared o (r * 2) b → WithinHalf a b (nearest q o * b)
within a b q r Ordering.lt e l c = (omega arith, omega arith)
within a b q r Ordering.eq e l c = tie (q % 2) (let d : q % 2 < 2 = mod-lt q (omega arith) in d)
  where
    tie : (t : ℕ) → t < 2 → WithinHalf a b ((q + t) * b)
    tie zero h = (omega (arith, add-mul q 0 b, zero-mul b), omega (arith, add-mul q 0 b, zero-mul b))
    tie (suc zero) h = (omega (arith, add-mul q 1 b, one-mul b), omega (arith, add-mul q 1 b, one-mul b))
    tie (suc (suc t)) h = absurd (omega arith)
within a b q r Ordering.gt e l c = (omega (arith, suc-mul q b), omega (arith, suc-mul q b))

pub half_step : (a b : ℕ) → 0 < b → WithinHalf a b (closest a b * b)
half_step a b B = within a b (a / b) (a % b) (compare (a % b * 2) b) (div-add-mod' a b) (mod-lt a B) (compared (a % b * 2) b)
