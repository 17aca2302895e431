-- The number whose root is taken has 47 or 48 digits, and the root's square and the remainder add up to it.
-- Times 4 ^ exponent it is the significand times its power of two, which is the operand.
use Prim.Native.Nat.{ℕ, suc, ◌+◌, ◌-◌, ◌*◌, ◌/◌, ◌%◌, ◌^◌, ◌<◌, ◌≤◌}
use native.Mathlib.Nat.{eq-zero-or-pos, lt_of_le_of_lt, mul_assoc, le_of_suc-le-suc}
use native.Mathlib.Omega.{arith}
use mathlib.Core.Path.{◌≡◌, sym, ap, subst, ◌∙◌}
use mathlib.Core.Logic.{⊎_elim}
use lib.Pow.{pow-add}
use Rattle.float32.proofs.root.Squares.{IsRoot, square_lt, square_fits, next_square, floor-root, floor_small}
use Rattle.float32.proofs.root.root_with_remainder.Goals as goal
use Rattle.float32.proofs.root.root_with_remainder.Goals.{After-with_even_exponent-n, After-floor_root-root}

-- 47 or 48 digits
digits : (q s : ℕ) → 2 ^ 23 ≤ q → q < 2 ^ 24 → (2 ^ 46 ≤ q * 2 ^ (24 - s % 2)) × (q * 2 ^ (24 - s % 2) < 2 ^ 48)
digits q s l h =
    ⊎_elim
    (λ (e : s % 2 ≡ 0). rw e (omega arith, omega arith))
    (λ (p : 0 < s % 2). let e : s % 2 ≡ 1 = omega arith in rw e (omega arith, omega arith))
    (eq-zero-or-pos (s % 2))

-- an even number of digits taken out
taken_out : (q s : ℕ) → 126 ≤ s → q * 2 ^ s ≡ q * 2 ^ (24 - s % 2) * (2 ^ ((s - 23) / 2) * 2 ^ ((s - 23) / 2))
taken_out q s l =
    let w : ℕ = 24 - s % 2 in
    let k : ℕ = (s - 23) / 2 in
    let even : s ≡ w + (k + k) = omega arith in
    ap (λ (j : ℕ). q * 2 ^ j) even
    ∙ ap (λ (x : ℕ). q * x) (pow-add 2 w (k + k) ∙ ap (λ (x : ℕ). 2 ^ w * x) (pow-add 2 k k))
    ∙ sym (mul_assoc q (2 ^ w) (2 ^ k * 2 ^ k))

sized : (c : After-with_even_exponent-n) → (2 ^ 46 ≤ c.with_even_exponent-n.result) × (c.with_even_exponent-n.result < 2 ^ 48)
sized c =
    let f = c.fields_of-f.result in
    let h = c.fields_of-f.ensures in
    rw c.with_even_exponent-n.ensures (digits f.significand f.exponent h.low h.high)

is-root : (c : After-floor_root-root) → (c.with_even_exponent-n.result < 2 ^ 48) → IsRoot c.with_even_exponent-n.result c.floor_root-root.result
is-root c h = subst (IsRoot c.with_even_exponent-n.result) (sym c.floor_root-root.ensures) (floor-root c.with_even_exponent-n.result h)

small : (c : After-floor_root-root) → (c.with_even_exponent-n.result < 2 ^ 48) → c.floor_root-root.result < 2 ^ 24
small c h = subst (λ (r : ℕ). r < 2 ^ 24) (sym c.floor_root-root.ensures) (floor_small c.with_even_exponent-n.result h)

pub floor_root-root-requires : goal.floor_root-root-requires
floor_root-root-requires c = (sized (goal.at.floor_root-root-requires c).After-with_even_exponent-n).1

pub overflow_mul-result : goal.overflow_mul-result
overflow_mul-result c =
    let at = goal.at.overflow_mul-result c in
    square_fits c.floor_root-root.result (omega (arith, small at.After-floor_root-root (sized at.After-with_even_exponent-n).1))

pub overflow_sub-result : goal.overflow_sub-result
overflow_sub-result c =
    let at = goal.at.overflow_sub-result c in
    (is-root at.After-floor_root-root (sized at.After-with_even_exponent-n).1).0

pub returns : goal.returns
returns c =
    let at = goal.at.returns c in
    let n = c.with_even_exponent-n.result in
    let f = c.fields_of-f.result in
    let h = c.fields_of-f.ensures in
    let r = c.floor_root-root.result in
    let s = sized at.After-with_even_exponent-n in
    let i = is-root at.After-floor_root-root s.1 in
    let sum : r * r + (n - r * r) ≡ n = omega (arith, i.0) in
    let k : ℕ = (f.exponent - 23) / 2 in
    record {
      value =
          h.value
          ∙ taken_out f.significand f.exponent h.least
          ∙ ap (λ (x : ℕ). x * (2 ^ k * 2 ^ k)) (sym (sum ∙ c.with_even_exponent-n.ensures));
      less = omega (arith, rw (next_square r) at i.1);
      low = le_of_suc-le-suc (square_lt {a = 2 ^ 23} {b = suc r} (lt_of_le_of_lt s.0 i.1));
      high = small at.After-floor_root-root s.1;
      far = omega (arith, h.most);
    }
