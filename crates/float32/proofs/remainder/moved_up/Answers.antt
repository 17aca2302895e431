-- Twice what is left, over T, is what is left of twice the number.
use Rattle.std.proofs.Common.{◌≡◌, ◌*◌, ◌%◌, ◌^◌, ℕ, ◌∙◌, ap, sym, arith, add-one}
use native.Mathlib.Nat.{pow-suc, mul_assoc}
use Rattle.float32.proofs.remainder.moved_up.Goals as goal

twice : (n r : ℕ) → r ≡ n % 0xC9_0FDB → 2 * r % 0xC9_0FDB ≡ n * 2 % 0xC9_0FDB
twice n r h = omega arith

pub loop-preserved : goal.loop-preserved
loop-preserved c =
    let i = c.loop.counter in
    let s = c.args.significand in
    twice (s * 2 ^ i) c.loop.r c.loop.invariant
    ∙ ap (λ (x : ℕ). x % 0xC9_0FDB) (mul_assoc s (2 ^ i) 2 ∙ ap (λ (x : ℕ). s * x) (sym (pow-suc 2 i) ∙ ap (λ (j : ℕ). 2 ^ j) (sym (add-one i))))
