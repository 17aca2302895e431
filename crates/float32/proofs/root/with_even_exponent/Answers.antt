-- 2 ^ 23 * (2 - p) is 2 ^ (24 - p) for a p of 0 and of 1.
use Rattle.std.proofs.Common.{arith, ◌≡◌, ◌<◌, ◌%◌}
use native.Mathlib.Nat.{eq-zero-or-pos}
use mathlib.Core.Logic.{⊎_elim}
use Rattle.float32.proofs.root.with_even_exponent.Goals as goal

pub returns : goal.returns
returns c =
    let s = c.args.f.exponent in
    ⊎_elim
    (λ (e : s % 2 ≡ 0). rw (c.from.ensures, c.from-2.ensures, e) (omega arith))
    (λ (p : 0 < s % 2). let e : s % 2 ≡ 1 = omega arith in rw (c.from.ensures, c.from-2.ensures, e) (omega arith))
    (eq-zero-or-pos (s % 2))
