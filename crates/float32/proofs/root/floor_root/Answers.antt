-- What the two tests leave is the whole-number root, of which there is one, and so is what the library answers where they fail.
use Rattle.std.proofs.Common.{◌*◌, ◌<◌, ℕ, subst, add-one}
use Rattle.float32.proofs.root.Squares.{root_unique, floor-root, below_next}
use Rattle.float32.proofs.root.floor_root.Goals as goal

pub returns-then-n-r : goal.returns-then-n-r
returns-then-n-r c =
    let r = c.not_above-r.result in
    root_unique (c.if-r-n.true, below_next c.args.n r c.if-r-n.true c.if-n-r.true) (floor-root c.args.n c.requires)

pub returns-else-r-n : goal.returns-else-r-n
returns-else-r-n c =
    root_unique (c.isqrt.ensures.square_le, subst (λ (x : ℕ). c.args.n < x * x) (add-one c.isqrt.result) c.isqrt.ensures.next_square_gt) (floor-root c.args.n c.requires)
