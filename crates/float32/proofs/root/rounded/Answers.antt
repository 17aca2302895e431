-- The nearest to a root of 24 digits has 24, or is 2 ^ 24, and the bits are those of the float with that significand (`made`).
use Rattle.std.proofs.Common.{arith, ◌≡◌, ◌≤◌, ◌<◌, ◌^◌, ℕ, ap, ◌∙◌, true, false}
use Prim.Native.Nat.{suc}
use lib.Ieee.{odd}
use Rattle.lemmas.proofs.Branch.{branch}
use Rattle.float32.specs.Steps.{below_midpoint, nearest_of, rounded_root}
use Rattle.float32.specs.declared.root.Root.{Root}
use Rattle.float32.proofs.root.Values.{made}
use Rattle.float32.proofs.root.rounded.Goals as goal
use Rattle.float32.proofs.root.rounded.Goals.{After-nearest}

bounds_of : (r : Root) → 2 ^ 23 ≤ r.root → r.root < 2 ^ 24 → (2 ^ 23 ≤ nearest_of r) × (nearest_of r ≤ 2 ^ 24)
unfolding nearest_of
bounds_of r low high =
    branch (λ (q : ℕ). (2 ^ 23 ≤ q) × (q ≤ 2 ^ 24)) (below_midpoint r) r.root (suc r.root)
    (λ (e : below_midpoint r ≡ true). (low, omega arith))
    (λ (e : below_midpoint r ≡ false). (omega arith, omega arith))

bounds : (c : After-nearest) → (2 ^ 23 ≤ c.nearest.result) × (c.nearest.result ≤ 2 ^ 24)
bounds c = rw c.nearest.ensures (bounds_of c.args.r c.requires.0 c.requires.1)

pub overflow_cast-nearest : goal.overflow_cast-nearest
overflow_cast-nearest c = record { fits = omega (arith, (bounds (goal.at.overflow_cast-nearest c).After-nearest).1) }

pub overflow_add-r : goal.overflow_add-r
overflow_add-r c = record { fits = omega (arith, (bounds (goal.at.overflow_add-r c).After-nearest).1, c.requires.2) }

pub returns : goal.returns
unfolding rounded_root
returns c =
    let b = bounds (goal.at.returns c).After-nearest in
    c.of_bits.ensures
    ∙ made c.nearest.result c.args.r.exponent b.0 b.1 (omega (arith, c.requires.2))
    ∙ ap (λ (q : ℕ). odd 25 false q c.args.r.exponent 149) c.nearest.ensures
