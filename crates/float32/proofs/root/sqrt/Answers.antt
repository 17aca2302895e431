-- A special operand's answer is its root (`sorted`), and any other's is what the two steps behind find (`exact_rounded`).
use Rattle.std.proofs.Common.{sym, subst, ◌∙◌}
use lib.Dec.{T}
use lib.Ieee.{Float, binary32, fits}
use Rattle.std.specs.declared.ops.ControlFlow.TheVariants.{Continue}
use Rattle.float32.specs.Steps.{Exact}
use Rattle.float32.proofs.root.Steps.{Sorted, sorted, exact_rounded}
use Rattle.float32.proofs.root.sqrt.Goals as goal
use Rattle.float32.proofs.root.sqrt.Goals.{After-special}

-- x is an f32 value
value : (c : After-special) → T (fits binary32 c.args.x)
value c = subst T (sym c.well_formed.0.1) tt

-- what the first step found
found : (c : After-special) → Sorted c.args.x c.special.result
found c = subst (Sorted c.args.x) (sym c.special.ensures.0) (sorted c.args.x (value c))

pub returns-in-Break : goal.returns-in-Break
returns-in-Break c = subst (Sorted c.args.x) c.in-Break.is (found (goal.at.returns-in-Break c).After-special)

pub returns-in-Continue : goal.returns-in-Continue
returns-in-Continue c =
    let at = (goal.at.returns-in-Continue c).After-special in
    let x = c.args.x in
    let r = c.root_with_remainder.result in
    let p : Sorted x (Continue c.in-Continue.b) = subst (Sorted x) c.in-Continue.is (found at) in
    c.rounded.ensures ∙ exact_rounded x r (subst (λ (y : Float). Exact y r) p.0 c.root_with_remainder.ensures) (value at) p.1
