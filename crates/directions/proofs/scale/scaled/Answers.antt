-- The largest bits say whether the direction is scaled, and the digits of its largest component, hence the power of two;
-- where that may be no f32, all components are subnormal and the first of two products is exact (`times_twice`).
use Rattle.std.proofs.Common.{◌<◌, ◌≡◌, ◌∙◌, arith, rules, sym, subst}
use lib.Dec.{T}
use Rattle.d3d9_types.specs.Vector.{vectorFits}
use Rattle.directions.specs.Scale.{scaled_by}
use Rattle.directions.proofs.Scaling.{stays_zero, stays_infinite, leading, normal, subnormal}
use Rattle.directions.proofs.scale.scaled.Goals as goal
use Rattle.directions.proofs.scale.scaled.Goals.{After-largest_bits-b, then-b-eq0-via-then-b-eq0, then-b-eq0-via-else-b-eq0+then-b-ge2139095040}

-- the components are f32 values
value : (c : After-largest_bits-b) → vectorFits c.args.d
value c =
    let g = c.well_formed.0.1 in
    record { x = subst T (sym g.1.0.1) tt; y = subst T (sym g.1.1.0.1) tt; z = subst T (sym g.1.1.1.0.1) tt }

pub returns-then-b-eq0 : goal.returns-then-b-eq0
returns-then-b-eq0 c =
    let v = value (goal.at.returns-then-b-eq0 c).After-largest_bits-b in
    let b = c.largest_bits-b.result in
    elim c.then-b-eq0.branch [
      | then-b-eq0-via-then-b-eq0 w ↦ stays_zero c.args.d v b c.largest_bits-b.ensures w.if-b-eq0.true
      | then-b-eq0-via-else-b-eq0+then-b-ge2139095040 w ↦ stays_infinite c.args.d v b c.largest_bits-b.ensures (omega (arith, w.if-b-ge2139095040.true))
    ]

pub returns-then-b-lt8388608 : goal.returns-then-b-lt8388608
returns-then-b-lt8388608 c =
    let b = c.largest_bits-b.result in
    let some : 0 < b = omega (arith, c.if-b-eq0.false) in
    let below : b < 0x7F80_0000 = omega (arith, c.if-b-ge2139095040.false) in
    let lead = leading b some c.if-b-lt8388608.true in
    (let e : c.map.result ≡ scaled_by c.power_of_two-q.result (scaled_by c.power_of_two-p.result c.args.d) = search rules in e)
    ∙ subnormal c.args.d (value (goal.at.returns-then-b-lt8388608 c).After-largest_bits-b) b c.largest_bits-b.ensures some below c.if-b-lt8388608.true _ c.power_of_two-p.result c.power_of_two-q.result c.power_of_two-p.ensures c.power_of_two-q.ensures (omega arith) (omega arith)

pub returns : goal.returns
returns c =
    let b = c.largest_bits-b.result in
    let some : 0 < b = omega (arith, c.if-b-lt8388608.false) in
    let below : b < 0x7F80_0000 = omega (arith, c.if-b-ge2139095040.false) in
    (let e : c.map-2.result ≡ scaled_by c.power_of_two-p-2.result c.args.d = search rules in e)
    ∙ normal c.args.d (value (goal.at.returns c).After-largest_bits-b) b c.largest_bits-b.ensures some below c.if-b-lt8388608.false _ c.power_of_two-p-2.result c.power_of_two-p-2.ensures (omega arith)
