-- The steps make the determinant and the columns of the definition (`Cofactors`), and the two tests are those that its answer turns on.
use Rattle.std.proofs.Common.{◌∙◌, sym}
use lib.Ieee.{of_bits}
use Rattle.matrix.proofs.Cofactors.{finite_is, determinant_kept, columns_made, refused-zero, refused_infinite, accepted}
use Rattle.matrix.proofs.inversion.inverse.Goals as goal
use Rattle.matrix.proofs.inversion.inverse.Goals.{then-det-via-then-det, then-det-via-else-det+then-not-is_finite}

pub returns-then-det : goal.returns-then-det
unfolding of_bits
returns-then-det c =
    let d = c.determinant-det.result in
    let made = determinant_kept c.args.m c.minors_of-s.ensures c.minors_of-c.ensures c.determinant-det.ensures in
    elim c.then-det.branch [
      | then-det-via-then-det w ↦ refused-zero c.args.m d made w.if-det.true
      | then-det-via-else-det+then-not-is_finite w ↦ refused_infinite c.args.m d made w.if-det.false (sym (finite_is d) ∙ sym w.is_finite.ensures.value ∙ w.if-not-is_finite.true)
    ]

pub returns : goal.returns
unfolding of_bits
returns c =
    let d = c.determinant-det.result in
    accepted c.args.m d
    (determinant_kept c.args.m c.minors_of-s.ensures c.minors_of-c.ensures c.determinant-det.ensures)
    c.if-det.false
    (sym (finite_is d) ∙ sym c.is_finite.ensures.value ∙ c.if-not-is_finite.false)
    c.transpose.result
    (columns_made c.args.m _ c.minors_of-s.ensures c.minors_of-c.ensures c.negated.ensures c.negated-2.ensures c.column.ensures c.column-2.ensures c.column-3.ensures c.column-4.ensures c.transpose.ensures)
