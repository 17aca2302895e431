-- A key names at most 255 of the 256 matrices.
use Rattle.std.proofs.Common.{◌≡◌, ◌∙◌, ℕ, ◌≤◌, ap, arith, length, take}
use lib.Seq.{length-take-le}
use Rattle.rows.specs.Rows.{floats}
use Rattle.rows.specs.Matrices.{palette_rows}
use Rattle.sections.specs.Counts.{palette_count}
use Rattle.sections.proofs.Bounds.{matrices_most}
use Rattle.packing.proofs.write.write_palette_section.Goals as goal

pub shared_ref_as_front-write_palette : goal.shared_ref_as_front-write_palette
shared_ref_as_front-write_palette c = omega (arith, (c.from-n.ensures ∙ c.palette_matrices.ensures), matrices_most c.args.key (omega arith))

pub write_palette-requires : goal.write_palette-requires
unfolding palette_count
write_palette-requires c =
    let n = c.from-n.result in
    let most : n ≤ 255 = omega (arith, (c.from-n.ensures ∙ c.palette_matrices.ensures), matrices_most c.args.key (omega arith)) in
    let short : length (take n c.args.palette.now) ≡ n = length-take-le n c.args.palette.now (omega arith) in
    omega (arith, c.requires, short, (c.from-n.ensures ∙ c.palette_matrices.ensures))

pub returns : goal.returns
returns c =
    c.write_palette.ensures ∙ ap (λ (n : ℕ). floats (palette_rows c.args.view (take n c.args.palette.now))) (c.from-n.ensures ∙ c.palette_matrices.ensures)
