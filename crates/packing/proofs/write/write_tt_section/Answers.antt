-- A mask has at most eight places.
use Rattle.std.proofs.Common.{◌≡◌, ◌∙◌, ℕ, ◌≤◌, sym, ap, subst, arith, length, take}
use lib.Seq.{length-take-le}
use Rattle.rows.specs.Rows.{floats, rows_of}
use Rattle.rows.specs.Matrices.{projection_rows, texture_rows}
use Rattle.sections.specs.Counts.{texture_count}
use Rattle.sections.proofs.Bounds.{places_most}
use Rattle.packing.proofs.write.write_tt_section.Goals as goal

pub shared_ref_as_front-write_textures : goal.shared_ref_as_front-write_textures
shared_ref_as_front-write_textures c = subst (λ (n : ℕ). n ≤ 8) (sym (c.from-n.ensures ∙ c.places.ensures)) (places_most _)

pub write_textures-requires : goal.write_textures-requires
unfolding texture_count
write_textures-requires c =
    let n = c.from-n.result in
    let most : n ≤ 8 = subst (λ (k : ℕ). k ≤ 8) (sym (c.from-n.ensures ∙ c.places.ensures)) (places_most _) in
    let short : length (take n c.args.textures.now) ≡ n = length-take-le n c.args.textures.now (omega arith) in
    omega (arith, c.requires, short, (c.from-n.ensures ∙ c.places.ensures))

pub returns : goal.returns
unfolding texture_rows
returns c =
    c.write_textures.ensures ∙ ap (λ (n : ℕ). floats (rows_of projection_rows (take n c.args.textures.now))) (c.from-n.ensures ∙ c.places.ensures)
