-- The destination is as long as the section's rows: each arm writes them from its front to its end.
use Rattle.std.proofs.Common.{◌∙◌, ℕ, ◌*◌, sym, ap, arith}
use lib.Seq.{sets}
use Rattle.d3d9_types.specs.declared.matrix.D3DMATRIX.{D3DMATRIX}
use Rattle.matrix.specs.Transposition.{transposed}
use Rattle.rows.specs.Rows.{floats}
use Rattle.rows.specs.Matrices.{matrix_rows, projection_rows, world_view_rows}
use Rattle.rows.proofs.Stores.{sets_whole}
use Rattle.sections.specs.Counts.{material_count}
use Rattle.packing.specs.Inputs.{packed_rows}
use Rattle.packing.proofs.Lengths.{material_length}
use Rattle.packing.proofs.LightMask.{none-packed, some_counted, some_packed}
use Rattle.packing.proofs.write.write_section.Goals as goal

pub returns-in-Wv : goal.returns-in-Wv
unfolding packed_rows world_view_rows floats
returns-in-Wv c =
    let m = c.args.dst.now in
    let long = rw c.in-Wv.is at c.requires.long in
    rw c.in-Wv.is
    (c.write_matrix.ensures
    ∙ ap (λ (w : D3DMATRIX). sets m 0 (floats (matrix_rows w))) (c.transpose.ensures ∙ ap transposed c.mat_mul.ensures)
    ∙ sets_whole _ m long)

pub returns-in-Proj : goal.returns-in-Proj
unfolding packed_rows projection_rows floats
returns-in-Proj c =
    let m = c.args.dst.now in
    let long = rw c.in-Proj.is at c.requires.long in
    rw c.in-Proj.is
    (c.write_matrix-in-Proj.ensures
    ∙ ap (λ (w : D3DMATRIX). sets m 0 (floats (matrix_rows w))) c.transpose-in-Proj.ensures
    ∙ sets_whole _ m long)

pub write_material-requires : goal.write_material-requires
unfolding material_count
write_material-requires c =
    let long = rw c.in-Material.is at c.requires.long in
    long ∙ ap (λ (n : ℕ). 4 * n) (sym (material_length c.args.key.lighting_enabled c.args.key.specular_enable c.args.s.now.material))

pub returns-in-Material : goal.returns-in-Material
unfolding packed_rows
returns-in-Material c = rw c.in-Material.is c.write_material.ensures

pub returns-in-Lights : goal.returns-in-Lights
returns-in-Lights c =
    let long = rw c.in-Lights.is at c.requires.long in
    rw c.in-Lights.is (none-packed c.args.s.now c.args.key _ long c.if-key-eq0.true)

pub write_active_lights-requires : goal.write_active_lights-requires
write_active_lights-requires c =
    let long = rw c.in-Lights-2.is at c.requires.long in
    let mask = rw c.in-Lights-2.is at c.requires.mask in
    omega (arith, long, some_counted c.args.s.now c.args.key c.if-key-eq0.false mask)

pub returns-in-Lights-2 : goal.returns-in-Lights-2
returns-in-Lights-2 c = rw c.in-Lights-2.is (c.write_active_lights.ensures ∙ some_packed c.args.s.now c.args.key c.if-key-eq0.false)

pub write_palette_section-requires : goal.write_palette_section-requires
write_palette_section-requires c = rw c.in-Palette.is at c.requires.long

pub returns-in-Palette : goal.returns-in-Palette
unfolding packed_rows
returns-in-Palette c = rw c.in-Palette.is c.write_palette_section.ensures

pub write_tt_section-requires : goal.write_tt_section-requires
write_tt_section-requires c = rw c.in-Tt.is at c.requires.long

pub returns-in-Tt : goal.returns-in-Tt
unfolding packed_rows
returns-in-Tt c = rw c.in-Tt.is c.write_tt_section.ensures

pub returns-in-Fog : goal.returns-in-Fog
unfolding packed_rows
returns-in-Fog c = rw c.in-Fog.is c.write_fog.ensures

pub returns-in-Ambient : goal.returns-in-Ambient
unfolding packed_rows
returns-in-Ambient c = rw c.in-Ambient.is c.write_ambient.ensures
