-- Each turn writes the next matrix's rows (`goes_on`), and all of them fill the destination (`ends_all`).
use Rattle.std.proofs.Common.{◌≡◌, ◌+◌, ◌*◌, ◌∙◌, refl, ap, arith, length}
use Rattle.d3d9_types.specs.declared.matrix.D3DMATRIX.{D3DMATRIX}
use lib.Seq.{sets}
use Rattle.rows.specs.Rows.{floats}
use Rattle.rows.specs.Matrices.{matrix_rows, projection_rows}
use Rattle.rows.proofs.Items.{begins, goes_on, ends_all}
use Rattle.rows.proofs.textures.write_textures.Goals as goal

pub loop-i-init : goal.loop-i-init
unfolding projection_rows
loop-i-init c =
    let a = c.args in
    begins projection_rows 4 (λ m. refl) (length a.textures.now) a.textures.now a.dst.now (omega arith) c.requires

pub loop-i-preserved : goal.loop-i-preserved
unfolding projection_rows
loop-i-preserved c =
    let a = c.args in
    let l = c.loop-i in
    let next : 16 * (l.i + 1) ≡ 16 * l.i + 16 = omega arith in
    rw next
    (goes_on projection_rows 4 (λ m. refl) (length a.textures.now) a.textures.now a.dst.now _ l.i (16 * l.i) l.dst _ l.invariant (omega arith)
    (c.write_matrix.ensures ∙ ap (λ (m : D3DMATRIX). sets l.dst (16 * l.i) (floats (matrix_rows m))) c.transpose.ensures))

pub returns : goal.returns
unfolding projection_rows
returns c =
    let a = c.args in
    let l = c.loop-i in
    ends_all projection_rows 4 (λ m. refl) a.textures.now a.dst.now l.i (16 * l.i) l.dst c.loop-i-test.false l.invariant
