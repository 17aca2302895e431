-- Each turn writes the next matrix's rows (`goes_on`), and all of them fill the destination (`ends_all`).
use Rattle.std.proofs.Common.{◌≡◌, ◌+◌, ◌*◌, ◌∙◌, refl, ap, arith, length}
use Rattle.d3d9_types.specs.declared.matrix.D3DMATRIX.{D3DMATRIX}
use lib.Seq.{sets}
use Rattle.matrix.specs.Transposition.{transposed}
use Rattle.rows.specs.Rows.{floats}
use Rattle.rows.specs.Matrices.{matrix_rows, world_view_rows, palette_rows}
use Rattle.rows.proofs.Items.{begins, goes_on, ends_all}
use Rattle.rows.proofs.palette.write_palette.Goals as goal

pub loop-i-init : goal.loop-i-init
unfolding world_view_rows
loop-i-init c =
    let a = c.args in
    begins (world_view_rows a.view) 4 (λ m. refl) (length a.palette.now) a.palette.now a.dst.now (omega arith) c.requires

pub loop-i-preserved : goal.loop-i-preserved
unfolding world_view_rows
loop-i-preserved c =
    let a = c.args in
    let l = c.loop-i in
    let next : 16 * (l.i + 1) ≡ 16 * l.i + 16 = omega arith in
    rw next
    (goes_on (world_view_rows a.view) 4 (λ m. refl) (length a.palette.now) a.palette.now a.dst.now _ l.i (16 * l.i) l.dst _ l.invariant (omega arith)
    (c.write_matrix.ensures
    ∙ ap (λ (m : D3DMATRIX). sets l.dst (16 * l.i) (floats (matrix_rows m))) (c.transpose.ensures ∙ ap transposed c.mat_mul.ensures)))

pub returns : goal.returns
unfolding palette_rows world_view_rows
returns c =
    let a = c.args in
    let l = c.loop-i in
    ends_all (world_view_rows a.view) 4 (λ m. refl) a.palette.now a.dst.now l.i (16 * l.i) l.dst c.loop-i-test.false l.invariant
