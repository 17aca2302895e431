-- Each turn writes the next light's rows (`goes_on`), and all of them fill the destination (`ends`).
use Rattle.std.proofs.Common.{◌≡◌, ◌+◌, ◌*◌, ◌∙◌, refl, ap, arith, List, length}
use lib.Seq.{sets, take_all}
use Rattle.d3d9_types.specs.declared.matrix.Row.{Row}
use Rattle.d3d9_types.specs.declared.matrix.D3DMATRIX.{D3DMATRIX}
use Rattle.d3d9_types.specs.declared.light.D3DLIGHT9.{D3DLIGHT9}
use Rattle.rows.specs.Rows.{floats}
use Rattle.rows.proofs.Items.{begins, goes_on, ends}
use Rattle.light_rows.specs.Light.{light_rows, six_rows, lights_rows}
use Rattle.light_rows.specs.declared.light.LightRows.{LightRows}
use Rattle.light_rows.proofs.light.write_lights.Goals as goal

abbrev rows_in : D3DMATRIX → D3DLIGHT9 → List Row
rows_in view l = six_rows (light_rows view l)

pub loop-i-init : goal.loop-i-init
loop-i-init c =
    let a = c.args in
    begins (rows_in a.view) 6 (λ l. refl) (length a.lights.now) a.lights.now a.dst.now (omega arith) c.requires

pub loop-i-preserved : goal.loop-i-preserved
loop-i-preserved c =
    let a = c.args in
    let l = c.loop-i in
    let next : 24 * (l.i + 1) ≡ 24 * l.i + 24 = omega arith in
    rw next
    (goes_on (rows_in a.view) 6 (λ l. refl) (length a.lights.now) a.lights.now a.dst.now _ l.i (24 * l.i) l.dst _ l.invariant (omega arith)
    (c.write_light.ensures ∙ ap (λ (r : LightRows). sets l.dst (24 * l.i) (floats (six_rows r))) c.light_rows.ensures))

pub returns : goal.returns
unfolding lights_rows
returns c =
    let a = c.args in
    let l = c.loop-i in
    ends (rows_in a.view) 6 (λ l. refl) (length a.lights.now) a.lights.now a.dst.now l.i (24 * l.i) l.dst c.loop-i-test.false l.invariant
    ∙ ap (λ ls. floats (lights_rows a.view ls)) (take_all (length a.lights.now) a.lights.now (omega arith))
