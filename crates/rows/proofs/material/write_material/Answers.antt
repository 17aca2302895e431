-- Each way leaves just the rows that the two flags ask for, and they fill the destination.
use Prim.Native.Nat.{◌*◌, ◌≤◌}
use native.Mathlib.Omega.{arith}
use mathlib.Core.Path.{◌≡◌, sym, ◌∙◌}
use mathlib.Core.Bool.{Bool, true, false}
use mathlib.Core.List.{List, []}
use lib.Ieee.{Float, of_bits}
use lib.ListN.{length}
use lib.Seq.{sets}
use Rattle.d3d9_types.specs.Color.{color_row}
use Rattle.d3d9_types.specs.declared.material.D3DMATERIAL9.{D3DMATERIAL9}
use Rattle.rows.specs.Rows.{row_floats, floats}
use Rattle.rows.specs.Material.{power_row, material_rows}
use Rattle.rows.proofs.Stores.{sets_append, sets_whole}
use Rattle.rows.proofs.Floats.{length-floats, written_whole}
use Rattle.rows.proofs.material.write_material.Goals as goal

module _ (l sp : Bool) (m : D3DMATERIAL9) (dst : List Float) (whole : length dst ≡ 4 * length (material_rows l sp m)) where
  least : 4 ≤ length dst
  unfolding material_rows
  least = omega (arith, whole)

  unlit : l ≡ false → sets dst 0 (row_floats (color_row m.diffuse)) ≡ floats (material_rows l sp m)
  unfolding material_rows
  unlit e = rw e (written_whole (color_row m.diffuse) [] dst (rw e at whole))

  module _ (e : l ≡ true) where
    least_lit : 16 ≤ length dst
    unfolding material_rows
    least_lit = omega (arith, rw e at whole)

    matte : sp ≡ false → sets dst 0 (floats (material_rows true false m)) ≡ floats (material_rows l sp m)
    matte q = rw (e, q) (sets_whole (floats (material_rows true false m)) dst (rw (e, q) at whole ∙ sym (length-floats (material_rows true false m))))

    least_specular : sp ≡ true → 20 ≤ length dst
    unfolding material_rows
    least_specular q = omega (arith, rw (e, q) at whole)

    shiny : sp ≡ true → sets (sets dst 0 (floats (material_rows true false m))) 16 (row_floats (power_row m)) ≡ floats (material_rows l sp m)
    unfolding floats material_rows
    shiny q =
        rw (e, q)
        (sym (sets_append dst 0 (floats (material_rows true false m)) (row_floats (power_row m)))
        ∙ sets_whole (floats (material_rows true true m)) dst (rw (e, q) at whole))

pub write_row-requires : goal.write_row-requires
write_row-requires c = let a = c.args in least _ _ _ a.dst.now c.requires

pub returns-then-not-lit : goal.returns-then-not-lit
returns-then-not-lit c =
    let a = c.args in
    rw (c.write_row.ensures, c.from.ensures) (unlit a.lit a.specular a.m a.dst.now c.requires c.if-not-lit.true)

pub write_colors-requires : goal.write_colors-requires
write_colors-requires c =
    let a = c.args in
    least_lit a.lit a.specular a.m a.dst.now c.requires c.if-not-lit.false

pub write_row-requires-then-specular : goal.write_row-requires-then-specular
write_row-requires-then-specular c =
    let a = c.args in
    omega (arith, c.write_colors.auto.dst, least_specular a.lit a.specular a.m a.dst.now c.requires c.if-not-lit.false c.if-specular.true)

pub returns-then-specular : goal.returns-then-specular
unfolding of_bits
returns-then-specular c =
    let a = c.args in
    rw (c.write_row-then-specular.ensures, c.write_colors.ensures) (shiny a.lit a.specular a.m a.dst.now c.requires c.if-not-lit.false c.if-specular.true)

pub returns-else-specular : goal.returns-else-specular
returns-else-specular c =
    let a = c.args in
    rw c.write_colors.ensures (matte a.lit a.specular a.m a.dst.now c.requires c.if-not-lit.false c.if-specular.false)
