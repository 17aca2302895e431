-- Four colours and a float put one behind the other are the `put` of the material's bytes (`puts_are`).
use Rattle.std.proofs.Common.{[], ◌∷◌, refl}
use mathlib.Core.List.{flatten}
use Rattle.codec.specs.Material.{material_bytes}
use Rattle.codec.specs.Color.{color_bytes}
use Rattle.codec.specs.Matrix.{row_bytes}
use Rattle.codec.specs.Float.{float_bytes}
use Rattle.codec.specs.Little.{little_bytes}
use Rattle.codec.proofs.Put.{puts_are}
use Rattle.codec.proofs.material.D3DMATERIAL9Stored.put.Goals as goal

pub returns : goal.returns
unfolding flatten material_bytes color_bytes row_bytes float_bytes little_bytes
returns c =
    let v = c.args.self in
    rw (c.put-5.ensures, c.put-4.ensures, c.put-3.ensures, c.put-2.ensures, c.put.ensures)
    (puts_are c.args.from 16 (color_bytes v.diffuse) (color_bytes v.ambient ∷ color_bytes v.specular ∷ color_bytes v.emissive ∷ float_bytes v.power ∷ []) c.args.dst.now refl c.requires)
