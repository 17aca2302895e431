-- The light's parts put one behind the other are the `put` of its bytes (`puts_are`).
use Rattle.std.proofs.Common.{[], ◌∷◌, refl}
use mathlib.Core.List.{flatten}
use Rattle.codec.specs.Light.{light_bytes}
use Rattle.codec.specs.Color.{color_bytes}
use Rattle.codec.specs.Vector.{vector_bytes}
use Rattle.codec.specs.Matrix.{row_bytes}
use Rattle.codec.specs.Float.{float_bytes}
use Rattle.codec.specs.Little.{little_bytes}
use Rattle.codec.proofs.Put.{puts_are}
use Rattle.codec.proofs.light.D3DLIGHT9Stored.put.Goals as goal

pub returns : goal.returns
unfolding flatten light_bytes color_bytes vector_bytes row_bytes float_bytes little_bytes
returns c =
    let v = c.args.self in
    rw (
      c.put-13.ensures,
      c.put-12.ensures,
      c.put-11.ensures,
      c.put-10.ensures,
      c.put-9.ensures,
      c.put-8.ensures,
      c.put-7.ensures,
      c.put-6.ensures,
      c.put-5.ensures,
      c.put-4.ensures,
      c.put-3.ensures,
      c.put-2.ensures,
      c.put.ensures,
    )
    (puts_are c.args.from 4 (little_bytes 4 v.type_) (color_bytes v.diffuse ∷ color_bytes v.specular ∷ color_bytes v.ambient ∷ vector_bytes v.position ∷ vector_bytes v.direction ∷ float_bytes v.range ∷ float_bytes v.falloff ∷ float_bytes v.attenuation0 ∷ float_bytes v.attenuation1 ∷ float_bytes v.attenuation2 ∷ float_bytes v.theta ∷ float_bytes v.phi ∷ []) c.args.dst.now refl c.requires)
