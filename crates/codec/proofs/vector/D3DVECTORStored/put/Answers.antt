-- Three floats put one behind the other are the `put` of the vector's bytes (`puts_are`).
use Rattle.std.proofs.Common.{[], ◌∷◌, refl}
use mathlib.Core.List.{flatten}
use Rattle.codec.specs.Vector.{vector_bytes}
use Rattle.codec.specs.Float.{float_bytes}
use Rattle.codec.specs.Little.{little_bytes}
use Rattle.codec.proofs.Put.{puts_are}
use Rattle.codec.proofs.vector.D3DVECTORStored.put.Goals as goal

pub returns : goal.returns
unfolding flatten vector_bytes float_bytes little_bytes
returns c =
    let v = c.args.self in
    rw (c.put-3.ensures, c.put-2.ensures, c.put.ensures)
    (puts_are c.args.from 4 (float_bytes v.x) (float_bytes v.y ∷ float_bytes v.z ∷ []) c.args.dst.now refl c.requires)
