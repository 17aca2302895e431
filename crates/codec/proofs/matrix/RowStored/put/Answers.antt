-- Four floats put one behind the other are the `put` of the row's bytes (`puts_are`).
use Rattle.std.proofs.Common.{[], ◌∷◌, refl}
use mathlib.Core.List.{flatten}
use Rattle.codec.specs.Matrix.{row_bytes}
use Rattle.codec.specs.Float.{float_bytes}
use Rattle.codec.specs.Little.{little_bytes}
use Rattle.codec.proofs.Put.{puts_are}
use Rattle.codec.proofs.matrix.RowStored.put.Goals as goal

pub returns : goal.returns
unfolding flatten row_bytes float_bytes little_bytes
returns c =
    let v = c.args.self in
    rw (c.put-4.ensures, c.put-3.ensures, c.put-2.ensures, c.put.ensures)
    (puts_are c.args.from 4 (float_bytes v.x) (float_bytes v.y ∷ float_bytes v.z ∷ float_bytes v.w ∷ []) c.args.dst.now refl c.requires)
