-- Four rows put one behind the other are the `put` of the matrix's bytes (`puts_are`).
use Rattle.std.proofs.Common.{[], ◌∷◌, refl}
use mathlib.Core.List.{flatten}
use Rattle.codec.specs.Matrix.{matrix_bytes, row_bytes}
use Rattle.codec.specs.Float.{float_bytes}
use Rattle.codec.specs.Little.{little_bytes}
use Rattle.codec.proofs.Put.{puts_are}
use Rattle.codec.proofs.matrix.D3DMATRIXStored.put.Goals as goal

pub returns : goal.returns
unfolding flatten matrix_bytes row_bytes float_bytes little_bytes
returns c =
    let v = c.args.self in
    rw (c.put-4.ensures, c.put-3.ensures, c.put-2.ensures, c.put.ensures)
    (puts_are c.args.from 16 (row_bytes v.r0) (row_bytes v.r1 ∷ row_bytes v.r2 ∷ row_bytes v.r3 ∷ []) c.args.dst.now refl c.requires)
