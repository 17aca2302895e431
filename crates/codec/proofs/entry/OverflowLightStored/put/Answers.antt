-- Two numbers and a light put one behind the other are the `put` of the entry's bytes (`puts_are`).
use Rattle.std.proofs.Common.{[], ◌∷◌, refl}
use mathlib.Core.List.{flatten}
use Rattle.codec.specs.Little.{little_bytes}
use Rattle.codec.specs.Float.{float_bytes}
use Rattle.codec.specs.Matrix.{row_bytes}
use Rattle.codec.specs.Color.{color_bytes}
use Rattle.codec.specs.Vector.{vector_bytes}
use Rattle.codec.specs.Light.{light_bytes}
use Rattle.codec.specs.Entry.{entry_bytes}
use Rattle.codec.proofs.Put.{puts_are}
use Rattle.codec.proofs.entry.OverflowLightStored.put.Goals as goal

pub returns : goal.returns
unfolding flatten entry_bytes light_bytes color_bytes vector_bytes row_bytes float_bytes little_bytes
returns c =
    let v = c.args.self in
    rw (c.put-3.ensures, c.put-2.ensures, c.put.ensures)
    (puts_are c.args.from 4 (little_bytes 4 v.index) (little_bytes 4 v.enabled ∷ light_bytes v.light ∷ []) c.args.dst.now refl c.requires)
