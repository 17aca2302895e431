-- Three floats and a number put one behind the other are the `put` of the states' bytes (`puts_are`).
use Rattle.std.proofs.Common.{[], ◌∷◌, refl}
use mathlib.Core.List.{flatten}
use Rattle.codec.specs.RenderStates.{states_bytes}
use Rattle.codec.specs.Float.{float_bytes}
use Rattle.codec.specs.Little.{little_bytes}
use Rattle.codec.proofs.Put.{puts_are}
use Rattle.codec.proofs.render_states.RenderStatesStored.put.Goals as goal

pub returns : goal.returns
unfolding flatten states_bytes float_bytes little_bytes
returns c =
    let v = c.args.self in
    rw (c.put-4.ensures, c.put-3.ensures, c.put-2.ensures, c.put.ensures)
    (puts_are c.args.from 4 (float_bytes v.fog_start) (float_bytes v.fog_end ∷ float_bytes v.fog_density ∷ little_bytes 4 v.ambient ∷ []) c.args.dst.now refl c.requires)
