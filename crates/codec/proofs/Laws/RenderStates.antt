-- Render states that fit come back from their bytes, and what is read from bytes are such.
use Prim.Native.Nat.{ℕ, ◌+◌}
use native.Mathlib.Nat.{add_assoc}
use mathlib.Core.Path.{◌≡◌}
use mathlib.Core.List.{List, flatten}
use Rattle.d3d9_types.specs.RenderStates.{statesFit}
use Rattle.d3d9_types.specs.declared.render_states.RenderStates.{RenderStates}
use Rattle.codec.specs.Little.{little_bytes, little_number, Bytes}
use Rattle.codec.specs.Float.{float_bytes, float_at}
use Rattle.codec.specs.RenderStates.{states_bytes, states_at}
use Rattle.codec.proofs.Inside.{Skips, Starts}
use Rattle.codec.proofs.Laws.Little.{little_number-little_bytes, number_at_skips, number_at_lt}
use Rattle.codec.proofs.Laws.Float.{again, again_is, float_at_skips, float_at_fits}
pub use Rattle.codec.specs.Sizes.{length-states_bytes}

pub states_at_skips : Skips states_at
unfolding states_at
states_at_skips p q n = simp (add_assoc, float_at_skips, number_at_skips)

again_is_it : {r : RenderStates} → statesFit r
    → record {
      fog_start = again r.fog_start;
      fog_end = again r.fog_end;
      fog_density = again r.fog_density;
      ambient = little_number (little_bytes 4 r.ambient);
    }
    ≡ r
again_is_it {r} h =
    rw (again_is h.fog_start, again_is h.fog_end, again_is h.fog_density, little_number-little_bytes 4 r.ambient h.ambient)

pub states_at_starts : {r : RenderStates} → statesFit r → Starts states_at (states_bytes r) r
unfolding states_at states_bytes flatten float_at float_bytes little_bytes
states_at_starts h rest = again_is_it h

pub states_at_fits : (bytes : List ℕ) (at : ℕ) → Bytes bytes → statesFit (states_at bytes at)
unfolding states_at
states_at_fits bytes at b =
    record { fog_start = float_at_fits bytes _; fog_end = float_at_fits bytes _; fog_density = float_at_fits bytes _; ambient = number_at_lt 4 bytes (at + 12) b }
