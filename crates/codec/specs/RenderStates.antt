-- Fog and the ambient colour, 16 bytes. Document 02, T-05: "in this order: three floats, colour u32".
use Rattle.std.specs.Prelude.{ℕ, ◌+◌}
use mathlib.Core.List.{List, [], ◌∷◌, flatten}
use Rattle.d3d9_types.specs.declared.render_states.RenderStates.{RenderStates}
use Rattle.codec.specs.Little.{little_bytes, number_at}
use Rattle.codec.specs.Float.{float_bytes, float_at}

unfoldable pub states_bytes : RenderStates → List ℕ
states_bytes r = flatten (float_bytes r.fog_start ∷ float_bytes r.fog_end ∷ float_bytes r.fog_density ∷ little_bytes 4 r.ambient ∷ [])

unfoldable pub states_at : List ℕ → ℕ → RenderStates
states_at bytes at =
    record {
      fog_start = float_at bytes at;
      fog_end = float_at bytes (at + 4);
      fog_density = float_at bytes (at + 8);
      ambient = number_at 4 bytes (at + 12);
    }
