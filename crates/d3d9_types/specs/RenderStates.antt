-- Fog and the ambient colour: one update for each, the fresh ones, and those that a program can hold. Document 02, T-05.
use Rattle.std.specs.Prelude.{ℕ, ◌<◌, Float}
use Rattle.d3d9_types.specs.Numbers.{zero, float_fits}
use Rattle.d3d9_types.specs.declared.render_states.RenderStates.{RenderStates}

-- "A fresh state has zeros"
abbrev pub fresh_states : RenderStates
fresh_states = record { fog_start = zero; fog_end = zero; fog_density = zero; ambient = 0 }

abbrev pub with_fog_start : RenderStates → Float → RenderStates
with_fog_start r x = record r { fog_start = x }

abbrev pub with_fog_end : RenderStates → Float → RenderStates
with_fog_end r x = record r { fog_end = x }

abbrev pub with_fog_density : RenderStates → Float → RenderStates
with_fog_density r x = record r { fog_density = x }

abbrev pub with_ambient : RenderStates → ℕ → RenderStates
with_ambient r x = record r { ambient = x }

pub record statesFit (r : RenderStates) : Type 0 where
  pub fog_start : float_fits r.fog_start
  pub fog_end : float_fits r.fog_end
  pub fog_density : float_fits r.fog_density
  pub ambient : r.ambient < 0x1_0000_0000
