-- Fog, the ambient colour and the texture mask. Document 02, T-05: "fog's dirty FOG, the colour's AMBIENT", "the mask's setter dirties TT".
use Rattle.std.specs.Prelude.{ℕ, Float}
use Rattle.d3d9_types.specs.RenderStates.{with_fog_start, with_fog_end, with_fog_density, with_ambient}
use Rattle.sections.specs.Sections.{bit_of}
use Rattle.sections.specs.declared.sections.Section.TheVariants.{Tt, Fog, Ambient}
use Rattle.ff_state.specs.State.{with_render_states, with_tt_active_mask}
use Rattle.ff_state.specs.Dirty.{dirtied}
use Rattle.ff_state.specs.declared.state.FfState.{FfState}

unfoldable pub set_fog_start : FfState → Float → FfState
set_fog_start s x = dirtied (with_render_states s (with_fog_start s.render_states x)) (bit_of Fog)

unfoldable pub set_fog_end : FfState → Float → FfState
set_fog_end s x = dirtied (with_render_states s (with_fog_end s.render_states x)) (bit_of Fog)

unfoldable pub set_fog_density : FfState → Float → FfState
set_fog_density s x = dirtied (with_render_states s (with_fog_density s.render_states x)) (bit_of Fog)

unfoldable pub set_ambient : FfState → ℕ → FfState
set_ambient s c = dirtied (with_render_states s (with_ambient s.render_states c)) (bit_of Ambient)

unfoldable pub set_texture_mask : FfState → ℕ → FfState
set_texture_mask s t = dirtied (with_tt_active_mask s t) (bit_of Tt)
