-- The calls on a lent state: document 01's number of the answer, beside the state that the call by value leaves. A refused call leaves the state as it was, since the call by value does.
use Rattle.std.specs.Prelude.{ℕ, Float}
use Rattle.d3d9_types.specs.declared.material.D3DMATERIAL9.{D3DMATERIAL9}
use Rattle.ff_state.specs.Dirty.{mark_ff_vs_dirty, mark_number, take_ff_vs_dirty}
use Rattle.ff_state.specs.Material.{set_material}
use Rattle.ff_state.specs.RenderStates.{set_fog_start, set_fog_end, set_fog_density, set_ambient, set_texture_mask}
use Rattle.ff_state.specs.declared.state.FfState.{FfState}

abbrev pub ff_state_mark_ff_vs_dirty : FfState → ℕ → ℕ × FfState
ff_state_mark_ff_vs_dirty s bits = (mark_number (mark_ff_vs_dirty s bits).answer, (mark_ff_vs_dirty s bits).state)

-- the number, the bits that are lent back, the state
abbrev pub ff_state_take_ff_vs_dirty : FfState → ℕ × ℕ × FfState
ff_state_take_ff_vs_dirty s = (0, (take_ff_vs_dirty s).bits, (take_ff_vs_dirty s).state)

abbrev pub ff_state_set_material : FfState → D3DMATERIAL9 → ℕ × FfState
ff_state_set_material s m = (0, set_material s m)

abbrev pub ff_state_set_fog_start : FfState → Float → ℕ × FfState
ff_state_set_fog_start s x = (0, set_fog_start s x)

abbrev pub ff_state_set_fog_end : FfState → Float → ℕ × FfState
ff_state_set_fog_end s x = (0, set_fog_end s x)

abbrev pub ff_state_set_fog_density : FfState → Float → ℕ × FfState
ff_state_set_fog_density s x = (0, set_fog_density s x)

abbrev pub ff_state_set_ambient : FfState → ℕ → ℕ × FfState
ff_state_set_ambient s c = (0, set_ambient s c)

abbrev pub ff_state_set_texture_mask : FfState → ℕ → ℕ × FfState
ff_state_set_texture_mask s t = (0, set_texture_mask s t)
