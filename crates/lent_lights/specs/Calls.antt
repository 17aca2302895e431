-- The calls on the lights of a lent state: document 01's number of the answer, beside the state that the call by value leaves, or the number that is lent back.
use Rattle.std.specs.Prelude.{ℕ, not, eqb}
use Rattle.d3d9_types.specs.declared.light.D3DLIGHT9.{D3DLIGHT9}
use Rattle.ff_state.specs.Active.{vs_source_light_inputs}
use Rattle.ff_state.specs.Lights.{set_light_at, set_light_enabled_at, light_number}
use Rattle.ff_state.specs.declared.state.FfState.{FfState}

abbrev pub ff_state_set_light_at : FfState → ℕ → D3DLIGHT9 → ℕ × FfState
ff_state_set_light_at s i l = (light_number (set_light_at s i l).answer, (set_light_at s i l).state)

-- docs/INTERFACE.md: "any number but 0 enables"
abbrev pub ff_state_set_light_enabled_at : FfState → ℕ → ℕ → ℕ × FfState
ff_state_set_light_enabled_at s i on = (light_number (set_light_enabled_at s i (not (eqb on 0))).answer, (set_light_enabled_at s i (not (eqb on 0))).state)

-- the number, and what is lent back
abbrev pub ff_state_vs_source_light_inputs : FfState → ℕ × ℕ
ff_state_vs_source_light_inputs s = (0, vs_source_light_inputs s)
