-- Document 01, 'Cases': P7 and P8, as tests. "States start fresh".
use Rattle.std.specs.Prelude.{ℕ, Bool, true, false, ◌&&◌, eqb}
use Rattle.d3d9_types.specs.Light.{default_light}
use Rattle.d3d9_types.specs.Matrix.{identity}
use Rattle.d3d9_types.specs.declared.light.D3DLIGHT9.{D3DLIGHT9}
use Rattle.ff_state.specs.State.{fresh_state}
use Rattle.ff_state.specs.Transforms.{set_transform, transform_number}
use Rattle.ff_state.specs.Lights.{set_light_at, set_light_enabled_at}
use Rattle.ff_state.specs.Active.{vs_source_light_inputs}
use Rattle.ff_state.specs.declared.state.FfState.{FfState}

-- a light of a type
abbrev pub light_of : ℕ → D3DLIGHT9
light_of t = record default_light { type_ = t }

-- a light set and enabled
abbrev pub lit : FfState → ℕ → ℕ → FfState
lit s i t = (set_light_enabled_at (set_light_at s i (light_of t)).state i true).state

-- "P7 enabled directional 0 and spot 3: 0x00080109; with enabled point 9: 0x01020107; 9 disabled: 0x01020103."
unfoldable pub p7 : Bool
p7 =
    let two = lit (lit fresh_state 0 3) 3 2 in
    let three = lit two 9 1 in
    eqb (vs_source_light_inputs two) 0x00080109
    && eqb (vs_source_light_inputs three) 0x01020107
    && eqb (vs_source_light_inputs (set_light_enabled_at three 9 false).state) 0x01020103

abbrev set_number : ℕ → ℕ
set_number n = transform_number (set_transform fresh_state n identity).answer

-- "P8 state 15 refused 1, 16 taken; 511 taken, 512 refused."
unfoldable pub p8 : Bool
p8 = eqb (set_number 15) 1 && eqb (set_number 16) 0 && eqb (set_number 511) 0 && eqb (set_number 512) 1
