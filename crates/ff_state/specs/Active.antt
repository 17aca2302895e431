-- The active lights of a state. Document 01: "Compaction: active slots 0 to 7 ascending, then active overflow lights by ascending index, eight at most." (ff_state.rs 533–665)
use Rattle.std.specs.Prelude.{ℕ, cond, List, ◌++◌, eqb, take}
use Rattle.std.specs.Int.Bits.{bit_and}
use Rattle.d3d9_types.specs.declared.light.D3DLIGHT9.{D3DLIGHT9}
use Rattle.light_table.specs.Active.{active_slots, active_overflow, listed, masks_of, four_bytes}
use Rattle.light_table.specs.declared.active.ActiveLights.{ActiveLights}
use Rattle.light_table.specs.declared.active.LightMasks.{LightMasks}
use Rattle.ff_state.specs.Overflow.{used}
use Rattle.ff_state.specs.declared.state.FfState.{FfState}

-- "active": the raw slots
unfoldable pub light_active_mask : FfState → ℕ
light_active_mask s = bit_and s.light_set_mask s.light_enabled

unfoldable pub active_lights : FfState → List D3DLIGHT9
active_lights s = active_slots (light_active_mask s) s.lights ++ active_overflow (used s)

unfoldable pub resolve_active_lights : FfState → ℕ → ActiveLights
resolve_active_lights s limit = listed limit (active_lights s)

unfoldable pub compacted_light_masks : FfState → LightMasks
compacted_light_masks s = masks_of (take 8 (active_lights s))

-- "bytes active, directional, spot, 0 of the raw slots while no overflow light is stored; else the compacted three and 1"; directional and spot of active slots alone
unfoldable pub vs_source_light_inputs : FfState → ℕ
vs_source_light_inputs s =
    let a = light_active_mask s in
    let c = compacted_light_masks s in
    cond (eqb s.overflow_count 0)
    (four_bytes a (bit_and s.light_directional_mask a) (bit_and s.light_spot_mask a) 0)
    (four_bytes c.active c.directional c.spot 1)
