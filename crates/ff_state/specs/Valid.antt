-- What holds of every state that the calls make from the fresh one, and of every state that an image holds. Document 01, 'State image'; ff_state.rs 149–248.
use Rattle.std.specs.Prelude.{ℕ, ◌-◌, ◌≤◌, ◌<◌, ◌≡◌, true, false, ◌&&◌, List, eqb, length, drop, get_or, replicate}
use Rattle.d3d9_types.specs.Light.{default_light, lightFits}
use Rattle.d3d9_types.specs.Matrix.{matrixFits}
use Rattle.d3d9_types.specs.Material.{materialFits}
use Rattle.d3d9_types.specs.RenderStates.{statesFit}
use Rattle.d3d9_types.specs.declared.light.D3DLIGHT9.{D3DLIGHT9}
use Rattle.d3d9_types.specs.declared.material.D3DMATERIAL9.{D3DMATERIAL9}
use Rattle.d3d9_types.specs.declared.matrix.D3DMATRIX.{D3DMATRIX}
use Rattle.light_table.specs.declared.entry.OverflowLight.{OverflowLight}
use Rattle.sections.specs.Sections.{all_bits}
use Rattle.words.specs.Bits.{has_bit}
use Rattle.light_table.specs.Entry.{zero_entry}
use Rattle.ff_state.specs.State.{no_matrix, dirty_word}
use Rattle.light_table.specs.Kinds.{contributes}
use Rattle.ff_state.specs.Overflow.{used_entries}
use Rattle.light_table.specs.Overflow.{ascending}
use Rattle.ff_state.specs.declared.state.FfState.{FfState}

-- the light in a slot
abbrev pub slot_light : FfState → ℕ → D3DLIGHT9
slot_light s i = get_or s.lights i default_light

-- Each part speaks of the fields that it is over: a call that leaves those leaves the part.

-- the slots and their masks
pub record SlotsValid (lights : List D3DLIGHT9) (enabled set defined directional spot : ℕ) : Type 0 where
  pub enabled_width : enabled < 256
  pub set_width : set < 256
  pub defined_width : defined < 256
  pub directional_width : directional < 256
  pub spot_width : spot < 256
  pub enabled_defined : (i : ℕ) → i < 8 → has_bit enabled i ≡ true → has_bit defined i ≡ true
  pub undefined_default : (i : ℕ) → i < 8 → has_bit defined i ≡ false → get_or lights i default_light ≡ default_light
  pub set-mask : (i : ℕ) → i < 8 → has_bit set i ≡ (has_bit defined i && contributes (get_or lights i default_light).type_)
  pub directional_mask : (i : ℕ) → i < 8 → has_bit directional i ≡ (has_bit defined i && eqb (get_or lights i default_light).type_ 3)
  pub spot_mask : (i : ℕ) → i < 8 → has_bit spot i ≡ (has_bit defined i && eqb (get_or lights i default_light).type_ 2)

-- the overflow entries: ascending from 8, each on or off, and the unused ones zero
pub record OverflowValid (entries : List OverflowLight) (n : ℕ) : Type 0 where
  pub count : n ≤ 56
  pub sorted : ascending 8 (used_entries entries n) ≡ true
  pub flags : (k : ℕ) → k < n → (get_or entries k zero_entry).enabled ≤ 1
  pub indices : (k : ℕ) → k < n → (get_or entries k zero_entry).index < 0x1_0000_0000
  pub unused : drop n entries ≡ replicate (56 - n) zero_entry

-- every float is an f32 value
pub record FloatsValid (v p : D3DMATRIX) (world textures : List D3DMATRIX) (m : D3DMATERIAL9) (slots : List D3DLIGHT9) (entries : List OverflowLight) : Type 0 where
  pub view : matrixFits v
  pub projection : matrixFits p
  pub palette : (i : ℕ) → i < 256 → matrixFits (get_or world i no_matrix)
  pub texture : (i : ℕ) → i < 8 → matrixFits (get_or textures i no_matrix)
  pub material : materialFits m
  pub lights : (i : ℕ) → i < 8 → lightFits (get_or slots i default_light)
  pub overflow : (k : ℕ) → k < 56 → lightFits (get_or entries k zero_entry).light

pub record Valid (s : FfState) : Type 0 where
  pub palette_length : length s.world_palette ≡ 256
  pub texture_length : length s.texture_transforms ≡ 8
  pub lights_length : length s.lights ≡ 8
  pub overflow_length : length s.overflow_lights ≡ 56
  pub high_water : s.world_palette_high_water ≤ 255
  pub dirty : dirty_word s ≤ all_bits
  pub slots : SlotsValid s.lights s.light_enabled s.light_set_mask s.light_defined_mask s.light_directional_mask s.light_spot_mask
  pub overflow : OverflowValid s.overflow_lights s.overflow_count
  pub states : statesFit s.render_states
  pub texture-mask : s.tt_active_mask < 256
  pub floats : FloatsValid s.view s.projection s.world_palette s.texture_transforms s.material s.lights s.overflow_lights
