-- The calls on lights of docs/INTERFACE.md: 9, then 3 for a full table or 2 for an undefined light, then 4. A light is 104 bytes.
use Rattle.std.specs.Prelude.{ℕ, not, Option, Some, None, List, eqb}
use Rattle.d3d9_types.specs.Light.{default_light}
use Rattle.d3d9_types.specs.declared.light.D3DLIGHT9.{D3DLIGHT9}
use Rattle.codec.specs.Light.{light_at, light_bytes}
use Rattle.light_table.specs.Active.{four_bytes}
use Rattle.light_table.specs.declared.active.LightMasks.{LightMasks}
use Rattle.ff_state.specs.Active.{vs_source_light_inputs, compacted_light_masks}
use Rattle.ff_state.specs.Lights.{set_light_at, set_light_enabled_at, get_light_at, is_light_enabled_at, is_light_defined_at, light_number, light_read_number, flag}
use Rattle.ff_state.specs.Changed.{Changed}
use Rattle.ff_state.specs.declared.lights.TableFull.{TableFull}
use Rattle.calls.specs.Answer.{Answer, length_number}
use Rattle.calls.specs.Call.{Called, called, changing, reading, none}

abbrev pub light_length : List ℕ → ℕ
light_length = length_number 104

abbrev pub light_call : Changed TableFull → Called
light_call c = called (light_number c.answer) c.state

abbrev pub ff_set_light_at : List ℕ → ℕ → List ℕ → Answer (List ℕ)
ff_set_light_at image i l = changing (λ s. light_call (set_light_at s i (light_at l 0))) (light_length l) image

-- "any number but 0 enables"
abbrev pub ff_set_light_enabled_at : List ℕ → ℕ → ℕ → Answer (List ℕ)
ff_set_light_enabled_at image i on = changing (λ s. light_call (set_light_enabled_at s i (not (eqb on 0)))) 0 image

-- a refused read writes no light: beside None none is ever seen
unfoldable pub light_read_light : Option D3DLIGHT9 → D3DLIGHT9
light_read_light (Some l) = l
light_read_light None = default_light

abbrev pub ff_get_light_at : List ℕ → ℕ → List ℕ → Answer (List ℕ)
ff_get_light_at image i out =
    reading (λ s. light_read_number (get_light_at s i)) (λ s. light_bytes (light_read_light (get_light_at s i))) (light_length out) image out

abbrev pub ff_is_light_enabled_at : List ℕ → ℕ → ℕ → Answer ℕ
ff_is_light_enabled_at image i = reading none (λ s. flag (is_light_enabled_at s i)) 0 image

abbrev pub ff_is_light_defined_at : List ℕ → ℕ → ℕ → Answer ℕ
ff_is_light_defined_at image i = reading none (λ s. flag (is_light_defined_at s i)) 0 image

abbrev pub ff_vs_source_light_inputs : List ℕ → ℕ → Answer ℕ
ff_vs_source_light_inputs = reading none vs_source_light_inputs 0

-- "bytes active, directional, spot, 0"
unfoldable pub mask_bytes : LightMasks → ℕ
mask_bytes m = four_bytes m.active m.directional m.spot 0

abbrev pub ff_compacted_light_masks : List ℕ → ℕ → Answer ℕ
ff_compacted_light_masks = reading none (λ s. mask_bytes (compacted_light_masks s)) 0
