-- The state's record: one update for each field; the fresh state, which alone writes all of it out.
-- How odd values read, for every call: an overflow count above 56 is 56; an entry is enabled by any number but 0; masks and dirty bits are read bit by bit as they stand;
-- the highest palette index is taken as it stands; what stands in an undefined slot or an unused entry is not looked at.
use Rattle.std.specs.Prelude.{ℕ, List, replicate}
use Rattle.std.specs.Float.{nan}
use Rattle.d3d9_types.specs.Matrix.{identity}
use Rattle.d3d9_types.specs.Material.{default_material}
use Rattle.d3d9_types.specs.Light.{default_light}
use Rattle.d3d9_types.specs.RenderStates.{fresh_states}
use Rattle.d3d9_types.specs.declared.matrix.Row.{Row}
use Rattle.d3d9_types.specs.declared.matrix.D3DMATRIX.{D3DMATRIX}
use Rattle.d3d9_types.specs.declared.material.D3DMATERIAL9.{D3DMATERIAL9}
use Rattle.d3d9_types.specs.declared.light.D3DLIGHT9.{D3DLIGHT9}
use Rattle.d3d9_types.specs.declared.render_states.RenderStates.{RenderStates}
use Rattle.light_table.specs.Entry.{zero_entry}
use Rattle.sections.specs.Sections.{all_bits}
use Rattle.ff_state.specs.declared.state.FfState.{FfState}
use Rattle.light_table.specs.declared.entry.OverflowLight.{OverflowLight}

abbrev pub with_view : FfState → D3DMATRIX → FfState
with_view s x = record s { view = x }

abbrev pub with_projection : FfState → D3DMATRIX → FfState
with_projection s x = record s { projection = x }

abbrev pub with_world_palette : FfState → List D3DMATRIX → FfState
with_world_palette s x = record s { world_palette = x }

abbrev pub with_world_palette_high_water : FfState → ℕ → FfState
with_world_palette_high_water s x = record s { world_palette_high_water = x }

abbrev pub with_texture_transforms : FfState → List D3DMATRIX → FfState
with_texture_transforms s x = record s { texture_transforms = x }

abbrev pub with_material : FfState → D3DMATERIAL9 → FfState
with_material s x = record s { material = x }

abbrev pub with_lights : FfState → List D3DLIGHT9 → FfState
with_lights s x = record s { lights = x }

abbrev pub with_light_enabled : FfState → ℕ → FfState
with_light_enabled s x = record s { light_enabled = x }

abbrev pub with_light_set_mask : FfState → ℕ → FfState
with_light_set_mask s x = record s { light_set_mask = x }

abbrev pub with_light_defined_mask : FfState → ℕ → FfState
with_light_defined_mask s x = record s { light_defined_mask = x }

abbrev pub with_light_directional_mask : FfState → ℕ → FfState
with_light_directional_mask s x = record s { light_directional_mask = x }

abbrev pub with_light_spot_mask : FfState → ℕ → FfState
with_light_spot_mask s x = record s { light_spot_mask = x }

abbrev pub with_overflow_lights : FfState → List OverflowLight → FfState
with_overflow_lights s x = record s { overflow_lights = x }

abbrev pub with_overflow_count : FfState → ℕ → FfState
with_overflow_count s x = record s { overflow_count = x }

abbrev pub with_ff_vs_dirty : FfState → ℕ → FfState
with_ff_vs_dirty s x = record s { ff_vs_dirty = x }

abbrev pub with_render_states : FfState → RenderStates → FfState
with_render_states s x = record s { render_states = x }

abbrev pub with_tt_active_mask : FfState → ℕ → FfState
with_tt_active_mask s x = record s { tt_active_mask = x }

-- the dirty bits, by section
abbrev pub dirty_word : FfState → ℕ
dirty_word s = s.ff_vs_dirty

-- What the language gives past the end of an array of matrices. No array of a state is shorter than its indices, so it is never read.
abbrev pub no_matrix : D3DMATRIX
no_matrix = let r : Row = record { x = nan; y = nan; z = nan; w = nan } in record { r0 = r; r1 = r; r2 = r; r3 = r }

-- Document 01: identities, the default material, no light, every bit dirty (ff_state.rs 258–300). Undefined slots hold the default light. Document 02, T-05: "A fresh state has zeros and all eight bits."
unfoldable pub fresh_state : FfState
fresh_state =
    record {
      view = identity;
      projection = identity;
      world_palette = replicate 256 identity;
      world_palette_high_water = 0;
      texture_transforms = replicate 8 identity;
      material = default_material;
      lights = replicate 8 default_light;
      light_enabled = 0;
      light_set_mask = 0;
      light_defined_mask = 0;
      light_directional_mask = 0;
      light_spot_mask = 0;
      overflow_lights = replicate 56 zero_entry;
      overflow_count = 0;
      ff_vs_dirty = all_bits;
      render_states = fresh_states;
      tt_active_mask = 0;
    }
