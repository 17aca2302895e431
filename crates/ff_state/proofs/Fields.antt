-- The state's record: a state made of another's fields is that state. Beside specs/State this is the only text of all its fields in `ff_state`.
-- Assumes nothing.
use Prim.Native.Nat.{ℕ}
use mathlib.Core.Path.{◌≡◌}
use mathlib.Core.List.{List}
use Rattle.d3d9_types.specs.declared.matrix.D3DMATRIX.{D3DMATRIX}
use Rattle.d3d9_types.specs.declared.material.D3DMATERIAL9.{D3DMATERIAL9}
use Rattle.d3d9_types.specs.declared.light.D3DLIGHT9.{D3DLIGHT9}
use Rattle.d3d9_types.specs.declared.render_states.RenderStates.{RenderStates}
use Rattle.light_table.specs.declared.entry.OverflowLight.{OverflowLight}
use Rattle.ff_state.specs.State.{dirty_word}
use Rattle.ff_state.specs.declared.state.FfState.{FfState}

pub fields_are : (s : FfState) {view projection : D3DMATRIX} {palette texture : List D3DMATRIX} {material : D3DMATERIAL9} {lights : List D3DLIGHT9} {entries : List OverflowLight}
    {index enabled set defined directional spot count dirty mask : ℕ} {states : RenderStates} → view ≡ s.view → projection ≡ s.projection → palette ≡ s.world_palette → index ≡ s.world_palette_high_water
    → texture ≡ s.texture_transforms → material ≡ s.material → lights ≡ s.lights → enabled ≡ s.light_enabled → set ≡ s.light_set_mask → defined ≡ s.light_defined_mask
    → directional ≡ s.light_directional_mask → spot ≡ s.light_spot_mask → entries ≡ s.overflow_lights → count ≡ s.overflow_count → dirty ≡ dirty_word s
    → states ≡ s.render_states → mask ≡ s.tt_active_mask
    → record {
      view = view;
      projection = projection;
      world_palette = palette;
      world_palette_high_water = index;
      texture_transforms = texture;
      material = material;
      lights = lights;
      light_enabled = enabled;
      light_set_mask = set;
      light_defined_mask = defined;
      light_directional_mask = directional;
      light_spot_mask = spot;
      overflow_lights = entries;
      overflow_count = count;
      ff_vs_dirty = dirty;
      render_states = states;
      tt_active_mask = mask;
    }
    ≡ s
fields_are s a b c d e f g h i j k l m n o p q = rw (a, b, c, d, e, f, g, h, i, j, k, l, m, n, o, p, q)
