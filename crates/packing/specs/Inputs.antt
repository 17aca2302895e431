-- The rows of a section over what they depend on. Document 01, 'Rows of a section'; document 02, T-05.
use Rattle.std.specs.Prelude.{ℕ, Bool, true, cond, ◌||◌, List, [], eqb, get_or, take}
use Rattle.d3d9_types.specs.declared.matrix.Row.{Row}
use Rattle.d3d9_types.specs.declared.matrix.D3DMATRIX.{D3DMATRIX}
use Rattle.d3d9_types.specs.declared.material.D3DMATERIAL9.{D3DMATERIAL9}
use Rattle.d3d9_types.specs.declared.light.D3DLIGHT9.{D3DLIGHT9}
use Rattle.d3d9_types.specs.declared.render_states.RenderStates.{RenderStates}
use Rattle.light_table.specs.Active.{masks_of}
use Rattle.ff_state.specs.State.{no_matrix}
use Rattle.ff_state.specs.Active.{active_lights}
use Rattle.sections.specs.declared.sections.Section.{Section}
use Rattle.sections.specs.declared.sections.Section.TheVariants.{Wv, Proj, Material, Lights, Palette, Tt, Fog, Ambient}
use Rattle.ff_state.specs.declared.state.FfState.{FfState}
use Rattle.rows.specs.Matrices.{projection_rows, world_view_rows, palette_rows, texture_rows}
use Rattle.rows.specs.Material.{material_rows}
use Rattle.rows.specs.Fog.{fog_rows}
use Rattle.rows.specs.Ambient.{ambient_rows}
use Rattle.light_rows.specs.Light.{lights_rows}
use Rattle.sections.specs.Counts.{palette_matrices}
use Rattle.sections.specs.Key.{light_limit}
use Rattle.sections.specs.declared.key.FfVsKey.{FfVsKey}

pub record Inputs : Type 0 where
  pub view : D3DMATRIX
  pub projection : D3DMATRIX
  -- 256 world matrices
  pub palette : List D3DMATRIX
  pub material : D3DMATERIAL9
  -- the active lights, by ascending index
  pub lights : List D3DLIGHT9
  -- eight texture matrices, and the texture stages that are transformed
  pub textures : List D3DMATRIX
  pub texture_mask : ℕ
  -- fog and the ambient colour
  pub render_states : RenderStates

-- The lights that are packed under a key. Document 02, T-01: "The preview list is the first four of the full one".
abbrev pub packed_lights : FfVsKey → Inputs → List D3DLIGHT9
packed_lights k i = take (light_limit k) i.lights

-- a mask of 0 packs no light, and a texture mask of 0 no texture matrix
unfoldable pub packed_rows : Section → FfVsKey → Inputs → List Row
packed_rows Wv k i = world_view_rows i.view (get_or i.palette 0 no_matrix)
packed_rows Proj k i = projection_rows i.projection
packed_rows Material k i = material_rows k.lighting_enabled k.specular_enable i.material
packed_rows Lights k i = cond (eqb k.light_active_mask 0) [] (lights_rows i.view (packed_lights k i))
packed_rows Palette k i = palette_rows i.view (take (palette_matrices k) i.palette)
packed_rows Tt k i = texture_rows i.texture_mask i.textures
packed_rows Fog k i = fog_rows k.fog_mode i.render_states.fog_start i.render_states.fog_end i.render_states.fog_density
packed_rows Ambient k i = ambient_rows i.render_states.ambient

-- refused 5: "the light mask is not 0 and is not the compacted active mask", which is "the mask under the caller's limit" (document 02, T-01); only the lights' section looks at it
unfoldable pub mask_accepted : Section → FfVsKey → Inputs → Bool
mask_accepted Lights k i = eqb k.light_active_mask 0 || eqb k.light_active_mask (masks_of (packed_lights k i)).active
mask_accepted Wv k i = true
mask_accepted Proj k i = true
mask_accepted Material k i = true
mask_accepted Palette k i = true
mask_accepted Tt k i = true
mask_accepted Fog k i = true
mask_accepted Ambient k i = true

abbrev pub inputs_of : FfState → Inputs
inputs_of s =
    record {
      view = s.view;
      projection = s.projection;
      palette = s.world_palette;
      material = s.material;
      lights = active_lights s;
      textures = s.texture_transforms;
      texture_mask = s.tt_active_mask;
      render_states = s.render_states;
    }
