-- The state image. Document 01, 'State image', and document 02, T-05; its fields in its order, at its places.
use Rattle.std.specs.Prelude.{ℕ, ◌≡◌, List, [], ◌∷◌, length}
use Rattle.codec.specs.Little.{little_bytes}
use Rattle.codec.specs.Matrix.{matrix_bytes}
use Rattle.codec.specs.Material.{material_bytes}
use Rattle.codec.specs.Light.{light_bytes}
use Rattle.codec.specs.RenderStates.{states_bytes}
use Rattle.ff_state.specs.State.{dirty_word}
use Rattle.ff_state.specs.declared.state.FfState.{FfState}
use Rattle.image_lists.specs.Lists.{list_bytes}
use Rattle.codec.specs.Entry.{entry_bytes}
use Rattle.image.specs.Table.{Field, field, table_bytes}

-- Each number as it stands, odd ones too. The masks of types are not written: they follow from the lights.
unfoldable pub image_table : FfState → List Field
image_table s =
    field 0 (matrix_bytes s.view)
    ∷ field 64 (matrix_bytes s.projection)
    ∷ field 128 (list_bytes matrix_bytes s.world_palette)
    ∷ field 16_512 (list_bytes matrix_bytes s.texture_transforms)
    ∷ field 17_024 (material_bytes s.material)
    ∷ field 17_092 (list_bytes light_bytes s.lights)
    ∷ field 17_924 (little_bytes 1 s.light_enabled)
    ∷ field 17_925 (little_bytes 1 s.light_defined_mask)
    ∷ field 17_926 (little_bytes 1 (dirty_word s))
    ∷ field 17_927 (little_bytes 1 0)
    ∷ field 17_928 (little_bytes 2 s.world_palette_high_water)
    ∷ field 17_930 (little_bytes 2 s.overflow_count)
    ∷ field 17_932 (list_bytes entry_bytes s.overflow_lights)
    ∷ field 24_204 (states_bytes s.render_states)
    ∷ field 24_220 (little_bytes 4 s.tt_active_mask)
    ∷ []

unfoldable pub image_bytes : FfState → List ℕ
image_bytes s = table_bytes (image_table s)

-- the lengths that the record's arrays have
pub record Sized (s : FfState) : Type 0 where
  pub palette : length s.world_palette ≡ 256
  pub texture : length s.texture_transforms ≡ 8
  pub lights : length s.lights ≡ 8
  pub overflow : length s.overflow_lights ≡ 56
