-- The table of a state's fields tiles: each place is the sum of the lengths before it, and the last field ends the image.
-- Assumes nothing.
use native.Mathlib.Nat.{zero-add}
use mathlib.Core.Path.{◌≡◌, refl, sym, ◌∙◌}
use mathlib.Core.List.{[]}
use lib.ListN.{length}
use Rattle.codec.specs.Matrix.{matrix_bytes}
use Rattle.codec.specs.Light.{light_bytes}
use Rattle.codec.proofs.Laws.Little.{length-little_bytes}
use Rattle.codec.proofs.Laws.Matrix.{length-matrix_bytes}
use Rattle.codec.proofs.Laws.Material.{length-material_bytes}
use Rattle.codec.proofs.Laws.Light.{length-light_bytes}
use Rattle.codec.proofs.Laws.RenderStates.{length-states_bytes}
use Rattle.ff_state.specs.State.{dirty_word}
use Rattle.ff_state.specs.declared.state.FfState.{FfState}
use Rattle.ff_state.specs.Valid.{Valid}
use Rattle.codec.specs.Entry.{entry_bytes}
use Rattle.image_reasons.specs.Length.{image_length}
use Rattle.codec.proofs.Laws.Entry.{length-entry_bytes}
use Rattle.image.specs.Table.{Tiles}
use Rattle.image.specs.Format.{image_table, image_bytes, Sized}
use Rattle.image_lists.proofs.Writing.{length_list_bytes}
use Rattle.image.proofs.Held.{AllHold, tiles_hold}
use Rattle.image.proofs.Table.{length-table_bytes}

module _ (s : FfState) (z : Sized s) where
  pub image_tiles : Tiles 0 (image_table s) image_length
  unfolding image_table
  image_tiles =
      rw (
        length-matrix_bytes s.view,
        length-matrix_bytes s.projection,
        length_list_bytes matrix_bytes 64 length-matrix_bytes s.world_palette,
        z.palette,
        length_list_bytes matrix_bytes 64 length-matrix_bytes s.texture_transforms,
        z.texture,
        length-material_bytes s.material,
        length_list_bytes light_bytes 104 length-light_bytes s.lights,
        z.lights,
        length-little_bytes 1 s.light_enabled,
        length-little_bytes 1 s.light_defined_mask,
        length-little_bytes 1 (dirty_word s),
        length-little_bytes 1 0,
        length-little_bytes 2 s.world_palette_high_water,
        length-little_bytes 2 s.overflow_count,
        length_list_bytes entry_bytes 112 length-entry_bytes s.overflow_lights,
        z.overflow,
        length-states_bytes s.render_states,
        length-little_bytes 4 s.tt_active_mask,
      )
      (refl, (refl, (refl, (refl, (refl, (refl, (refl, (refl, (refl, (refl, (refl, (refl, (refl, (refl, (refl, refl)))))))))))))))

  pub length_image_bytes : length (image_bytes s) ≡ image_length
  unfolding image_bytes
  length_image_bytes = sym (zero-add (length (image_bytes s))) ∙ length-table_bytes 0 image_length (image_table s) image_tiles

  -- each field's bytes stand at its place
  pub image_holds : AllHold (image_bytes s) (image_table s)
  unfolding image_bytes
  image_holds = tiles_hold 0 image_length (image_table s) [] refl image_tiles

pub valid_sized : {s : FfState} → Valid s → Sized s
valid_sized v =
    record { palette = v.palette_length; texture = v.texture_length; lights = v.lights_length; overflow = v.overflow_length }
