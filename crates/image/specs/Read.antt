-- Reading an image. Document 01, 'State image': "Reading refuses 9 for …"; the reasons are image_reasons'.
use Rattle.std.specs.Prelude.{ℕ, cond, List, Result, Ok, Err, codes}
use Rattle.codec.specs.Little.{number_at}
use Rattle.codec.specs.Matrix.{matrix_at}
use Rattle.codec.specs.Material.{material_at}
use Rattle.codec.specs.Light.{light_at}
use Rattle.codec.specs.RenderStates.{states_at}
use Rattle.d3d9_types.specs.declared.light.D3DLIGHT9.{D3DLIGHT9}
use Rattle.ff_state.specs.declared.state.FfState.{FfState}
use Rattle.image_lists.specs.Lists.{list_at}
use Rattle.codec.specs.Entry.{entry_at}
use Rattle.image_lists.specs.Masks.{set_mask, type_mask}
use Rattle.image_reasons.specs.Reasons.{refused}
use Rattle.image.specs.declared.read.NotAnImage.{NotAnImage}

abbrev pub lights_of : List ℕ → List D3DLIGHT9
lights_of bytes = list_at light_at 104 8 bytes 17_092

abbrev pub defined_of : List ℕ → ℕ
defined_of bytes = number_at 1 bytes 17_925

-- the state that the bytes say; the masks of types follow from the lights, and of the texture mask's u32 the low byte is read, as one above 255 is refused
unfoldable pub state_of : List ℕ → FfState
state_of bytes =
    record {
      view = matrix_at bytes 0;
      projection = matrix_at bytes 64;
      world_palette = list_at matrix_at 64 256 bytes 128;
      world_palette_high_water = number_at 2 bytes 17_928;
      texture_transforms = list_at matrix_at 64 8 bytes 16_512;
      material = material_at bytes 17_024;
      lights = lights_of bytes;
      light_enabled = number_at 1 bytes 17_924;
      light_set_mask = set_mask (defined_of bytes) (lights_of bytes);
      light_defined_mask = defined_of bytes;
      light_directional_mask = type_mask 3 (defined_of bytes) (lights_of bytes);
      light_spot_mask = type_mask 2 (defined_of bytes) (lights_of bytes);
      overflow_lights = list_at entry_at 112 56 bytes 17_932;
      overflow_count = number_at 2 bytes 17_930;
      ff_vs_dirty = number_at 1 bytes 17_926;
      render_states = states_at bytes 24_204;
      tt_active_mask = number_at 1 bytes 24_220;
    }

-- the answer, and the state afterwards
pub record ImageRead : Type 0 where
  pub answer : Result Unit NotAnImage
  pub state : FfState

abbrev pub not_an_image : NotAnImage
not_an_image = record {}

abbrev pub not_an_image_text : List ℕ
not_an_image_text = codes "the bytes are no image of a state"

-- what a caller that held s has then: the state read, or s
abbrev pub read_outcome : FfState → Result FfState NotAnImage → ImageRead
read_outcome s (Ok t) = record { answer = Ok tt; state = t }
read_outcome s (Err e) = record { answer = Err e; state = s }

unfoldable pub read_image : FfState → List ℕ → ImageRead
read_image s bytes =
    cond (refused bytes) (record { answer = Err not_an_image; state = s }) (record { answer = Ok tt; state = state_of bytes })

-- document 01's number of each answer
unfoldable pub read_number : Result Unit NotAnImage → ℕ
read_number (Ok u) = 0
read_number (Err e) = 9
