-- The abstract state that an image holds, from its bytes alone: document 01's "plain book" after "An image read in replaces all". The places are those of 'State image'.
-- Nothing here knows how the code lays out a state.
use Rattle.std.specs.Prelude.{ℕ, ◌+◌, ◌-◌, ◌*◌, Bool, cond, not, ◌&&◌, List, [], ◌∷◌, ◌++◌, leb, eqb}
use Rattle.d3d9_types.specs.Matrix.{identity}
use Rattle.d3d9_types.specs.declared.matrix.D3DMATRIX.{D3DMATRIX}
use Rattle.d3d9_types.specs.declared.render_states.RenderStates.{RenderStates}
use Rattle.codec.specs.Little.{number_at}
use Rattle.codec.specs.Float.{float_at}
use Rattle.codec.specs.Matrix.{matrix_at}
use Rattle.codec.specs.Material.{material_at}
use Rattle.codec.specs.Light as Codec
use Rattle.words.specs.Bits.{has_bit}
use Rattle.d3d9_model.specs.State.{AbstractState, AbstractLight}
use Rattle.d3d9_model.specs.Lights.{indexed_light}
use Rattle.image_lists.specs.Lists.{list_at}
use Rattle.image_reasons.specs.Reasons.{count_of, refused}

-- "view 0, projection 64, palette 128, texture 16,512", by state number: "state 2 view, 3 projection, 16 to 23 texture, 256 to 511 palette". No other number has a matrix; the fresh book's stands there.
unfoldable pub image_matrix : List ℕ → ℕ → D3DMATRIX
image_matrix bytes n =
    cond (eqb n 2) (matrix_at bytes 0)
    (cond (eqb n 3) (matrix_at bytes 64)
    (cond (leb 16 n && leb n 23) (matrix_at bytes (16_512 + 64 * (n - 16)))
    (cond (leb 256 n && leb n 511) (matrix_at bytes (128 + 64 * (n - 256)))
    identity)))

-- "lights 17,092, enabled byte 17,924, defined byte 17,925": whether slot i is defined, and its light
abbrev pub image_slot_defined : List ℕ → ℕ → Bool
image_slot_defined bytes i = has_bit (number_at 1 bytes 17_925) i

abbrev pub image_slot_light : List ℕ → ℕ → AbstractLight
image_slot_light bytes i = indexed_light i (has_bit (number_at 1 bytes 17_924) i) (Codec.light_at bytes (17_092 + 104 * i))

-- of some indices, the lights of those that are defined
unfoldable pub defined_among : (ℕ → Bool) → (ℕ → AbstractLight) → List ℕ → List AbstractLight
defined_among defined light [] = []
defined_among defined light (i ∷ is) = cond (defined i) (light i ∷ defined_among defined light is) (defined_among defined light is)

-- an entry "of index u32, enable u32, light"
unfoldable pub entry_light : List ℕ → ℕ → AbstractLight
entry_light bytes at = indexed_light (number_at 4 bytes at) (not (eqb (number_at 4 bytes (at + 4)) 0)) (Codec.light_at bytes (at + 8))

-- the defined slots ascending, then the entries in use
unfoldable pub image_lights : List ℕ → List AbstractLight
image_lights bytes =
    defined_among (image_slot_defined bytes) (image_slot_light bytes) (0 ∷ 1 ∷ 2 ∷ 3 ∷ 4 ∷ 5 ∷ 6 ∷ 7 ∷ [])
    ++ list_at entry_light 112 (count_of bytes) bytes 17_932

-- document 02, T-05: from 24,204 on "in this order: three floats, colour u32, mask u32"
unfoldable pub image_states : List ℕ → RenderStates
image_states bytes =
    record { fog_start = float_at bytes 24_204; fog_end = float_at bytes 24_208; fog_density = float_at bytes 24_212; ambient = number_at 4 bytes 24_216 }

-- "highest palette index u16 17,928": "an image that is read brings its own index"
unfoldable pub image_abstract : List ℕ → AbstractState
image_abstract bytes =
    record {
      matrix = image_matrix bytes;
      material = material_at bytes 17_024;
      lights = image_lights bytes;
      highest_index = number_at 2 bytes 17_928;
      render_states = image_states bytes;
      texture_mask = number_at 4 bytes 24_220;
    }

-- reading an image in: document 01's number, and the book afterwards. "An image read in replaces all"; a refused call leaves the book alone.
unfoldable pub read_refusal : List ℕ → ℕ
read_refusal bytes = cond (refused bytes) 9 0

unfoldable pub abstract_read : AbstractState → List ℕ → AbstractState
abstract_read a bytes = cond (refused bytes) a (image_abstract bytes)
