-- The state holds what the abstract state holds.
use Rattle.std.specs.Prelude.{ℕ, zero, suc, ◌+◌, ◌<◌, ◌≡◌, Bool, cond, not, List, [], ◌∷◌, ◌++◌, map, eqb, get_or}
use Rattle.d3d9_types.specs.declared.matrix.D3DMATRIX.{D3DMATRIX}
use Rattle.d3d9_model.specs.State.{AbstractState, AbstractLight}
use Rattle.d3d9_model.specs.Lights.{indexed_light}
use Rattle.ff_state.specs.State.{no_matrix}
use Rattle.words.specs.Bits.{has_bit}
use Rattle.ff_state.specs.Overflow.{used}
use Rattle.ff_state.specs.Valid.{slot_light}
use Rattle.ff_state.specs.declared.state.FfState.{FfState}
use Rattle.light_table.specs.declared.entry.OverflowLight.{OverflowLight}

-- of the n slots from i on, the lights of those that are defined
unfoldable pub defined_from : (ℕ → Bool) → (ℕ → AbstractLight) → ℕ → ℕ → List AbstractLight
defined_from defined light i zero = []
defined_from defined light i (suc n) = cond (defined i) (light i ∷ defined_from defined light (suc i) n) (defined_from defined light (suc i) n)

abbrev pub slot_defined : FfState → ℕ → Bool
slot_defined s i = has_bit s.light_defined_mask i

abbrev pub slot_entry : FfState → ℕ → AbstractLight
slot_entry s i = indexed_light i (has_bit s.light_enabled i) (slot_light s i)

abbrev pub overflow_entry : OverflowLight → AbstractLight
overflow_entry e = indexed_light e.index (not (eqb e.enabled 0)) e.light

-- the lights of a state, by ascending index
unfoldable pub state_lights : FfState → List AbstractLight
state_lights s = defined_from (slot_defined s) (slot_entry s) 0 8 ++ map overflow_entry (used s)

-- by state number: over the matrices alone, so that a call that leaves them leaves this
pub record MatricesAgree (v p : D3DMATRIX) (textures world : List D3DMATRIX) (matrix : ℕ → D3DMATRIX) : Type 0 where
  pub view : v ≡ matrix 2
  pub projection : p ≡ matrix 3
  pub texture : (i : ℕ) → i < 8 → get_or textures i no_matrix ≡ matrix (16 + i)
  pub palette : (i : ℕ) → i < 256 → get_or world i no_matrix ≡ matrix (256 + i)

pub record Agrees (s : FfState) (a : AbstractState) : Type 0 where
  pub matrices : MatricesAgree s.view s.projection s.texture_transforms s.world_palette a.matrix
  pub material : s.material ≡ a.material
  pub lights : state_lights s ≡ a.lights
  pub highest : s.world_palette_high_water ≡ a.highest_index
  pub states : s.render_states ≡ a.render_states
  pub texture-mask : s.tt_active_mask ≡ a.texture_mask
