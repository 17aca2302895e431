-- The calls that change the abstract state, and which of them are refused. Document 01, 'Calls that change the state' and 'The list and the count of demand 3'; document 02, T-05.
use Rattle.std.specs.Prelude.{ℕ, Bool, cond, not, ◌&&◌, ◌||◌, leb, eqb, Float}
use Rattle.d3d9_types.specs.RenderStates.{with_fog_start, with_fog_end, with_fog_density, with_ambient}
use Rattle.d3d9_types.specs.declared.matrix.D3DMATRIX.{D3DMATRIX}
use Rattle.d3d9_types.specs.declared.material.D3DMATERIAL9.{D3DMATERIAL9}
use Rattle.d3d9_types.specs.declared.light.D3DLIGHT9.{D3DLIGHT9}
use Rattle.matrix.specs.Product.{mat_mul}
use Rattle.d3d9_model.specs.State.{AbstractState, replaced_matrix, replaced_material, replaced_lights, replaced_states, replaced_mask}
use Rattle.d3d9_model.specs.Lights.{lookup, is_there, light_set, light_enabled, count_beyond}

-- in Direct3D IDirect3DDevice9::SetTransform, MultiplyTransform, SetMaterial, SetLight, LightEnable, SetRenderState (D3DRS_FOGSTART, FOGEND, FOGDENSITY, AMBIENT); a texture mask and a mark are the papers' own
-- over the types of a matrix, a material, a light, an enable and a float: records, a Bool and a Float by value, bytes and numbers by the host
pub data OperationOn (M D L E F : Type 0) : Type 0 where
  set_transform multiply_transform : ℕ → M → OperationOn M D L E F
  set_material : D → OperationOn M D L E F
  set_light : ℕ → L → OperationOn M D L E F
  enable_light : ℕ → E → OperationOn M D L E F
  set_fog_start set_fog_end set_fog_density : F → OperationOn M D L E F
  set_ambient set_texture_mask : ℕ → OperationOn M D L E F
  mark : ℕ → OperationOn M D L E F

abbrev pub Operation : Type 0
Operation = OperationOn D3DMATRIX D3DMATERIAL9 D3DLIGHT9 Bool Float

-- "state 2 view, 3 projection, 16 to 23 texture, 256 to 511 palette", the numbers of D3DTRANSFORMSTATETYPE
unfoldable pub known : ℕ → Bool
known n = eqb n 2 || (eqb n 3 || ((leb 16 n && leb n 23) || (leb 256 n && leb n 511)))

-- "the index is 8 or more, not stored, and 56 such are stored"
unfoldable pub full : AbstractState → ℕ → Bool
full a i = leb 8 i && (not (is_there (lookup i a.lights)) && eqb (count_beyond a.lights) 56)

-- document 01's number of the refusal, 0 where there is none: 1 for an unknown state number, 3 for a full table, 7 for a mark above 255 (T-05)
unfoldable pub abstract_refusal : AbstractState → Operation → ℕ
abstract_refusal a (set_transform n m) = cond (known n) 0 1
abstract_refusal a (multiply_transform n m) = cond (known n) 0 1
abstract_refusal a (set_material m) = 0
abstract_refusal a (set_light i l) = cond (full a i) 3 0
abstract_refusal a (enable_light i on) = cond (full a i) 3 0
abstract_refusal a (set_fog_start x) = 0
abstract_refusal a (set_fog_end x) = 0
abstract_refusal a (set_fog_density x) = 0
abstract_refusal a (set_ambient c) = 0
abstract_refusal a (set_texture_mask t) = 0
abstract_refusal a (mark bits) = cond (leb bits 255) 0 7

-- "Set replaces a slot; multiply replaces it by its product", which is argument × slot (document 02, T-02)
unfoldable pub abstract_change : AbstractState → Operation → AbstractState
abstract_change a (set_transform n m) = replaced_matrix a n m
abstract_change a (multiply_transform n m) = replaced_matrix a n (mat_mul m (a.matrix n))
abstract_change a (set_material m) = replaced_material a m
abstract_change a (set_light i l) = replaced_lights a (light_set i l a.lights)
abstract_change a (enable_light i on) = replaced_lights a (light_enabled i on a.lights)
abstract_change a (set_fog_start x) = replaced_states a (with_fog_start a.render_states x)
abstract_change a (set_fog_end x) = replaced_states a (with_fog_end a.render_states x)
abstract_change a (set_fog_density x) = replaced_states a (with_fog_density a.render_states x)
abstract_change a (set_ambient c) = replaced_states a (with_ambient a.render_states c)
abstract_change a (set_texture_mask t) = replaced_mask a t
abstract_change a (mark bits) = a

-- "Mark .. and any call that this paper refuses leave the book alone."
unfoldable pub abstract_step : AbstractState → Operation → AbstractState
abstract_step a op = cond (eqb (abstract_refusal a op) 0) (abstract_change a op) a
