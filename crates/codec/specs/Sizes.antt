-- How many bytes a value has: the law that each stored type keeps.
use Rattle.std.specs.Prelude.{ℕ, zero, suc, ◌/◌, ◌≡◌, Float, length, refl}
use Rattle.std.proofs.Common.{ap}
use mathlib.Core.List.{flatten}
use Rattle.d3d9_types.specs.declared.color.D3DCOLORVALUE.{D3DCOLORVALUE}
use Rattle.d3d9_types.specs.declared.light.D3DLIGHT9.{D3DLIGHT9}
use Rattle.d3d9_types.specs.declared.material.D3DMATERIAL9.{D3DMATERIAL9}
use Rattle.d3d9_types.specs.declared.matrix.D3DMATRIX.{D3DMATRIX}
use Rattle.d3d9_types.specs.declared.matrix.Row.{Row}
use Rattle.d3d9_types.specs.declared.render_states.RenderStates.{RenderStates}
use Rattle.d3d9_types.specs.declared.vector.D3DVECTOR.{D3DVECTOR}
use Rattle.codec.specs.Color.{color_bytes}
use Rattle.codec.specs.Float.{float_bytes}
use Rattle.codec.specs.Light.{light_bytes}
use Rattle.codec.specs.Little.{little_bytes}
use Rattle.codec.specs.Material.{material_bytes}
use Rattle.codec.specs.Matrix.{row_bytes, matrix_bytes}
use Rattle.codec.specs.RenderStates.{states_bytes}
use Rattle.codec.specs.Vector.{vector_bytes}

pub length-little_bytes : (k n : ℕ) → length (little_bytes k n) ≡ k
unfolding little_bytes
length-little_bytes zero n = refl
length-little_bytes (suc k) n = ap suc (length-little_bytes k (n / 256))

pub length-float_bytes : (x : Float) → length (float_bytes x) ≡ 4
unfolding float_bytes little_bytes
length-float_bytes x = refl

pub length-row_bytes : (r : Row) → length (row_bytes r) ≡ 16
unfolding row_bytes flatten float_bytes little_bytes
length-row_bytes r = refl

pub length-matrix_bytes : (m : D3DMATRIX) → length (matrix_bytes m) ≡ 64
unfolding matrix_bytes row_bytes flatten float_bytes little_bytes
length-matrix_bytes m = refl

pub length-vector_bytes : (v : D3DVECTOR) → length (vector_bytes v) ≡ 12
unfolding vector_bytes flatten float_bytes little_bytes
length-vector_bytes v = refl

pub length-color_bytes : (c : D3DCOLORVALUE) → length (color_bytes c) ≡ 16
unfolding color_bytes row_bytes flatten float_bytes little_bytes
length-color_bytes c = refl

pub length-material_bytes : (m : D3DMATERIAL9) → length (material_bytes m) ≡ 68
unfolding material_bytes color_bytes row_bytes flatten float_bytes little_bytes
length-material_bytes m = refl

pub length-light_bytes : (l : D3DLIGHT9) → length (light_bytes l) ≡ 104
unfolding light_bytes color_bytes row_bytes vector_bytes flatten float_bytes little_bytes
length-light_bytes l = refl

pub length-states_bytes : (r : RenderStates) → length (states_bytes r) ≡ 16
unfolding states_bytes flatten float_bytes little_bytes
length-states_bytes r = refl
