-- Every float of a packed row is an f32 value.
use Prim.Native.Nat.{ℕ, zero, suc}
use mathlib.Core.Bool.{Bool, true, false}
use mathlib.Core.List.{List, [], ◌∷◌, ◌++◌}
use lib.Ieee.{Float, binary32, nan}
use lib.Ieee.Fits.{nan-fits, div-fits}
use lib.Dec.{eqb}
use lib.ListN.{get_or, take}
use Rattle.lemmas.proofs.Branch.{branch}
use Rattle.d3d9_types.proofs.Fits.{zero_fits, color_row_fits}
use Rattle.d3d9_types.specs.Numbers.{float_fits}
use Rattle.d3d9_types.specs.Matrix.{rowFits, matrixFits}
use Rattle.d3d9_types.specs.Material.{materialFits}
use Rattle.d3d9_types.specs.declared.matrix.Row.{Row}
use Rattle.d3d9_types.specs.declared.matrix.D3DMATRIX.{D3DMATRIX}
use Rattle.d3d9_types.specs.declared.material.D3DMATERIAL9.{D3DMATERIAL9}
use Rattle.matrix.proofs.Fits.{mat_mul_fits, transposed_fits}
use Rattle.sections.specs.Counts.{places}
use Rattle.rows.specs.Rows.{floats, rows_of}
use Rattle.rows.specs.Matrices.{matrix_rows, projection_rows, world_view_rows, palette_rows, texture_rows}
use Rattle.rows.specs.Material.{material_rows}
use Rattle.rows.specs.Fog.{fog_row, fog_rows}
use Rattle.rows.specs.Ambient.{over_full, rgba_of, ambient_rows}

-- a property of every element
abbrev pub Each : {A : Type 0} → (A → Type 0) → List A → Type 0
Each P [] = Unit {0}
Each P (x ∷ xs) = P x × Each P xs

pub each_append : {A : Type 0} (P : A → Type 0) (xs ys : List A) → Each P xs → Each P ys → Each P (xs ++ ys)
each_append P [] ys p q = q
each_append P (x ∷ xs) ys p q = (p.0, each_append P xs ys p.1 q)

pub each_rows_of : {A : Type 0} (P : A → Type 0) (f : A → List Row) → ((x : A) → P x → Each rowFits (f x)) → (xs : List A) → Each P xs → Each rowFits (rows_of f xs)
unfolding rows_of
each_rows_of P f g [] p = tt
each_rows_of P f g (x ∷ xs) p = each_append rowFits (f x) (rows_of f xs) (g x p.0) (each_rows_of P f g xs p.1)

-- .. by its place
pub floats_fit : (rs : List Row) → Each rowFits rs → (j : ℕ) → float_fits (get_or (floats rs) j nan)
unfolding floats
floats_fit [] p j = nan-fits binary32
floats_fit (r ∷ rs) p zero = p.0.x
floats_fit (r ∷ rs) p (suc zero) = p.0.y
floats_fit (r ∷ rs) p (suc (suc zero)) = p.0.z
floats_fit (r ∷ rs) p (suc (suc (suc zero))) = p.0.w
floats_fit (r ∷ rs) p (suc (suc (suc (suc j)))) = floats_fit rs p.1 j

matrix_fits : {m : D3DMATRIX} → matrixFits m → Each rowFits (matrix_rows m)
matrix_fits h = (h.r0, (h.r1, (h.r2, (h.r3, tt))))

pub projection_fits : {m : D3DMATRIX} → matrixFits m → Each rowFits (projection_rows m)
unfolding projection_rows
projection_fits h = matrix_fits (transposed_fits h)

-- a product is rounded, whatever its factors are
pub world_view_fits : (view world : D3DMATRIX) → Each rowFits (world_view_rows view world)
unfolding world_view_rows
world_view_fits view world = matrix_fits (transposed_fits (mat_mul_fits world view))

any : (ms : List D3DMATRIX) → Each (λ m. Unit {0}) ms
any [] = tt
any (m ∷ ms) = (tt, any ms)

pub palette_fits : (view : D3DMATRIX) (worlds : List D3DMATRIX) → Each rowFits (palette_rows view worlds)
unfolding palette_rows
palette_fits view worlds = each_rows_of (λ m. Unit {0}) (world_view_rows view) (λ m h. world_view_fits view m) worlds (any worlds)

pub textures_fit : (mask : ℕ) (textures : List D3DMATRIX) → Each matrixFits (take (places mask) textures) → Each rowFits (texture_rows mask textures)
unfolding texture_rows
textures_fit mask textures h = each_rows_of matrixFits projection_rows (λ m. projection_fits) (take (places mask) textures) h

pub fog_fits : (mode : ℕ) (start end density : Float) → float_fits start → float_fits end → float_fits density → Each rowFits (fog_rows mode start end density)
unfolding fog_row
fog_fits mode start end density s e d = (
  branch rowFits (eqb mode 0) _ _
      (λ off. record { x = zero_fits; y = zero_fits; z = zero_fits; w = zero_fits })
      (λ on. record { x = s; y = e; z = d; w = zero_fits }),
  tt,
)

-- a quotient is rounded
pub ambient_fits : (color : ℕ) → Each rowFits (ambient_rows color)
unfolding rgba_of over_full
ambient_fits color =
    (record { x = div-fits binary32 _ _; y = div-fits binary32 _ _; z = div-fits binary32 _ _; w = div-fits binary32 _ _ }, tt)

pub material_fits : (l sp : Bool) {m : D3DMATERIAL9} → materialFits m → Each rowFits (material_rows l sp m)
unfolding material_rows
material_fits false sp h = (color_row_fits h.diffuse, tt)
material_fits true false h =
    (color_row_fits h.diffuse, (color_row_fits h.ambient, (color_row_fits h.specular, (color_row_fits h.emissive, tt))))
material_fits true true h =
    (color_row_fits h.diffuse, (color_row_fits h.ambient, (color_row_fits h.specular, (color_row_fits h.emissive, (record { x = h.power; y = zero_fits; z = zero_fits; w = zero_fits }, tt)))))
