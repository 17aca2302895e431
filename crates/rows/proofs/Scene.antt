-- A scene, computed. Its inputs are whole numbers, each in one place, and the expected bits are the Rust's (`oracle/run scene`): what code and definition bent alike would exchange stands elsewhere here.
--
use Prim.Native.Nat.{ℕ}
use mathlib.Core.Path.{◌≡◌, refl}
use mathlib.Core.Bool.{true}
use mathlib.Core.List.{List, [], ◌∷◌, ◌++◌, map}
use lib.Count.{count_leading_zeros}
use lib.IntN.{pos}
use lib.Ieee.{Float, binary32, of_int, to_bits, add, mul, div}
use Rattle.d3d9_types.specs.declared.color.D3DCOLORVALUE.{D3DCOLORVALUE}
use Rattle.d3d9_types.specs.declared.matrix.Row.{Row}
use Rattle.d3d9_types.specs.declared.matrix.D3DMATRIX.{D3DMATRIX}
use Rattle.d3d9_types.specs.declared.material.D3DMATERIAL9.{D3DMATERIAL9}
use Rattle.matrix.specs.Entry.{column, row}
use Rattle.matrix.specs.Sum.{sum_from}
use Rattle.matrix.specs.Product.{dot, mat_mul}
use Rattle.matrix.specs.Transposition.{transposed}
use Rattle.sections.specs.Counts.{places}
use Rattle.rows.specs.Rows.{rows_of}
use Rattle.rows.specs.Matrices.{projection_rows, world_view_rows, palette_rows, texture_rows}
use Rattle.rows.specs.Material.{material_rows}
use Rattle.rows.specs.Fog.{fog_row, fog_rows}
use Rattle.rows.specs.Ambient.{over_full, rgba_of, ambient_rows}

-- the bits of a row
pub record Bits : Type 0 where
  pub x : ℕ
  pub y : ℕ
  pub z : ℕ
  pub w : ℕ

abbrev pub bits : ℕ → ℕ → ℕ → ℕ → Bits
bits a b c d = record { x = a; y = b; z = c; w = d }

abbrev pub row_bits : List Row → List Bits
row_bits = map (λ r. bits (to_bits binary32 r.x) (to_bits binary32 r.y) (to_bits binary32 r.z) (to_bits binary32 r.w))

-- whole numbers
abbrev pub p : ℕ → Float
p n = of_int binary32 (pos n)

abbrev pub four : ℕ → ℕ → ℕ → ℕ → Row
four a b c d = record { x = p a; y = p b; z = p c; w = p d }

abbrev pub rgba : ℕ → ℕ → ℕ → ℕ → D3DCOLORVALUE
rgba a b c d = record { r = p a; g = p b; b = p c; a = p d }

abbrev pub matrix : Row → Row → Row → Row → D3DMATRIX
matrix a b c d = record { r0 = a; r1 = b; r2 = c; r3 = d }

-- ---- the inputs

abbrev pub world : D3DMATRIX
world = matrix (four 1 2 3 4) (four 5 6 7 8) (four 9 10 11 12) (four 13 14 15 16)

abbrev pub second_world : D3DMATRIX
second_world = matrix (four 2 0 1 3) (four 1 5 0 2) (four 0 7 4 1) (four 3 1 6 0)

abbrev pub view : D3DMATRIX
view = matrix (four 0 1 0 2) (four 3 0 1 0) (four 0 2 0 1) (four 5 6 7 1)

abbrev pub projection : D3DMATRIX
projection = matrix (four 2 3 5 7) (four 11 13 17 19) (four 23 29 31 37) (four 41 43 47 53)

abbrev pub material : D3DMATERIAL9
material = record { diffuse = rgba 1 2 3 4; ambient = rgba 5 6 7 8; specular = rgba 9 10 11 12; emissive = rgba 13 14 15 16; power = p 17 }

-- ---- the Rust's rows

abbrev pub projection_bits : List Bits
projection_bits =
    bits 0x40000000 0x41300000 0x41B80000 0x42240000
    ∷ bits 0x40400000 0x41500000 0x41E80000 0x422C0000
    ∷ bits 0x40A00000 0x41880000 0x41F80000 0x423C0000
    ∷ bits 0x40E00000 0x41980000 0x42140000 0x42540000
    ∷ []

abbrev pub world_view_bits : List Bits
world_view_bits =
    bits 0x41D00000 0x42680000 0x42B40000 0x42F40000
    ∷ bits 0x41F80000 0x42860000 0x42CE0000 0x430B0000
    ∷ bits 0x41F00000 0x42780000 0x42BC0000 0x42FC0000
    ∷ bits 0x41100000 0x41C80000 0x42240000 0x42640000
    ∷ []

abbrev pub second_bits : List Bits
second_bits =
    bits 0x41700000 0x41C80000 0x41D00000 0x40400000
    ∷ bits 0x41B00000 0x41500000 0x41600000 0x41700000
    ∷ bits 0x41A80000 0x41980000 0x41600000 0x3F800000
    ∷ bits 0x41000000 0x40800000 0x40A00000 0x41400000
    ∷ []

abbrev pub world_bits : List Bits
world_bits =
    bits 0x3F800000 0x40A00000 0x41100000 0x41500000
    ∷ bits 0x40000000 0x40C00000 0x41200000 0x41600000
    ∷ bits 0x40400000 0x40E00000 0x41300000 0x41700000
    ∷ bits 0x40800000 0x41000000 0x41400000 0x41800000
    ∷ []

abbrev pub fog_bits : List Bits
fog_bits = bits 0x40000000 0x40400000 0x40A00000 0x00000000 ∷ []

abbrev pub material_bits : List Bits
material_bits =
    bits 0x3F800000 0x40000000 0x40400000 0x40800000
    ∷ bits 0x40A00000 0x40C00000 0x40E00000 0x41000000
    ∷ bits 0x41100000 0x41200000 0x41300000 0x41400000
    ∷ bits 0x41500000 0x41600000 0x41700000 0x41800000
    ∷ bits 0x41880000 0x00000000 0x00000000 0x00000000
    ∷ []

-- ---- ours

projection_right : row_bits (projection_rows projection) ≡ projection_bits
unfolding projection_rows transposed column row of_int to_bits
projection_right = refl

world_view_right : row_bits (world_view_rows view world) ≡ world_view_bits
unfolding world_view_rows mat_mul dot transposed column row sum_from add mul of_int to_bits
world_view_right = refl

palette_right : row_bits (palette_rows view (world ∷ second_world ∷ [])) ≡ world_view_bits ++ second_bits
unfolding palette_rows rows_of world_view_rows mat_mul dot transposed column row sum_from add mul of_int to_bits
palette_right = refl

material_right : row_bits (material_rows true true material) ≡ material_bits
unfolding material_rows of_int to_bits
material_right = refl

-- ---- document 02, T-05

-- the second stage's bit is clear, and its matrix is packed all the same; the fourth lies beyond the highest bit
textures_right : row_bits (texture_rows 5 (projection ∷ world ∷ projection ∷ view ∷ [])) ≡ projection_bits ++ world_bits ++ projection_bits
unfolding texture_rows places count_leading_zeros rows_of projection_rows transposed column row of_int to_bits
textures_right = refl

no_textures : texture_rows 0 (projection ∷ []) ≡ []
unfolding texture_rows places count_leading_zeros rows_of
no_textures = refl

abbrev fogged : ℕ → List Bits
fogged mode = row_bits (fog_rows mode (p 2) (p 3) (p 5))

-- any mode but 0
fog_right : (fogged 0 ≡ bits 0 0 0 0 ∷ []) × (fogged 1 ≡ fog_bits) × (fogged 3 ≡ fog_bits) × (fogged 255 ≡ fog_bits)
unfolding fog_row of_int to_bits
fog_right = (refl, refl, refl, refl)

-- red, green, blue, alpha of 0xAARRGGBB
ambient_right : row_bits (ambient_rows 0xFF804020) ≡ bits 0x3F008081 0x3E808081 0x3E008081 0x3F800000 ∷ []
unfolding rgba_of over_full div of_int to_bits
ambient_right = refl
