-- A scene, computed: a spot light of 25 different numbers under a view that no row of it leaves as it is, then the orders of the sums. The expected bits are the Rust's (`oracle/run scene`).
--
use Prim.Native.Nat.{◌^◌}
use mathlib.Core.Path.{◌≡◌, refl}
use mathlib.Core.Bool.{false}
use mathlib.Core.List.{List, [], ◌∷◌}
use lib.IntN.{negsuc}
use lib.Ieee.{Float, fin, of_bits, to_bits, of_int, add, sub, mul, div, rem, neg, lt, is_nan}
use Rattle.d3d9_types.specs.Numbers.{zero, one}
use Rattle.d3d9_types.specs.Color.{black}
use Rattle.d3d9_types.specs.Matrix.{identity}
use Rattle.d3d9_types.specs.declared.vector.D3DVECTOR.{D3DVECTOR}
use Rattle.d3d9_types.specs.declared.matrix.D3DMATRIX.{D3DMATRIX}
use Rattle.d3d9_types.specs.declared.light.D3DLIGHT9.{D3DLIGHT9}
use Rattle.float32.specs.Larger.{larger}
use Rattle.float32.specs.Root.{sqrt_of, root_of, nearest_root, floor_root, root_from}
use Rattle.float32.specs.Cosine.{magnitude, turn, half_turn, quarter_turn, folded, fraction, horner, polynomial, cos_folded, cos_of}
use Rattle.matrix.specs.Entry.{column, row}
use Rattle.matrix.specs.Sum.{sum_from}
use Rattle.matrix.specs.View.{view_transform_point, view_transform_dir}
use Rattle.rows.specs.Rows.{rows_of}
use Rattle.rows.proofs.Scene.{Bits, bits, row_bits, p, rgba, view}
use Rattle.light_rows.specs.Floor.{smallest, floored}
use Rattle.directions.specs.Direction.{length_of, unit_direction}
use Rattle.light_rows.specs.Cone.{half, half_cosine, spot_scale, cone_of}
use Rattle.light_rows.specs.Light.{kind_of, light_rows, lights_rows}

abbrev xyz : Float → Float → Float → D3DVECTOR
xyz x y z = record { x = x; y = y; z = z }

-- 0.75
abbrev three_quarters : Float
three_quarters = fin false 3 (negsuc 1)

abbrev pub spot : D3DLIGHT9
spot =
    record {
      type_ = 2;
      diffuse = rgba 1 2 3 4;
      specular = rgba 5 6 7 8;
      ambient = rgba 9 10 11 12;
      position = xyz (p 13) (p 14) (p 15);
      direction = xyz (p 16) (p 17) (p 18);
      range = p 19;
      falloff = p 20;
      attenuation0 = p 21;
      attenuation1 = p 22;
      attenuation2 = p 23;
      theta = half;
      phi = three_quarters;
    }

abbrev pub spot_bits : List Bits
spot_bits =
    bits 0x423C0000 0x42440000 0x41A80000 0x40000000
    ∷ bits 0x3F2E8FCB 0x3F31FC06 0x3E68BFB9 0x41A00000
    ∷ bits 0x3F800000 0x40000000 0x40400000 0x41000000
    ∷ bits 0x41100000 0x41200000 0x41300000 0xC1C1D4D7
    ∷ bits 0x41A80000 0x41B00000 0x41B80000 0x41980000
    ∷ bits 0x40A00000 0x40C00000 0x40E00000 0x41D04EA3
    ∷ []

spot_right : row_bits (lights_rows view (spot ∷ [])) ≡ spot_bits
unfolding lights_rows light_rows rows_of kind_of unit_direction length_of floored smallest cone_of spot_scale half_cosine cos_of cos_folded folded polynomial horner fraction magnitude turn half_turn quarter_turn larger sqrt_of root_of nearest_root floor_root root_from view_transform_point view_transform_dir column row sum_from add sub mul div rem neg lt is_nan of_int of_bits to_bits
spot_right = refl

-- ---- the orders of the sums

-- a directional light of zeros but for these
abbrev directional : D3DVECTOR → D3DVECTOR → D3DLIGHT9
directional position direction =
    record {
      type_ = 3;
      diffuse = black;
      specular = black;
      ambient = black;
      position = position;
      direction = direction;
      range = zero;
      falloff = zero;
      attenuation0 = zero;
      attenuation1 = zero;
      attenuation2 = zero;
      theta = zero;
      phi = zero;
    }

abbrev placed : D3DMATRIX → D3DVECTOR → D3DVECTOR → List Bits
placed view position direction =
    let r = light_rows view (directional position direction) in
    row_bits (r.position ∷ r.direction ∷ [])

-- 0.1 and 0.4: the square of 0.4 is rounded otherwise where it comes first
abbrev tenth : Float
tenth = fin false 13_421_773 (negsuc 26)

abbrev four_tenths : Float
four_tenths = fin false 13_421_773 (negsuc 24)

squares_in_order : placed identity (xyz zero zero zero) (xyz tenth tenth four_tenths) ≡
    bits 0x00000000 0x00000000 0x00000000 0x40400000
    ∷ bits 0x3E715BEF 0x3E715BEF 0x3F715BEF 0x358637BD
    ∷ []
unfolding light_rows kind_of unit_direction length_of floored smallest cone_of larger sqrt_of root_of nearest_root floor_root root_from view_transform_point view_transform_dir column row sum_from add mul div neg lt is_nan of_int of_bits to_bits identity
squares_in_order = refl

-- 2 ^ 24 swallows a 1 that is added to it
abbrev swallowing : D3DMATRIX
swallowing =
    let big = p (2 ^ 24) in
    record {
      r0 = record { x = big; y = big; z = one; w = zero };
      r1 = record { x = one; y = one; z = zero; w = zero };
      r2 = record { x = neg big; y = zero; z = zero; w = zero };
      r3 = record { x = p 5; y = neg big; z = zero; w = one };
    }

terms_in_order : placed swallowing (xyz one one one) (xyz one one one) ≡
    bits 0x40A00000 0x00000000 0x3F800000 0x40400000
    ∷ bits 0x00000000 0x3F800000 0x33800000 0x358637BD
    ∷ []
unfolding light_rows kind_of unit_direction length_of floored smallest cone_of larger sqrt_of root_of nearest_root floor_root root_from view_transform_point view_transform_dir column row sum_from add mul div neg lt is_nan of_int of_bits to_bits
terms_in_order = refl
