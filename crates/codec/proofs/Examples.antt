-- Worked examples, computed. They hold the definitions to document 01's orders, so that bending code and definition alike does not go unseen.
-- Assumes nothing.
use Prim.Native.Nat.{ℕ}
use mathlib.Core.Path.{◌≡◌, refl}
use mathlib.Core.Bool.{true, false}
use mathlib.Core.List.{[], ◌∷◌, ◌++◌, map, flatten}
use lib.IntN.{pos}
use lib.Ieee.{Float, nan, fin, to_bits, of_bits}
use Rattle.d3d9_types.specs.declared.matrix.Row.{Row}
use Rattle.d3d9_types.specs.declared.color.D3DCOLORVALUE.{D3DCOLORVALUE}
use Rattle.codec.specs.Little.{little_bytes, little_number, number_at}
use Rattle.codec.specs.Put.{put}
use Rattle.codec.specs.Float.{float_bytes, float_at}
use Rattle.codec.specs.Matrix.{row_bytes, matrix_bytes}
use Rattle.codec.specs.Color.{color_bytes}
use Rattle.codec.specs.Vector.{vector_bytes}
use Rattle.codec.specs.Material.{material_bytes}
use Rattle.codec.specs.Light.{light_bytes}

least_byte_first : little_bytes 4 0x0A0B_0C0D ≡ 0x0D ∷ 0x0C ∷ 0x0B ∷ 0x0A ∷ []
unfolding little_bytes
least_byte_first = refl

two_bytes : number_at 2 (9 ∷ 0x34 ∷ 0x12 ∷ 9 ∷ []) 1 ≡ 0x1234
unfolding little_number
two_bytes = refl

put-over : put {A = ℕ} 1 (7 ∷ 8 ∷ []) (1 ∷ 2 ∷ 3 ∷ 4 ∷ []) ≡ 1 ∷ 7 ∷ 8 ∷ 4 ∷ []
unfolding put
put-over = refl

-- 1.0, −0.0 and the NaN, which is written 0x7FC00000; a signalling pattern reads as the NaN
one_written : float_bytes (fin false 1 (pos 0)) ≡ 0 ∷ 0 ∷ 0x80 ∷ 0x3F ∷ []
unfolding float_bytes little_bytes to_bits
one_written = refl

minus_zero_written : float_bytes (fin true 0 (pos 0)) ≡ 0 ∷ 0 ∷ 0 ∷ 0x80 ∷ []
unfolding float_bytes little_bytes to_bits
minus_zero_written = refl

nan_written : float_bytes nan ≡ 0 ∷ 0 ∷ 0xC0 ∷ 0x7F ∷ []
unfolding float_bytes little_bytes to_bits
nan_written = refl

nan_read : float_at (1 ∷ 0 ∷ 0x80 ∷ 0xFF ∷ []) 0 ≡ nan
unfolding float_at little_number of_bits
nan_read = refl

-- ---- orders: items whose floats are a, b, c, .. as document 01 lists them

module _ (a b c d e f g h i j k l m n o p q r s t u v w x y : Float) where
  abbrev row : Float → Float → Float → Float → Row
  row α β γ δ = record { x = α; y = β; z = γ; w = δ }

  abbrev color : Float → Float → Float → Float → D3DCOLORVALUE
  color α β γ δ = record { r = α; g = β; b = γ; a = δ }

  matrix_order : matrix_bytes (record { r0 = row a b c d; r1 = row e f g h; r2 = row i j k l; r3 = row m n o p })
      ≡ flatten (map float_bytes (a ∷ b ∷ c ∷ d ∷ e ∷ f ∷ g ∷ h ∷ i ∷ j ∷ k ∷ l ∷ m ∷ n ∷ o ∷ p ∷ []))
  unfolding matrix_bytes row_bytes flatten float_bytes little_bytes
  matrix_order = refl

  -- diffuse, ambient, specular, emissive, power
  material_order : material_bytes
      (record { diffuse = color a b c d; ambient = color e f g h; specular = color i j k l; emissive = color m n o p; power = q })
      ≡ flatten (map float_bytes (a ∷ b ∷ c ∷ d ∷ e ∷ f ∷ g ∷ h ∷ i ∷ j ∷ k ∷ l ∷ m ∷ n ∷ o ∷ p ∷ q ∷ []))
  unfolding material_bytes color_bytes row_bytes flatten float_bytes little_bytes
  material_order = refl

  -- type, diffuse, specular, ambient, position, direction, range, falloff, attenuation 0 to 2, theta, phi
  light_order : (type : ℕ)
      → light_bytes
      (record {
        type_ = type;
        diffuse = color a b c d;
        specular = color e f g h;
        ambient = color i j k l;
        position = record { x = m; y = n; z = o };
        direction = record { x = p; y = q; z = r };
        range = s;
        falloff = t;
        attenuation0 = u;
        attenuation1 = v;
        attenuation2 = w;
        theta = x;
        phi = y;
      })
      ≡ little_bytes 4 type
      ++ flatten (map float_bytes (a ∷ b ∷ c ∷ d ∷ e ∷ f ∷ g ∷ h ∷ i ∷ j ∷ k ∷ l ∷ m ∷ n ∷ o ∷ p ∷ q ∷ r ∷ s ∷ t ∷ u ∷ v ∷ w ∷ x ∷ y ∷ []))
  unfolding light_bytes color_bytes row_bytes vector_bytes flatten float_bytes little_bytes
  light_order type = refl
