-- Lights, 104 bytes in the order of document 01, 'The arithmetic underneath'. The type is a number, not a float.
use Rattle.std.specs.Prelude.{ℕ, ◌+◌}
use mathlib.Core.List.{List, [], ◌∷◌, flatten}
use Rattle.d3d9_types.specs.declared.light.D3DLIGHT9.{D3DLIGHT9}
use Rattle.codec.specs.Little.{little_bytes, number_at}
use Rattle.codec.specs.Float.{float_bytes, float_at}
use Rattle.codec.specs.Color.{color_bytes, color_at}
use Rattle.codec.specs.Vector.{vector_bytes, vector_at}

unfoldable pub light_bytes : D3DLIGHT9 → List ℕ
light_bytes l =
    flatten
    (little_bytes 4 l.type_
    ∷ color_bytes l.diffuse
    ∷ color_bytes l.specular
    ∷ color_bytes l.ambient
    ∷ vector_bytes l.position
    ∷ vector_bytes l.direction
    ∷ float_bytes l.range
    ∷ float_bytes l.falloff
    ∷ float_bytes l.attenuation0
    ∷ float_bytes l.attenuation1
    ∷ float_bytes l.attenuation2
    ∷ float_bytes l.theta
    ∷ float_bytes l.phi
    ∷ [])

unfoldable pub light_at : List ℕ → ℕ → D3DLIGHT9
light_at bytes at =
    record {
      type_ = number_at 4 bytes at;
      diffuse = color_at bytes (at + 4);
      specular = color_at bytes (at + 20);
      ambient = color_at bytes (at + 36);
      position = vector_at bytes (at + 52);
      direction = vector_at bytes (at + 64);
      range = float_at bytes (at + 76);
      falloff = float_at bytes (at + 80);
      attenuation0 = float_at bytes (at + 84);
      attenuation1 = float_at bytes (at + 88);
      attenuation2 = float_at bytes (at + 92);
      theta = float_at bytes (at + 96);
      phi = float_at bytes (at + 100);
    }
