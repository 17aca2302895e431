-- Materials, 68 bytes in the order of document 01, 'State image'.
use Rattle.std.specs.Prelude.{ℕ, ◌+◌}
use mathlib.Core.List.{List, [], ◌∷◌, flatten}
use Rattle.d3d9_types.specs.declared.material.D3DMATERIAL9.{D3DMATERIAL9}
use Rattle.codec.specs.Float.{float_bytes, float_at}
use Rattle.codec.specs.Color.{color_bytes, color_at}

unfoldable pub material_bytes : D3DMATERIAL9 → List ℕ
material_bytes m =
    flatten
    (color_bytes m.diffuse ∷ color_bytes m.ambient ∷ color_bytes m.specular ∷ color_bytes m.emissive ∷ float_bytes m.power ∷ [])

unfoldable pub material_at : List ℕ → ℕ → D3DMATERIAL9
material_at bytes at =
    record {
      diffuse = color_at bytes at;
      ambient = color_at bytes (at + 16);
      specular = color_at bytes (at + 32);
      emissive = color_at bytes (at + 48);
      power = float_at bytes (at + 64);
    }
