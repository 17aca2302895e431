-- An entry of the table of lights from index 8 on.
use Rattle.std.specs.Prelude.{ℕ}
use Rattle.d3d9_types.specs.Numbers.{zero}
use Rattle.d3d9_types.specs.Color.{black}
use Rattle.d3d9_types.specs.declared.light.D3DLIGHT9.{D3DLIGHT9}
use Rattle.light_table.specs.declared.entry.OverflowLight.{OverflowLight}

-- the light of an unused entry: every number 0
unfoldable pub zero_light : D3DLIGHT9
zero_light =
    record {
      type_ = 0;
      diffuse = black;
      specular = black;
      ambient = black;
      position = record { x = zero; y = zero; z = zero };
      direction = record { x = zero; y = zero; z = zero };
      range = zero;
      falloff = zero;
      attenuation0 = zero;
      attenuation1 = zero;
      attenuation2 = zero;
      theta = zero;
      phi = zero;
    }

-- an entry of the overflow table; an unused one is all zeros
abbrev pub light_entry : ℕ → ℕ → D3DLIGHT9 → OverflowLight
light_entry i e l = record { index = i; enabled = e; light = l }

unfoldable pub zero_entry : OverflowLight
zero_entry = light_entry 0 0 zero_light
