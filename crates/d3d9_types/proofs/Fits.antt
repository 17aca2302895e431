-- The numbers and records that the state begins with are f32 values, and a colour is one exactly if its row is. Each is a literal, so this computes.
--
use lib.Dec.{lit<}
use lib.Ieee.{fits}
use Rattle.d3d9_types.specs.Numbers.{zero, one, float_fits}
use Rattle.d3d9_types.specs.Color.{black, colorFits, color_row, row_color}
use Rattle.d3d9_types.specs.Matrix.{rowFits, matrixFits, identity}
use Rattle.d3d9_types.specs.Material.{materialFits, default_material}
use Rattle.d3d9_types.specs.Light.{lightFits, default_light}
use Rattle.d3d9_types.specs.RenderStates.{fresh_states, statesFit}
use Rattle.d3d9_types.specs.declared.matrix.Row.{Row}
use Rattle.d3d9_types.specs.declared.color.D3DCOLORVALUE.{D3DCOLORVALUE}

pub zero_fits : float_fits zero
unfolding fits
zero_fits = tt

pub one_fits : float_fits one
unfolding fits
one_fits = tt

pub color_row_fits : {c : D3DCOLORVALUE} → colorFits c → rowFits (color_row c)
color_row_fits h = record { x = h.r; y = h.g; z = h.b; w = h.a }

pub row_color_fits : {v : Row} → rowFits v → colorFits (row_color v)
row_color_fits h = record { r = h.x; g = h.y; b = h.z; a = h.w }

pub black_fits : colorFits black
black_fits = record { r = zero_fits; g = zero_fits; b = zero_fits; a = zero_fits }

pub identity_fits : matrixFits identity
unfolding identity
identity_fits =
    record {
      r0 = record { x = one_fits; y = zero_fits; z = zero_fits; w = zero_fits };
      r1 = record { x = zero_fits; y = one_fits; z = zero_fits; w = zero_fits };
      r2 = record { x = zero_fits; y = zero_fits; z = one_fits; w = zero_fits };
      r3 = record { x = zero_fits; y = zero_fits; z = zero_fits; w = one_fits };
    }

pub default_material_fits : materialFits default_material
unfolding default_material
default_material_fits =
    record { diffuse = black_fits; ambient = black_fits; specular = black_fits; emissive = black_fits; power = zero_fits }

pub default_light_fits : lightFits default_light
unfolding default_light
default_light_fits =
    record {
      type_ = lit< tt;
      diffuse = record { r = one_fits; g = one_fits; b = one_fits; a = zero_fits };
      specular = black_fits;
      ambient = black_fits;
      position = record { x = zero_fits; y = zero_fits; z = zero_fits };
      direction = record { x = zero_fits; y = zero_fits; z = one_fits };
      range = zero_fits;
      falloff = zero_fits;
      attenuation0 = zero_fits;
      attenuation1 = zero_fits;
      attenuation2 = zero_fits;
      theta = zero_fits;
      phi = zero_fits;
    }

pub fresh_states_fit : statesFit fresh_states
fresh_states_fit = record { fog_start = zero_fits; fog_end = zero_fits; fog_density = zero_fits; ambient = lit< tt }
