-- Colours: as rows of four floats, black with alpha 0, and a colour whose parts are f32 values.
use Rattle.d3d9_types.specs.declared.color.D3DCOLORVALUE.{D3DCOLORVALUE}
use Rattle.d3d9_types.specs.declared.matrix.Row.{Row}
use Rattle.d3d9_types.specs.Numbers.{zero, float_fits}

abbrev pub color_row : D3DCOLORVALUE → Row
color_row c = record { x = c.r; y = c.g; z = c.b; w = c.a }

abbrev pub row_color : Row → D3DCOLORVALUE
row_color v = record { r = v.x; g = v.y; b = v.z; a = v.w }

abbrev pub black : D3DCOLORVALUE
black = record { r = zero; g = zero; b = zero; a = zero }

pub record colorFits (c : D3DCOLORVALUE) : Type 0 where
  pub r : float_fits c.r
  pub g : float_fits c.g
  pub b : float_fits c.b
  pub a : float_fits c.a
