-- Materials: the default one, and a material whose parts are f32 values.
use Rattle.d3d9_types.specs.declared.material.D3DMATERIAL9.{D3DMATERIAL9}
use Rattle.d3d9_types.specs.Numbers.{zero, float_fits}
use Rattle.d3d9_types.specs.Color.{black, colorFits}

-- Document 01, 'The arithmetic underneath': 17 zeros
unfoldable pub default_material : D3DMATERIAL9
default_material = record { diffuse = black; ambient = black; specular = black; emissive = black; power = zero }

pub record materialFits (m : D3DMATERIAL9) : Type 0 where
  pub diffuse : colorFits m.diffuse
  pub ambient : colorFits m.ambient
  pub specular : colorFits m.specular
  pub emissive : colorFits m.emissive
  pub power : float_fits m.power
