-- Lights: the default one, and a light whose type is a u32 and whose floats are f32 values.
use Rattle.std.specs.Prelude.{◌<◌, ◌^◌}
use Rattle.d3d9_types.specs.declared.light.D3DLIGHT9.{D3DLIGHT9}
use Rattle.d3d9_types.specs.Numbers.{zero, one, float_fits}
use Rattle.d3d9_types.specs.Color.{black, colorFits}
use Rattle.d3d9_types.specs.Vector.{vectorFits}

-- Document 01, 'Calls that change the state': directional (3), diffuse 1,1,1,0, direction 0,0,1, all else 0
unfoldable pub default_light : D3DLIGHT9
default_light =
    record {
      type_ = 3;
      diffuse = record { r = one; g = one; b = one; a = zero };
      specular = black;
      ambient = black;
      position = record { x = zero; y = zero; z = zero };
      direction = record { x = zero; y = zero; z = one };
      range = zero;
      falloff = zero;
      attenuation0 = zero;
      attenuation1 = zero;
      attenuation2 = zero;
      theta = zero;
      phi = zero;
    }

pub record lightFits (l : D3DLIGHT9) : Type 0 where
  pub type_ : l.type_ < 2 ^ 32
  pub diffuse : colorFits l.diffuse
  pub specular : colorFits l.specular
  pub ambient : colorFits l.ambient
  pub position : vectorFits l.position
  pub direction : vectorFits l.direction
  pub range : float_fits l.range
  pub falloff : float_fits l.falloff
  pub attenuation0 : float_fits l.attenuation0
  pub attenuation1 : float_fits l.attenuation1
  pub attenuation2 : float_fits l.attenuation2
  pub theta : float_fits l.theta
  pub phi : float_fits l.phi
