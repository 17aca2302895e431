-- Vectors whose parts are f32 values.
use Rattle.d3d9_types.specs.declared.vector.D3DVECTOR.{D3DVECTOR}
use Rattle.d3d9_types.specs.Numbers.{float_fits}

pub record vectorFits (v : D3DVECTOR) : Type 0 where
  pub x : float_fits v.x
  pub y : float_fits v.y
  pub z : float_fits v.z
