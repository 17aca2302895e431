-- Matrices: the identity, and a matrix whose entries are f32 values.
use Rattle.d3d9_types.specs.declared.matrix.Row.{Row}
use Rattle.d3d9_types.specs.declared.matrix.D3DMATRIX.{D3DMATRIX}
use Rattle.d3d9_types.specs.Numbers.{zero, one, float_fits}

-- Direct3D's identity, of which document 01's fresh palette is made
unfoldable pub identity : D3DMATRIX
identity =
    record {
      r0 = record { x = one; y = zero; z = zero; w = zero };
      r1 = record { x = zero; y = one; z = zero; w = zero };
      r2 = record { x = zero; y = zero; z = one; w = zero };
      r3 = record { x = zero; y = zero; z = zero; w = one };
    }

pub record rowFits (r : Row) : Type 0 where
  pub x : float_fits r.x
  pub y : float_fits r.y
  pub z : float_fits r.z
  pub w : float_fits r.w

pub record matrixFits (m : D3DMATRIX) : Type 0 where
  pub r0 : rowFits m.r0
  pub r1 : rowFits m.r1
  pub r2 : rowFits m.r2
  pub r3 : rowFits m.r3
