-- Every component of a unit direction is an f32 value.
use lib.Ieee.{binary32, lt}
use lib.Ieee.Fits.{div-fits}
use Rattle.d3d9_types.proofs.Fits.{zero_fits}
use Rattle.d3d9_types.specs.Numbers.{zero}
use Rattle.d3d9_types.specs.Vector.{vectorFits}
use Rattle.d3d9_types.specs.declared.vector.D3DVECTOR.{D3DVECTOR}
use Rattle.lemmas.proofs.Branch.{branch}
use Rattle.directions.specs.Direction.{length_of, over, no_direction, over_length, unit_direction}

over_length_fits : (d : D3DVECTOR) → vectorFits (over_length d)
unfolding over_length
over_length_fits d =
    branch vectorFits (lt zero (length_of d)) (over d (length_of d)) no_direction
    (λ some. record { x = div-fits binary32 d.x (length_of d); y = div-fits binary32 d.y (length_of d); z = div-fits binary32 d.z (length_of d) })
    (λ none. record { x = zero_fits; y = zero_fits; z = zero_fits })

pub unit_direction_fits : (d : D3DVECTOR) → vectorFits (unit_direction d)
unfolding unit_direction
unit_direction_fits d = over_length_fits _
