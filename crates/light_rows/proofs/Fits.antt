-- Every float of a light's rows is an f32 value.
use Prim.Native.Nat.{ℕ}
use mathlib.Core.Bool.{cond}
use mathlib.Core.List.{List}
use lib.Dec.{eqb}
use lib.IntN.{pos}
use lib.Ieee.{Float, binary32, fits, of_int, neg, of_bits}
use lib.Ieee.Fits.{cond-fits, of_int-fits, mul-fits, div-fits}
use Rattle.d3d9_types.proofs.Fits.{zero_fits}
use Rattle.d3d9_types.specs.Numbers.{zero, one, float_fits}
use Rattle.d3d9_types.specs.Matrix.{rowFits}
use Rattle.d3d9_types.specs.Light.{lightFits}
use Rattle.d3d9_types.specs.declared.matrix.D3DMATRIX.{D3DMATRIX}
use Rattle.d3d9_types.specs.declared.light.D3DLIGHT9.{D3DLIGHT9}
use Rattle.float32.proofs.Laws.{larger_fits}
use Rattle.lemmas.proofs.Branch.{branch}
use Rattle.matrix.specs.Sum.{times}
use Rattle.matrix.specs.View.{view_transform_dir}
use Rattle.matrix.proofs.Fits.{view_transform_point_fits}
use Rattle.rows.proofs.Fits.{Each, each_rows_of}
use Rattle.directions.proofs.Fits.{unit_direction_fits}
use Rattle.light_rows.specs.Floor.{smallest, floored}
use Rattle.light_rows.specs.Cone.{half_cosine, spot_scale, cone_of}
use Rattle.light_rows.specs.Light.{kind_of, light_rows, six_rows, lights_rows}
use Rattle.light_rows.specs.declared.cone.Cone.{Cone}

floored_fits : (x : Float) → float_fits x → float_fits (floored x)
unfolding floored smallest of_bits fits
floored_fits x h = larger_fits x smallest h tt

kind_fits : (kind : ℕ) → float_fits (kind_of kind)
unfolding kind_of
kind_fits kind =
    cond-fits binary32 (eqb kind 3) (of_int binary32 (pos 3)) (cond (eqb kind 2) (of_int binary32 (pos 2)) (of_int binary32 (pos 1))) (of_int-fits binary32 (pos 3))
    (cond-fits binary32 (eqb kind 2) (of_int binary32 (pos 2)) (of_int binary32 (pos 1)) (of_int-fits binary32 (pos 2)) (of_int-fits binary32 (pos 1)))

record coneFits (c : Cone) : Type 0 where
  scale : float_fits c.scale
  offset : float_fits c.offset

cone_fits : (kind : ℕ) (theta phi : Float) → coneFits (cone_of kind theta phi)
unfolding cone_of spot_scale
cone_fits kind theta phi =
    branch coneFits (eqb kind 2) (record { scale = spot_scale theta phi; offset = times (neg (half_cosine phi)) (spot_scale theta phi) }) (record { scale = zero; offset = zero })
    (λ spot. record { scale = div-fits binary32 one _; offset = mul-fits binary32 (neg (half_cosine phi)) (spot_scale theta phi) })
    (λ other. record { scale = zero_fits; offset = zero_fits })

pub light_fits : (view : D3DMATRIX) {l : D3DLIGHT9} → lightFits l → Each rowFits (six_rows (light_rows view l))
unfolding light_rows
light_fits view {l} h =
    let p = view_transform_point_fits view l.position in
    let d = unit_direction_fits (view_transform_dir view l.direction) in
    let c = cone_fits l.type_ l.theta l.phi in (
      record { x = p.x; y = p.y; z = p.z; w = kind_fits l.type_ },
      (
        record { x = d.x; y = d.y; z = d.z; w = floored_fits l.falloff h.falloff },
        (
          record { x = h.diffuse.r; y = h.diffuse.g; z = h.diffuse.b; w = h.specular.a },
          (
            record { x = h.ambient.r; y = h.ambient.g; z = h.ambient.b; w = c.offset },
            (
              record { x = h.attenuation0; y = h.attenuation1; z = h.attenuation2; w = h.range },
              (
                record { x = h.specular.r; y = h.specular.g; z = h.specular.b; w = c.scale },
                tt,
              ),
            ),
          ),
        ),
      ),
    )

pub lights_fit : (view : D3DMATRIX) (ls : List D3DLIGHT9) → Each lightFits ls → Each rowFits (lights_rows view ls)
unfolding lights_rows
lights_fit view ls h = each_rows_of lightFits (λ l. six_rows (light_rows view l)) (λ l. light_fits view) ls h
