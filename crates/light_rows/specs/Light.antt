-- Rows of lights. Document 01, 'Rows of a section'; ff_state.rs 1825–1899.
use Rattle.std.specs.Prelude.{ℕ, cond, List, [], ◌∷◌, eqb, pos, Float}
use Rattle.std.specs.Float.{binary32}
use Rattle.std.specs.Float.Ieee.{of_int}
use Rattle.d3d9_types.specs.declared.color.D3DCOLORVALUE.{D3DCOLORVALUE}
use Rattle.d3d9_types.specs.declared.vector.D3DVECTOR.{D3DVECTOR}
use Rattle.d3d9_types.specs.declared.matrix.Row.{Row}
use Rattle.d3d9_types.specs.declared.matrix.D3DMATRIX.{D3DMATRIX}
use Rattle.d3d9_types.specs.declared.light.D3DLIGHT9.{D3DLIGHT9}
use Rattle.matrix.specs.View.{view_transform_point, view_transform_dir}
use Rattle.rows.specs.Rows.{rows_of}
use Rattle.light_rows.specs.Floor.{floored}
use Rattle.directions.specs.Direction.{unit_direction}
use Rattle.light_rows.specs.Cone.{cone_of}
use Rattle.light_rows.specs.declared.cone.Cone.{Cone}
use Rattle.light_rows.specs.declared.light.LightRows.{LightRows}

-- a colour or a vector, and a fourth float
abbrev pub rgb_row : D3DCOLORVALUE → Float → Row
rgb_row c w = record { x = c.r; y = c.g; z = c.b; w = w }

abbrev pub xyz_row : D3DVECTOR → Float → Row
xyz_row v w = record { x = v.x; y = v.y; z = v.z; w = w }

-- "kind 3 directional, 2 spot, 1 point"
unfoldable pub kind_of : ℕ → Float
kind_of kind = cond (eqb kind 3) (of_int binary32 (pos 3)) (cond (eqb kind 2) (of_int binary32 (pos 2)) (of_int binary32 (pos 1)))

abbrev pub light_cone : D3DLIGHT9 → Cone
light_cone l = cone_of l.type_ l.theta l.phi

-- the direction is turned into view space and then made a unit
unfoldable pub light_rows : D3DMATRIX → D3DLIGHT9 → LightRows
light_rows view l =
    record {
      position = xyz_row (view_transform_point view l.position) (kind_of l.type_);
      direction = xyz_row (unit_direction (view_transform_dir view l.direction)) (floored l.falloff);
      diffuse = rgb_row l.diffuse l.specular.a;
      ambient = rgb_row l.ambient (light_cone l).offset;
      attenuations = record { x = l.attenuation0; y = l.attenuation1; z = l.attenuation2; w = l.range };
      specular = rgb_row l.specular (light_cone l).scale;
    }

-- in document 01's order
abbrev pub six_rows : LightRows → List Row
six_rows r = r.position ∷ r.direction ∷ r.diffuse ∷ r.ambient ∷ r.attenuations ∷ r.specular ∷ []

unfoldable pub lights_rows : D3DMATRIX → List D3DLIGHT9 → List Row
lights_rows view ls = rows_of (λ l. six_rows (light_rows view l)) ls
