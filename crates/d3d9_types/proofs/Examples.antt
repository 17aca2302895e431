-- The defaults as words, from document 01's text, so that a definition bent together with its code is refused here.
use Prim.Native.Nat.{ℕ}
use mathlib.Core.Path.{◌≡◌, refl}
use mathlib.Core.List.{List, [], ◌∷◌}
use lib.Ieee.{Float, binary32, to_bits}
use Rattle.d3d9_types.specs.Matrix.{identity}
use Rattle.d3d9_types.specs.Material.{default_material}
use Rattle.d3d9_types.specs.Light.{default_light}
use Rattle.d3d9_types.specs.declared.color.D3DCOLORVALUE.{D3DCOLORVALUE}
use Rattle.d3d9_types.specs.declared.vector.D3DVECTOR.{D3DVECTOR}
use Rattle.d3d9_types.specs.declared.light.D3DLIGHT9.{D3DLIGHT9}
use Rattle.d3d9_types.specs.declared.material.D3DMATERIAL9.{D3DMATERIAL9}
use Rattle.d3d9_types.specs.declared.matrix.D3DMATRIX.{D3DMATRIX}
use Rattle.d3d9_types.specs.declared.matrix.Row.{Row}

-- words, each in front of others
abbrev word : Float → List ℕ → List ℕ
word x ws = to_bits binary32 x ∷ ws

abbrev color : D3DCOLORVALUE → List ℕ → List ℕ
color c ws = word c.r (word c.g (word c.b (word c.a ws)))

abbrev vector : D3DVECTOR → List ℕ → List ℕ
vector v ws = word v.x (word v.y (word v.z ws))

abbrev row : Row → List ℕ → List ℕ
row r ws = word r.x (word r.y (word r.z (word r.w ws)))

-- "Light: type, diffuse, specular, ambient (rgba each), position, direction, range, falloff, attenuation 0 to 2, theta, phi"
abbrev light_words : D3DLIGHT9 → List ℕ
light_words l =
    l.type_
    ∷ color l.diffuse (color l.specular (color l.ambient (vector l.position (vector l.direction
    (word l.range (word l.falloff (word l.attenuation0 (word l.attenuation1 (word l.attenuation2 (word l.theta (word l.phi [])))))))))))

-- "(diffuse, ambient, specular, emissive, power)"
abbrev material_words : D3DMATERIAL9 → List ℕ
material_words m = color m.diffuse (color m.ambient (color m.specular (color m.emissive (word m.power []))))

abbrev matrix_words : D3DMATRIX → List ℕ
matrix_words m = row m.r0 (row m.r1 (row m.r2 (row m.r3 [])))

-- "directional, diffuse 1,1,1,0, direction 0,0,1, all else 0": 1.0 is 0x3F800000
default_light_words : light_words default_light
    ≡ 3
    ∷ 0x3F800000 ∷ 0x3F800000 ∷ 0x3F800000 ∷ 0
    ∷ 0 ∷ 0 ∷ 0 ∷ 0
    ∷ 0 ∷ 0 ∷ 0 ∷ 0
    ∷ 0 ∷ 0 ∷ 0
    ∷ 0 ∷ 0 ∷ 0x3F800000
    ∷ 0 ∷ 0 ∷ 0 ∷ 0 ∷ 0 ∷ 0 ∷ 0
    ∷ []
unfolding default_light to_bits
default_light_words = refl

-- "Material default: 17 zeros."
default_material_words : material_words default_material
    ≡ 0 ∷ 0 ∷ 0 ∷ 0
    ∷ 0 ∷ 0 ∷ 0 ∷ 0
    ∷ 0 ∷ 0 ∷ 0 ∷ 0
    ∷ 0 ∷ 0 ∷ 0 ∷ 0
    ∷ 0
    ∷ []
unfolding default_material to_bits
default_material_words = refl

identity_words : matrix_words identity
    ≡ 0x3F800000 ∷ 0 ∷ 0 ∷ 0
    ∷ 0 ∷ 0x3F800000 ∷ 0 ∷ 0
    ∷ 0 ∷ 0 ∷ 0x3F800000 ∷ 0
    ∷ 0 ∷ 0 ∷ 0 ∷ 0x3F800000
    ∷ []
unfolding identity to_bits
identity_words = refl
