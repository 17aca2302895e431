-- Rows of a material. Document 01, 'Rows of a section'; ff_state.rs 1766–1789.
use Rattle.std.specs.Prelude.{Bool, cond, List, [], ◌∷◌}
use Rattle.d3d9_types.specs.Numbers.{zero}
use Rattle.d3d9_types.specs.Color.{color_row}
use Rattle.d3d9_types.specs.declared.matrix.Row.{Row}
use Rattle.d3d9_types.specs.declared.material.D3DMATERIAL9.{D3DMATERIAL9}

-- "a fifth row (power,0,0,0)"
abbrev pub power_row : D3DMATERIAL9 → Row
power_row m = record { x = m.power; y = zero; z = zero; w = zero }

-- "diffuse only when unlit; then ambient, specular, emissive; a fifth row if lit and specular"
unfoldable pub material_rows : Bool → Bool → D3DMATERIAL9 → List Row
material_rows lit specular m =
    color_row m.diffuse
    ∷ cond lit (color_row m.ambient ∷ color_row m.specular ∷ color_row m.emissive ∷ cond specular (power_row m ∷ []) []) []
