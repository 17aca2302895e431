-- The material. Document 01: "Material never refuses and dirties MATERIAL." Direct3D calls it IDirect3DDevice9::SetMaterial.
use Rattle.d3d9_types.specs.declared.material.D3DMATERIAL9.{D3DMATERIAL9}
use Rattle.sections.specs.Sections.{bit_of}
use Rattle.ff_state.specs.State.{with_material}
use Rattle.ff_state.specs.Dirty.{dirtied}
use Rattle.ff_state.specs.declared.state.FfState.{FfState}
use Rattle.sections.specs.declared.sections.Section.TheVariants.{Material}

unfoldable pub set_material : FfState → D3DMATERIAL9 → FfState
set_material s m = dirtied (with_material s m) (bit_of Material)
