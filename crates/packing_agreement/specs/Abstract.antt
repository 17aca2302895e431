-- The packing of the abstract state. Document 01, 'The list and the count of demand 3': "The state that is packed is a plain book".
use Rattle.std.specs.Prelude.{ℕ, zero, suc, List, [], ◌∷◌, Float}
use Rattle.d3d9_types.specs.declared.matrix.Row.{Row}
use Rattle.d3d9_types.specs.declared.matrix.D3DMATRIX.{D3DMATRIX}
use Rattle.d3d9_model.specs.State.{AbstractState}
use Rattle.d3d9_model.specs.Lights.{abstract_active}
use Rattle.sections.specs.declared.sections.Section.{Section}
use Rattle.sections.specs.declared.key.FfVsKey.{FfVsKey}
use Rattle.packing.specs.Inputs.{Inputs, packed_rows}
use Rattle.packing.specs.Pack.{PackOutcome, pack_inputs}

-- n matrices from a state number on
unfoldable pub matrices_from : (ℕ → D3DMATRIX) → ℕ → ℕ → List D3DMATRIX
matrices_from matrix from zero = []
matrices_from matrix from (suc n) = matrix from ∷ matrices_from matrix (suc from) n

-- state numbers: 2 the view, 3 the projection, 16 to 23 the texture stages, 256 to 511 the palette
unfoldable pub abstract_inputs : AbstractState → Inputs
abstract_inputs a =
    record {
      view = a.matrix 2;
      projection = a.matrix 3;
      palette = matrices_from a.matrix 256 256;
      material = a.material;
      lights = abstract_active a;
      textures = matrices_from a.matrix 16 8;
      texture_mask = a.texture_mask;
      render_states = a.render_states;
    }

-- the rows of a section under a key
unfoldable pub abstract_rows : Section → AbstractState → FfVsKey → List Row
abstract_rows σ a k = packed_rows σ k (abstract_inputs a)

unfoldable pub abstract_pack : Section → AbstractState → FfVsKey → List Float → PackOutcome
abstract_pack σ a k dst = pack_inputs σ k (abstract_inputs a) dst
