-- The abstract state: document 01's "plain book" ('The list and the count of demand 3'). "It holds matrices by state number, material, and lights by index, each with an enable." Document 02, T-05: "the plain book holds what they set".
use Rattle.std.specs.Prelude.{ℕ, ◌-◌, max, Bool, cond, ◌&&◌, List, [], leb, eqb}
use Rattle.d3d9_types.specs.Matrix.{identity}
use Rattle.d3d9_types.specs.Material.{default_material}
use Rattle.d3d9_types.specs.RenderStates.{fresh_states}
use Rattle.d3d9_types.specs.declared.matrix.D3DMATRIX.{D3DMATRIX}
use Rattle.d3d9_types.specs.declared.material.D3DMATERIAL9.{D3DMATERIAL9}
use Rattle.d3d9_types.specs.declared.light.D3DLIGHT9.{D3DLIGHT9}
use Rattle.d3d9_types.specs.declared.render_states.RenderStates.{RenderStates}

pub record AbstractLight : Type 0 where
  pub index : ℕ
  pub enabled : Bool
  pub light : D3DLIGHT9

pub record AbstractState : Type 0 where
  -- by state number
  pub matrix : ℕ → D3DMATRIX
  pub material : D3DMATERIAL9
  -- by ascending index, each index once
  pub lights : List AbstractLight
  -- "the highest palette index ever set or multiplied"
  pub highest_index : ℕ
  -- "fog start, end and density, an ambient colour and a texture mask"
  pub render_states : RenderStates
  pub texture_mask : ℕ

-- "It begins with 000's fresh matrices, the default material and no light."; `world_palette_used` is "1 when fresh"; "A fresh state has zeros" (T-05)
unfoldable pub fresh_abstract : AbstractState
fresh_abstract =
    record {
      matrix = λ n. identity;
      material = default_material;
      lights = [];
      highest_index = 0;
      render_states = fresh_states;
      texture_mask = 0;
    }

-- "256 to 511 palette": the highest index once the matrix of a state number is stored
unfoldable pub raised : ℕ → ℕ → ℕ
raised highest n = cond (leb 256 n && leb n 511) (max highest (n - 256)) highest

-- one update for each field; of the matrices, one
abbrev pub replaced_matrix : AbstractState → ℕ → D3DMATRIX → AbstractState
replaced_matrix a n m =
    record a { matrix = λ k. cond (eqb k n) m (a.matrix k); highest_index = raised a.highest_index n }

abbrev pub replaced_material : AbstractState → D3DMATERIAL9 → AbstractState
replaced_material a m = record a { material = m }

abbrev pub replaced_lights : AbstractState → List AbstractLight → AbstractState
replaced_lights a ls = record a { lights = ls }

abbrev pub replaced_states : AbstractState → RenderStates → AbstractState
replaced_states a r = record a { render_states = r }

abbrev pub replaced_mask : AbstractState → ℕ → AbstractState
replaced_mask a t = record a { texture_mask = t }
