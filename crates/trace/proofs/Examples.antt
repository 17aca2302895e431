-- The count counts: a mirror of NaN differs in every row of each section, and where the count is 0 each row is alike.
-- Assumes nothing.
use Prim.Native.Nat.{ℕ, zero, suc, ◌<◌}
use native.Mathlib.Omega.{arith}
use mathlib.Core.Path.{◌≡◌, refl}
use mathlib.Core.Bool.{Bool, true, false}
use mathlib.Core.List.{[], ◌∷◌, map}
use lib.Count.{count_leading_zeros}
use lib.Dec.{eqb}
use lib.Ieee.{nan, add, sub, mul, div, rem, neg, lt, is_nan, of_int, of_bits, to_bits}
use lib.ListN.{replicate}
use borrow.Author.Tests.{eqb-true, eqb-false}
use Rattle.d3d9_types.specs.Matrix.{identity}
use Rattle.d3d9_types.specs.Material.{default_material}
use Rattle.d3d9_types.specs.Light.{default_light}
use Rattle.float32.specs.Larger.{larger}
use Rattle.float32.specs.Root.{sqrt_of, root_of, nearest_root, floor_root, root_from}
use Rattle.matrix.specs.Entry.{column, row}
use Rattle.matrix.specs.Sum.{sum_from}
use Rattle.matrix.specs.Product.{dot, mat_mul}
use Rattle.matrix.specs.Transposition.{transposed}
use Rattle.matrix.specs.View.{view_transform_point, view_transform_dir}
use Rattle.sections.specs.declared.sections.Section.TheVariants.{Wv, Proj, Material, Lights, Palette, Tt, Fog, Ambient}
use Rattle.rows.specs.Rows.{floats, rows_of}
use Rattle.rows.specs.Matrices.{projection_rows, world_view_rows, palette_rows, texture_rows}
use Rattle.rows.specs.Fog.{fog_row}
use Rattle.rows.specs.Ambient.{over_full, rgba_of}
use Rattle.rows.specs.Material.{material_rows}
use Rattle.light_rows.specs.Floor.{smallest, floored}
use Rattle.directions.specs.Direction.{length_of, unit_direction}
use Rattle.light_rows.specs.Cone.{cone_of}
use Rattle.light_rows.specs.Light.{kind_of, light_rows, lights_rows}
use Rattle.sections.specs.Counts.{places, palette_matrices}
use Rattle.sections.specs.Key.{limit_of}
use Rattle.sections.specs.declared.key.FfVsKey.{FfVsKey}
use Rattle.packing.specs.Inputs.{packed_rows}
use Rattle.d3d9_model.specs.State.{AbstractState, fresh_abstract}
use Rattle.d3d9_model.specs.Lights.{lookup, is_there, light_enabled, changed_at, count_beyond, lights?, active_of, abstract_active}
use Rattle.d3d9_model.specs.Operations.{enable_light, set_texture_mask, full, abstract_refusal, abstract_change, abstract_step}
use Rattle.packing_agreement.specs.Abstract.{matrices_from, abstract_inputs, abstract_rows}
use Rattle.trace.specs.Count.{alike, alike_at, row_differs, count_below, differing}

-- lit, with one light and three matrices
abbrev lit_key : FfVsKey
lit_key =
    record {
      has_rhw = false;
      lighting_enabled = true;
      specular_enable = false;
      vertex_blend_indexed = false;
      preview = false;
      light_active_mask = 1;
      fog_mode = 0;
      vertex_blend_count = 3;
    }

-- and up to the third stage's texture matrix
abbrev one_light : AbstractState
one_light = abstract_step (abstract_step fresh_abstract (enable_light 0 true)) (set_texture_mask 4)

-- "P2 lit 14 …": four rows from row 10 on; six rows a light; four a matrix; fog and the ambient colour a row each
pub wrong-rows : map (differing (replicate 4460 nan) lit_key one_light) (Wv ∷ Proj ∷ Material ∷ Lights ∷ Palette ∷ Tt ∷ Fog ∷ Ambient ∷ []) ≡ 4 ∷ 4 ∷ 4 ∷ 6 ∷ 12 ∷ 12 ∷ 1 ∷ 1 ∷ []
unfolding count_leading_zeros places texture_rows fog_row rgba_of over_full limit_of differing count_below row_differs alike_at alike abstract_rows abstract_inputs matrices_from packed_rows palette_matrices abstract_step abstract_refusal abstract_change full lookup is_there count_beyond light_enabled changed_at lights? active_of abstract_active fresh_abstract world_view_rows projection_rows material_rows palette_rows lights_rows light_rows kind_of unit_direction length_of floored smallest cone_of larger sqrt_of root_of nearest_root floor_root root_from floats rows_of mat_mul dot transposed view_transform_point view_transform_dir column row sum_from add sub mul div rem neg lt is_nan of_int of_bits to_bits identity default_material default_light
wrong-rows = refl

-- a count of 0 leaves no row out
pub none_differs : (f : ℕ → Bool) (n : ℕ) → count_below f n ≡ 0 → (i : ℕ) → i < n → f i ≡ false
unfolding count_below
none_differs f zero e i small = absurd (omega (arith, small))
none_differs f (suc n) e i small = go (none_differs f n) (f n) refl (eqb i n) refl
  where
    go : (count_below f n ≡ 0 → (j : ℕ) → j < n → f j ≡ false) → (t : Bool) → f n ≡ t → (u : Bool) → eqb i n ≡ u → f i ≡ false
    go rest true q u p = absurd (omega (arith, rw q at e))
    go rest false q true p = rw (eqb-true i n p) q
    go rest false q false p = rest (omega (arith, rw q at e)) i (omega (arith, small, eqb-false i n p))
