-- Document 01's cases P1 to P12: one test that is computed, and a law that turns it into each case. Assumes nothing.
use Prim.Native.Nat.{ℕ, zero, suc, ◌<◌}
use native.Mathlib.Nat.{le_of_suc-le-suc, not-suc-le-zero}
use mathlib.Core.Path.{◌≡◌, refl}
use mathlib.Core.Bool.{Bool, true, false, ◌&&◌, and-eq-true_iff}
use mathlib.Core.List.{List, [], ◌∷◌}
use lib.ListN.{length, get_or}
use lib.Ieee.{add, sub, mul, div, rem, neg, lt, is_nan, of_int, of_bits, to_bits}
use Rattle.d3d9_types.specs.Matrix.{identity}
use Rattle.d3d9_types.specs.Light.{default_light}
use Rattle.float32.specs.Larger.{larger}
use Rattle.float32.specs.Root.{sqrt_of, root_of, nearest_root, floor_root, root_from}
use Rattle.float32.specs.Cosine.{magnitude, turn, half_turn, quarter_turn, folded, fraction, horner, polynomial, cos_folded, cos_of}
use Rattle.matrix.specs.Entry.{column, row}
use Rattle.matrix.specs.Sum.{sum_from}
use Rattle.matrix.specs.Product.{dot, mat_mul}
use Rattle.matrix.specs.Transposition.{transposed}
use Rattle.matrix.specs.View.{view_transform_point, view_transform_dir}
use Rattle.words.specs.Bits.{has_bit, with_bit}
use Rattle.light_table.specs.Entry.{zero_light, zero_entry}
use Rattle.light_table.specs.Kinds.{contributes}
use Rattle.light_table.specs.Overflow.{used_count, lower_bound, find_entry, inserted_at}
use Rattle.light_table.specs.Active.{slots_from, active_overflow, low_bits, kind_mask, masks_of, four_bytes}
use Rattle.ff_state.specs.State.{fresh_state}
use Rattle.ff_state.specs.Dirty.{dirtied}
use Rattle.ff_state.specs.Transforms.{slot_of, placed, change_at, set_transform, transform_number}
use Rattle.ff_state.specs.Slots.{set_slot, define_slot, enable_slot}
use Rattle.ff_state.specs.Lights.{found, replace_entry, insert_entry, change_entry, set_light_at, flag, set_light_enabled_at, light_number}
use Rattle.ff_state.specs.Active.{light_active_mask, active_lights, compacted_light_masks, vs_source_light_inputs}
use Rattle.ff_state.specs.Cases.{p7, p8}
use Rattle.rows.specs.Rows.{floats, rows_of}
use Rattle.rows.specs.Matrices.{world_view_rows}
use Rattle.light_rows.specs.Floor.{smallest, floored}
use Rattle.directions.specs.Direction.{length_of, unit_direction}
use Rattle.light_rows.specs.Cone.{half_cosine, spot_scale, cone_of}
use Rattle.light_rows.specs.Light.{kind_of, light_rows, lights_rows}
use Rattle.packing.specs.Inputs.{packed_rows, mask_accepted}
use Rattle.packing.specs.Pack.{pack_inputs, pack_section}
use Rattle.sections.specs.Key.{limit_of}
use Rattle.sections.specs.Counts.{places, light_count, palette_matrices, palette_count, texture_count}
use Rattle.sections.specs.RowCount.{lighting_reach, texture_reach, palette_reach, ff_vs_row_count}
use Rattle.packing_agreement.specs.Cases.{p1, p2, p3, p4, p5, p6, p9, p10, p11, p12, packed, crowded, cases}
use lib.Count.{count_leading_zeros}

abbrev every : List Bool → Bool
every [] = true
every (b ∷ bs) = b && every bs

at : (bs : List Bool) → every bs ≡ true → (i : ℕ) → i < length bs → get_or bs i false ≡ true
at [] e i h = absurd (not-suc-le-zero h)
at (b ∷ bs) e zero h = ((and-eq-true_iff b (every bs)).0 e).0
at (b ∷ bs) e (suc i) h = at bs ((and-eq-true_iff b (every bs)).0 e).1 i (le_of_suc-le-suc h)

all-hold : every cases ≡ true
unfolding limit_of cases p1 p2 p3 p4 p5 p6 p7 p8 p9 p10 p11 p12 packed crowded pack_section pack_inputs packed_rows mask_accepted ff_vs_row_count lighting_reach texture_reach palette_reach light_count palette_count palette_matrices texture_count places count_leading_zeros floats rows_of world_view_rows lights_rows light_rows kind_of unit_direction length_of floored smallest cone_of spot_scale half_cosine cos_of cos_folded folded polynomial horner fraction magnitude turn half_turn quarter_turn larger sqrt_of root_of nearest_root floor_root root_from mat_mul dot transposed view_transform_point view_transform_dir column row sum_from add sub mul div rem neg lt is_nan of_int of_bits to_bits set_transform change_at slot_of placed transform_number set_light_at set_light_enabled_at flag change_entry insert_entry replace_entry found set_slot enable_slot define_slot dirtied vs_source_light_inputs compacted_light_masks active_lights light_active_mask slots_from active_overflow masks_of low_bits kind_mask four_bytes inserted_at find_entry lower_bound used_count with_bit has_bit contributes light_number zero_entry zero_light fresh_state identity default_light
all-hold = refl

-- P n is case n − 1 of the list
pub case_holds : (i : ℕ) → i < 12 → get_or cases i false ≡ true
unfolding cases
case_holds = at cases all-hold
