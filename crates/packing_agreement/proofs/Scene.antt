-- The scene of crates/rows and crates/light_rows, set into a fresh state by calls: each section packs the Rust's rows of it. Computed.
-- Assumes nothing.
use Prim.Native.Nat.{ℕ}
use mathlib.Core.Path.{◌≡◌, refl}
use mathlib.Core.Bool.{true, false}
use mathlib.Core.List.{List, [], ◌∷◌, ◌++◌}
use lib.Count.{count_leading_zeros}
use lib.Ieee.{add, sub, mul, div, rem, neg, lt, is_nan, of_int, of_bits, to_bits}
use Rattle.d3d9_types.specs.Matrix.{identity}
use Rattle.d3d9_types.specs.Light.{default_light}
use Rattle.float32.specs.Larger.{larger}
use Rattle.float32.specs.Root.{sqrt_of, root_of, nearest_root, floor_root, root_from}
use Rattle.float32.specs.Cosine.{magnitude, turn, half_turn, quarter_turn, folded, fraction, horner, polynomial, cos_folded, cos_of}
use Rattle.matrix.specs.Entry.{column, row}
use Rattle.matrix.specs.Sum.{sum_from}
use Rattle.matrix.specs.Product.{dot, mat_mul}
use Rattle.matrix.specs.Transposition.{transposed}
use Rattle.matrix.specs.View.{view_transform_point, view_transform_dir}
use Rattle.words.specs.Bits.{has_bit, with_bit}
use Rattle.light_table.specs.Entry.{zero_light, zero_entry}
use Rattle.light_table.specs.Kinds.{contributes}
use Rattle.light_table.specs.Overflow.{used_count}
use Rattle.light_table.specs.Active.{slots_from, active_overflow, low_bits, kind_mask, masks_of}
use Rattle.ff_state.specs.State.{fresh_state}
use Rattle.ff_state.specs.Dirty.{dirtied}
use Rattle.ff_state.specs.Transforms.{slot_of, placed, change_at, set_transform}
use Rattle.ff_state.specs.Material.{set_material}
use Rattle.ff_state.specs.RenderStates.{set_fog_start, set_fog_end, set_fog_density, set_ambient, set_texture_mask}
use Rattle.ff_state.specs.Slots.{set_slot, define_slot, enable_slot}
use Rattle.ff_state.specs.Lights.{set_light_at, flag, set_light_enabled_at}
use Rattle.ff_state.specs.Active.{light_active_mask, active_lights}
use Rattle.ff_state.specs.declared.state.FfState.{FfState}
use Rattle.sections.specs.declared.sections.Section.TheVariants.{Wv, Proj, Material, Lights, Palette, Tt, Fog, Ambient}
use Rattle.sections.specs.Key.{limit_of}
use Rattle.sections.specs.declared.key.FfVsKey.{FfVsKey}
use Rattle.sections.specs.Counts.{places, material_count, light_count, palette_matrices, palette_count, texture_count}
use Rattle.rows.specs.Rows.{floats, rows_of}
use Rattle.rows.specs.Matrices.{projection_rows, world_view_rows, palette_rows, texture_rows}
use Rattle.rows.specs.Material.{material_rows}
use Rattle.rows.specs.Fog.{fog_row}
use Rattle.rows.specs.Ambient.{over_full, rgba_of}
use Rattle.rows.proofs.Scene.{Bits, world, second_world, view, projection, material, projection_bits, world_view_bits, second_bits, material_bits, world_bits, fog_bits, p}
use Rattle.light_rows.specs.Floor.{smallest, floored}
use Rattle.directions.specs.Direction.{length_of, unit_direction}
use Rattle.light_rows.specs.Cone.{half_cosine, spot_scale, cone_of}
use Rattle.light_rows.specs.Light.{kind_of, light_rows, lights_rows}
use Rattle.light_rows.proofs.Scene.{spot, spot_bits}
use Rattle.packing.specs.Inputs.{packed_rows, mask_accepted}
use Rattle.packing.specs.Pack.{pack_inputs, pack_section}
use Rattle.packing_agreement.specs.Cases.{key_of, packed}

unfoldable moved : FfState
moved =
    let first = (set_transform fresh_state 256 world).state in
    let second = (set_transform first 257 second_world).state in
    let seen = (set_transform second 2 view).state in
    (set_transform seen 3 projection).state

unfoldable scene : FfState
scene = (set_light_enabled_at (set_light_at (set_material moved material) 0 spot).state 0 true).state

-- lit and specular, one light, two matrices
abbrev key : FfVsKey
key = key_of false true true false 1 2

abbrev flat : List Bits → List ℕ
flat [] = []
flat (b ∷ bs) = b.x ∷ b.y ∷ b.z ∷ b.w ∷ flat bs

wv_right : packed Wv scene key ≡ flat world_view_bits
unfolding scene moved packed pack_section pack_inputs packed_rows mask_accepted floats world_view_rows mat_mul dot transposed column row sum_from add mul of_int to_bits set_transform change_at slot_of placed set_material set_light_at set_light_enabled_at flag set_slot enable_slot define_slot dirtied with_bit has_bit fresh_state identity
wv_right = refl

proj_right : packed Proj scene key ≡ flat projection_bits
unfolding scene moved packed pack_section pack_inputs packed_rows mask_accepted floats projection_rows transposed column row of_int to_bits set_transform change_at slot_of placed set_material set_light_at set_light_enabled_at flag set_slot enable_slot define_slot dirtied with_bit has_bit fresh_state identity
proj_right = refl

material_right : packed Material scene key ≡ flat material_bits
unfolding scene moved packed pack_section pack_inputs packed_rows mask_accepted floats material_rows material_count of_int to_bits set_transform change_at slot_of placed set_material set_light_at set_light_enabled_at flag set_slot enable_slot define_slot dirtied with_bit has_bit fresh_state identity
material_right = refl

lights_right : packed Lights scene key ≡ flat spot_bits
unfolding limit_of scene moved packed pack_section pack_inputs packed_rows mask_accepted floats light_count places count_leading_zeros rows_of lights_rows light_rows kind_of unit_direction length_of floored smallest cone_of spot_scale half_cosine cos_of cos_folded folded polynomial horner fraction magnitude turn half_turn quarter_turn larger sqrt_of root_of nearest_root floor_root root_from view_transform_point view_transform_dir column row sum_from add sub mul div rem neg lt is_nan of_int of_bits to_bits active_lights light_active_mask slots_from active_overflow masks_of low_bits kind_mask used_count contributes set_transform change_at slot_of placed set_material set_light_at set_light_enabled_at flag set_slot enable_slot define_slot dirtied with_bit has_bit fresh_state identity default_light zero_entry zero_light
lights_right = refl

palette_right : packed Palette scene key ≡ flat (world_view_bits ++ second_bits)
unfolding scene moved packed pack_section pack_inputs packed_rows mask_accepted floats palette_count palette_matrices palette_rows rows_of world_view_rows mat_mul dot transposed column row sum_from add mul of_int to_bits set_transform change_at slot_of placed set_material set_light_at set_light_enabled_at flag set_slot enable_slot define_slot dirtied with_bit has_bit fresh_state identity
palette_right = refl

-- ---- document 02, T-05

-- fog of 2, 3 and 5, a colour, and three texture matrices of which the second's stage is not in the mask
unfoldable misty : FfState
misty =
    let first = (set_transform fresh_state 16 projection).state in
    let second = (set_transform first 17 world).state in
    let third = (set_transform second 18 projection).state in
    let fogged = set_fog_density (set_fog_end (set_fog_start third (p 2)) (p 3)) (p 5) in
    set_texture_mask (set_ambient fogged 0xFF804020) 5

abbrev in_mode : ℕ → FfVsKey
in_mode mode =
    record {
      has_rhw = false;
      lighting_enabled = false;
      specular_enable = false;
      vertex_blend_indexed = false;
      preview = false;
      light_active_mask = 0;
      fog_mode = mode;
      vertex_blend_count = 0;
    }

fog_right : (packed Fog misty (in_mode 1) ≡ flat fog_bits) × (packed Fog misty (in_mode 0) ≡ 0 ∷ 0 ∷ 0 ∷ 0 ∷ [])
unfolding misty packed pack_section pack_inputs packed_rows mask_accepted floats fog_row of_int to_bits set_transform change_at slot_of placed set_fog_start set_fog_end set_fog_density set_ambient set_texture_mask dirtied fresh_state identity
fog_right = (refl, refl)

ambient_right : packed Ambient misty (in_mode 0) ≡ 0x3F008081 ∷ 0x3E808081 ∷ 0x3E008081 ∷ 0x3F800000 ∷ []
unfolding misty packed pack_section pack_inputs packed_rows mask_accepted floats rgba_of over_full div of_int to_bits set_transform change_at slot_of placed set_fog_start set_fog_end set_fog_density set_ambient set_texture_mask dirtied fresh_state identity
ambient_right = refl

textures_right : packed Tt misty (in_mode 0) ≡ flat (projection_bits ++ world_bits ++ projection_bits)
unfolding misty packed pack_section pack_inputs packed_rows mask_accepted floats rows_of texture_rows texture_count places count_leading_zeros projection_rows transposed column row of_int to_bits set_transform change_at slot_of placed set_fog_start set_fog_end set_fog_density set_ambient set_texture_mask dirtied fresh_state identity
textures_right = refl
