-- The definitions compute to document 01's cases, so that a definition bent together with its code is refused here. Assumes nothing.
use Prim.Native.Nat.{ℕ}
use mathlib.Core.Path.{◌≡◌, refl}
use mathlib.Core.Bool.{true, false}
use mathlib.Core.List.{List, [], ◌∷◌, map}
use lib.IntN.{pos}
use lib.Ieee.{Float, binary32, of_int, to_bits, add, mul}
use Rattle.d3d9_types.specs.Numbers.{zero, one}
use Rattle.d3d9_types.specs.Light.{default_light}
use Rattle.matrix.specs.Entry.{column, row}
use Rattle.matrix.specs.Sum.{sum_from}
use Rattle.matrix.specs.Product.{dot, mat_mul}
use Rattle.words.specs.Bits.{has_bit, with_bit}
use Rattle.light_table.specs.Entry.{zero_light, zero_entry}
use Rattle.light_table.specs.Kinds.{contributes}
use Rattle.light_table.specs.Overflow.{used_count, lower_bound, find_entry, inserted_at}
use Rattle.light_table.specs.Active.{slots_from, active_overflow, low_bits, kind_mask, masks_of, four_bytes}
use Rattle.d3d9_types.specs.declared.matrix.Row.{Row}
use Rattle.d3d9_types.specs.declared.matrix.D3DMATRIX.{D3DMATRIX}
use Rattle.d3d9_types.specs.declared.material.D3DMATERIAL9.{D3DMATERIAL9}
use Rattle.d3d9_types.specs.declared.light.D3DLIGHT9.{D3DLIGHT9}
use Rattle.d3d9_model.specs.Operations.{Operation, set_transform, multiply_transform, set_material, set_light, enable_light, set_fog_start, set_fog_end, set_fog_density, set_ambient, set_texture_mask, mark}
use Rattle.ff_state.specs.declared.state.FfState.{FfState}
use Rattle.ff_state.specs.State.{fresh_state, dirty_word}
use Rattle.ff_state.specs.Dirty.{dirtied, mark_ff_vs_dirty, take_ff_vs_dirty}
use Rattle.ff_state.specs.Transforms.{slot_of, place_sections, place_matrix, placed, change_at, transform_number, world_palette_used}
use Rattle.ff_state.specs.Transforms as Transforms
use Rattle.ff_state.specs.Material as Materials
use Rattle.ff_state.specs.RenderStates as States
use Rattle.ff_state.specs.Operate.{operate}
use Rattle.ff_state.specs.Slots.{set_slot, define_slot, enable_slot}
use Rattle.ff_state.specs.Lights.{found, replace_entry, insert_entry, change_entry, set_light_at, flag, set_light_enabled_at}
use Rattle.ff_state.specs.Overflow.{used}
use Rattle.ff_state.specs.Active.{light_active_mask, active_lights, compacted_light_masks, vs_source_light_inputs}
use Rattle.ff_state.specs.Cases.{light_of, lit, p7, p8}

-- operations one after another
abbrev after : List Operation → FfState → FfState
after [] s = s
after (o ∷ os) s = after os (operate s o).state

p8_holds : p8 ≡ true
unfolding p8 Transforms.set_transform change_at slot_of transform_number
p8_holds = refl

p7_holds : p7 ≡ true
unfolding p7 vs_source_light_inputs compacted_light_masks active_lights light_active_mask set_light_enabled_at set_light_at flag change_entry insert_entry replace_entry found enable_slot define_slot set_slot dirtied fresh_state four_bytes masks_of kind_mask low_bits active_overflow slots_from inserted_at find_entry lower_bound used_count contributes zero_entry zero_light has_bit with_bit default_light
p7_holds = refl

-- lights that are off beside P7's: they are neither directional nor spot in its word
unlit_slots : let two = lit (lit fresh_state 0 3) 3 2 in vs_source_light_inputs (set_light_at (set_light_at two 4 (light_of 3)).state 5 (light_of 2)).state ≡ 0x00080109
unfolding vs_source_light_inputs compacted_light_masks active_lights light_active_mask set_light_enabled_at set_light_at enable_slot define_slot set_slot dirtied fresh_state four_bytes contributes has_bit with_bit default_light
unlit_slots = refl

-- overflow lights stand by ascending index, in whatever order the calls came
ascending_entries : (l : D3DLIGHT9) → map (λ e. e.index) (used (after (set_light 9 l ∷ enable_light 12 true ∷ set_light 8 l ∷ set_light 9 l ∷ []) fresh_state)) ≡ 8 ∷ 9 ∷ 12 ∷ []
unfolding operate set_light_at set_light_enabled_at change_entry insert_entry replace_entry found dirtied fresh_state inserted_at find_entry lower_bound used_count
ascending_entries l = refl

-- ---- the dirty word

abbrev clean : FfState
clean = (take_ff_vs_dirty fresh_state).state

abbrev word_after : Operation → ℕ
word_after op = dirty_word (operate clean op).state

-- "view gives WV, PALETTE, LIGHTS; projection PROJ; texture TT; 256 WV and PALETTE; 257 up PALETTE", and no other number any
abbrev numbers : List ℕ
numbers = 1 ∷ 2 ∷ 3 ∷ 15 ∷ 16 ∷ 23 ∷ 256 ∷ 257 ∷ 511 ∷ 512 ∷ []

abbrev words : List ℕ
words = 0 ∷ 25 ∷ 2 ∷ 0 ∷ 32 ∷ 32 ∷ 17 ∷ 16 ∷ 16 ∷ 0 ∷ []

transform_words : (m : D3DMATRIX) → (map (λ n. word_after (set_transform n m)) numbers ≡ words) × (map (λ n. word_after (multiply_transform n m)) numbers ≡ words)
unfolding operate Transforms.set_transform Transforms.multiply_transform change_at slot_of placed place_sections dirtied take_ff_vs_dirty
transform_words m = (refl, refl)

material_word : (m : D3DMATERIAL9) → word_after (set_material m) ≡ 4
unfolding operate Materials.set_material dirtied take_ff_vs_dirty
material_word m = refl

light-words : (l : D3DLIGHT9) → map word_after (set_light 7 l ∷ set_light 8 l ∷ enable_light 0 true ∷ enable_light 9 false ∷ []) ≡ 8 ∷ 8 ∷ 8 ∷ 8 ∷ []
unfolding operate set_light_at set_light_enabled_at change_entry insert_entry replace_entry found enable_slot define_slot set_slot dirtied take_ff_vs_dirty fresh_state find_entry lower_bound used_count has_bit
light-words l = refl

-- document 02, T-05: an equal value dirties too
state_words : map word_after (set_fog_start zero ∷ set_fog_end zero ∷ set_fog_density zero ∷ set_ambient 0 ∷ set_texture_mask 0 ∷ []) ≡ 64 ∷ 64 ∷ 64 ∷ 128 ∷ 32 ∷ []
unfolding operate States.set_fog_start States.set_fog_end States.set_fog_density States.set_ambient States.set_texture_mask dirtied take_ff_vs_dirty
state_words = refl

-- each in its own field
states_set : (x y z : Float)
    → ((after (set_fog_start x ∷ set_ambient 7 ∷ set_fog_end y ∷ set_texture_mask 5 ∷ set_fog_density z ∷ []) fresh_state).render_states ≡ record { fog_start = x; fog_end = y; fog_density = z; ambient = 7 })
    × ((after (set_texture_mask 5 ∷ set_ambient 7 ∷ []) fresh_state).tt_active_mask ≡ 5)
unfolding operate States.set_fog_start States.set_fog_end States.set_fog_density States.set_ambient States.set_texture_mask dirtied
states_set x y z = (refl, refl)

-- a mark adds its bits; above 255 it adds none
mark_words : (map word_after (mark 0 ∷ mark 38 ∷ mark 63 ∷ mark 64 ∷ mark 255 ∷ mark 256 ∷ []) ≡ 0 ∷ 38 ∷ 63 ∷ 64 ∷ 255 ∷ 0 ∷ []) × (dirty_word (after (mark 5 ∷ mark 34 ∷ mark 256 ∷ []) clean) ≡ 39)
unfolding operate mark_ff_vs_dirty dirtied take_ff_vs_dirty
mark_words = (refl, refl)

-- "A fresh state has zeros and all eight bits", and a take leaves none
fresh_word : ((take_ff_vs_dirty fresh_state).bits ≡ 255) × (dirty_word clean ≡ 0)
unfolding take_ff_vs_dirty fresh_state
fresh_word = (refl, refl)

-- ---- "the highest palette index ever set or multiplied, plus 1, and 1 when fresh"

palette_used : (m : D3DMATRIX)
    → (world_palette_used fresh_state ≡ 1)
    × (world_palette_used (after (set_transform 256 m ∷ set_transform 23 m ∷ set_transform 512 m ∷ []) fresh_state) ≡ 1)
    × (world_palette_used (after (set_transform 263 m ∷ set_transform 258 m ∷ []) fresh_state) ≡ 8)
    × (world_palette_used (after (set_transform 263 m ∷ multiply_transform 511 m ∷ []) fresh_state) ≡ 256)
unfolding world_palette_used operate Transforms.set_transform Transforms.multiply_transform change_at slot_of placed dirtied fresh_state
palette_used m = (refl, refl, refl, refl)

-- ---- Document 02, T-02: "Multiply now stores argument × slot"

-- the identity with another diagonal and another last row
abbrev corner : Float → Float → D3DMATRIX
corner d x =
    record {
      r0 = record { x = d; y = zero; z = zero; w = zero };
      r1 = record { x = zero; y = d; z = zero; w = zero };
      r2 = record { x = zero; y = zero; z = d; w = zero };
      r3 = record { x = x; y = zero; z = zero; w = one };
    }

abbrev bits : Row → List ℕ
bits r = to_bits binary32 r.x ∷ to_bits binary32 r.y ∷ to_bits binary32 r.z ∷ to_bits binary32 r.w ∷ []

-- a translation by 1,0,0 stands there and a scaling by 2 is the argument: the last row is 1,0,0,1
scaled_banner : bits (after (set_transform 2 (corner one one) ∷ multiply_transform 2 (corner (of_int binary32 (pos 2)) zero) ∷ []) fresh_state).view.r3 ≡ 0x3F800000 ∷ 0 ∷ 0 ∷ 0x3F800000 ∷ []
unfolding operate Transforms.set_transform Transforms.multiply_transform change_at slot_of placed place_matrix dirtied fresh_state mat_mul dot column row sum_from add mul of_int to_bits
scaled_banner = refl
