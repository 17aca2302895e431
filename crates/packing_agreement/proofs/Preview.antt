-- Document 02, T-01, computed on states of three to nine active lights: which masks are packed under the flag and without it, and that the preview's lights are the first four.
-- Assumes nothing.
use Prim.Native.Nat.{ℕ, zero, suc, ◌+◌, ◌*◌}
use mathlib.Core.Path.{◌≡◌, refl}
use mathlib.Core.Bool.{Bool, true, false}
use mathlib.Core.List.{List, [], ◌∷◌, map}
use lib.Count.{count_leading_zeros}
use lib.IntN.{pos}
use lib.Ieee.{binary32, of_int, to_bits}
use lib.ListN.{get_or, replicate}
use Rattle.d3d9_types.specs.Numbers as Numbers
use Rattle.d3d9_types.specs.Light.{default_light}
use Rattle.d3d9_types.specs.declared.light.D3DLIGHT9.{D3DLIGHT9}
use Rattle.words.specs.Bits.{has_bit, with_bit}
use Rattle.light_table.specs.Entry.{zero_light, zero_entry}
use Rattle.light_table.specs.Kinds.{contributes}
use Rattle.light_table.specs.Overflow.{used_count, lower_bound, find_entry, inserted_at}
use Rattle.light_table.specs.Active.{slots_from, active_overflow, low_bits, kind_mask, masks_of}
use Rattle.ff_state.specs.State.{fresh_state}
use Rattle.ff_state.specs.Dirty.{dirtied}
use Rattle.ff_state.specs.Slots.{set_slot, define_slot, enable_slot}
use Rattle.ff_state.specs.Lights.{found, replace_entry, insert_entry, change_entry, set_light_at, flag, set_light_enabled_at}
use Rattle.ff_state.specs.Active.{light_active_mask, active_lights}
use Rattle.ff_state.specs.declared.state.FfState.{FfState}
use Rattle.sections.specs.declared.sections.Section.TheVariants.{Lights}
use Rattle.sections.specs.Counts.{places, light_count}
use Rattle.sections.specs.Key.{limit_of}
use Rattle.sections.specs.declared.key.FfVsKey.{FfVsKey}
use Rattle.rows.specs.Rows.{floats, rows_of}
use Rattle.light_rows.specs.Light.{light_rows, lights_rows}
use Rattle.packing.specs.Inputs.{packed_rows, mask_accepted}
use Rattle.packing.specs.Pack.{pack_inputs, pack_section, pack_number}

-- a point light of a range
abbrev ranged : ℕ → D3DLIGHT9
ranged n =
    record {
      type_ = 1;
      diffuse = default_light.diffuse;
      specular = default_light.specular;
      ambient = default_light.ambient;
      position = default_light.position;
      direction = default_light.direction;
      range = of_int binary32 (pos n);
      falloff = default_light.falloff;
      attenuation0 = default_light.attenuation0;
      attenuation1 = default_light.attenuation1;
      attenuation2 = default_light.attenuation2;
      theta = default_light.theta;
      phi = default_light.phi;
    }

-- lights 0 to n − 1, enabled, light i of range i + 1: from nine on the last is no slot's
unfoldable burning : ℕ → FfState
burning zero = fresh_state
burning (suc n) = (set_light_enabled_at (set_light_at (burning n) n (ranged (suc n))).state n true).state

abbrev key_of : Bool → ℕ → FfVsKey
key_of preview mask =
    record {
      has_rhw = false;
      lighting_enabled = true;
      specular_enable = false;
      vertex_blend_indexed = false;
      preview = preview;
      light_active_mask = mask;
      fog_mode = 0;
      vertex_blend_count = 0;
    }

-- the number that packing n lights under a mask into so many rows answers, in the preview and on the main screen
abbrev answers : ℕ → ℕ → ℕ → List ℕ
answers n mask rows = map (λ (preview : Bool). pack_number (pack_section Lights (burning n) (key_of preview mask) (replicate (4 * rows) Numbers.zero)).answer) (true ∷ false ∷ [])

-- "its mask has at most four bits, and refusal 5 compares with the mask under the caller's limit": of nine lights, and of five; of four or fewer the mask is the same either way
answers_right :
    answers 9 0x0F 24 ∷ answers 9 0xFF 48 ∷ answers 9 0xFF 24 ∷ answers 9 0 0 ∷ answers 5 0x1F 30 ∷ answers 5 0x0F 24 ∷ answers 4 0x0F 24 ∷ answers 3 0x07 18 ∷ []
    ≡ (0 ∷ 5 ∷ []) ∷ (5 ∷ 0 ∷ []) ∷ (4 ∷ 4 ∷ []) ∷ (0 ∷ 0 ∷ []) ∷ (5 ∷ 0 ∷ []) ∷ (0 ∷ 5 ∷ []) ∷ (0 ∷ 0 ∷ []) ∷ (0 ∷ 0 ∷ []) ∷ []
unfolding limit_of burning pack_section pack_inputs pack_number packed_rows mask_accepted light_count places count_leading_zeros set_light_at set_light_enabled_at flag change_entry insert_entry replace_entry found set_slot enable_slot define_slot dirtied active_lights light_active_mask slots_from active_overflow masks_of low_bits kind_mask inserted_at find_entry lower_bound used_count with_bit has_bit contributes zero_entry zero_light fresh_state default_light
answers_right = refl

-- the range of packed light i: the last float of its fifth row
abbrev preview_range : ℕ → ℕ
preview_range i = to_bits binary32 (get_or (pack_section Lights (burning 9) (key_of true 0x0F) (replicate 96 Numbers.zero)).floats (24 * i + 19) Numbers.zero)

-- "The preview list is the first four of the full one": 1, 2, 3 and 4
first_four : map preview_range (0 ∷ 1 ∷ 2 ∷ 3 ∷ []) ≡ 0x3F800000 ∷ 0x40000000 ∷ 0x40400000 ∷ 0x40800000 ∷ []
unfolding limit_of burning pack_section pack_inputs packed_rows mask_accepted light_count places count_leading_zeros floats rows_of lights_rows light_rows of_int to_bits set_light_at set_light_enabled_at flag change_entry insert_entry replace_entry found set_slot enable_slot define_slot dirtied active_lights light_active_mask slots_from active_overflow masks_of low_bits kind_mask inserted_at find_entry lower_bound used_count with_bit has_bit contributes zero_entry zero_light fresh_state default_light
first_four = refl
