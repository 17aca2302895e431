-- Lights by any index. Document 01, 'Calls that change the state', the paragraph on lights; in Direct3D IDirect3DDevice9::SetLight, LightEnable, GetLight, GetLightEnable.
use Rattle.std.specs.Prelude.{ℕ, ◌+◌, Bool, cond, not, Option, Some, None, Result, Ok, Err, is_ok, ◌&&◌, ◌||◌, ltb, eqb, set, get_or, List, codes}
use Rattle.d3d9_types.specs.Light.{default_light}
use Rattle.d3d9_types.specs.declared.light.D3DLIGHT9.{D3DLIGHT9}
use Rattle.words.specs.Bits.{has_bit}
use Rattle.sections.specs.Sections.{bit_of}
use Rattle.light_table.specs.Entry.{light_entry, zero_entry}
use Rattle.ff_state.specs.State.{with_overflow_lights, with_overflow_count}
use Rattle.ff_state.specs.Dirty.{dirtied}
use Rattle.ff_state.specs.Slots.{set_slot, enable_slot}
use Rattle.light_table.specs.Overflow.{used_count, find_entry, place, inserted_at}
use Rattle.ff_state.specs.Overflow.{used}
use Rattle.sections.specs.declared.sections.Section.TheVariants as Sections
use Rattle.ff_state.specs.declared.state.FfState.{FfState}
use Rattle.light_table.specs.declared.entry.OverflowLight.{OverflowLight}
use Rattle.ff_state.specs.Changed.{Changed, accepted, refused}
use Rattle.ff_state.specs.declared.lights.TableFull.{TableFull}

abbrev pub lights_bit : ℕ
lights_bit = bit_of Sections.Lights

-- where an index is, or would be, among the entries in use, and the entry there
unfoldable pub found : FfState → ℕ → Result ℕ ℕ
found s i = find_entry (used s) i

abbrev pub stored_entry : FfState → ℕ → OverflowLight
stored_entry s at = get_or s.overflow_lights at zero_entry

-- an entry in the place of a stored one
unfoldable pub replace_entry : FfState → ℕ → OverflowLight → Changed TableFull
replace_entry s at e = accepted (dirtied (with_overflow_lights s (set s.overflow_lights at e)) lights_bit)

-- one entry more, if fewer than 56 are in use
unfoldable pub insert_entry : FfState → ℕ → OverflowLight → Changed TableFull
insert_entry s at e =
    let n = used_count s.overflow_count in
    cond (ltb n 56 && ltb at 56)
    (accepted (dirtied (with_overflow_count (with_overflow_lights s (inserted_at at e s.overflow_lights)) (n + 1)) lights_bit))
    (refused s (record {}))

-- a light beyond the slots: an entry that is stored is changed, and one that is not is made
unfoldable pub change_entry : FfState → Result ℕ ℕ → (OverflowLight → OverflowLight) → OverflowLight → Changed TableFull
change_entry s (Ok at) change made = replace_entry s at (change (stored_entry s at))
change_entry s (Err at) change made = insert_entry s at made

-- "Set and enable refuse 3 exactly if the index is 8 or more, not stored, and 56 such are stored."
unfoldable pub has_room : FfState → ℕ → Bool
has_room s i = ltb i 8 || (ltb (used_count s.overflow_count) 56 || is_ok (found s i))

abbrev pub in_slot : FfState → Changed TableFull
in_slot s = accepted (dirtied s lights_bit)

-- "Setting keeps the enable"; a new light is off
unfoldable pub set_light_at : FfState → ℕ → D3DLIGHT9 → Changed TableFull
set_light_at s i l =
    cond (ltb i 8) (in_slot (set_slot s i l))
    (change_entry s (found s i) (λ e. light_entry e.index e.enabled l) (light_entry i 0 l))

unfoldable pub flag : Bool → ℕ
flag on = cond on 1 0

-- "Enabling or disabling an undefined light creates the default one"
unfoldable pub set_light_enabled_at : FfState → ℕ → Bool → Changed TableFull
set_light_enabled_at s i on =
    cond (ltb i 8) (in_slot (enable_slot s i on))
    (change_entry s (found s i) (λ e. light_entry e.index (flag on) e.light) (light_entry i (flag on) default_light))

-- "Read refuses 2 if undefined."
unfoldable pub get_light_at : FfState → ℕ → Option D3DLIGHT9
get_light_at s i =
    cond (ltb i 8)
    (cond (has_bit s.light_defined_mask i) (Some (get_or s.lights i default_light)) None)
    (cond (is_ok (found s i)) (Some (stored_entry s (place (found s i))).light) None)

unfoldable pub is_light_enabled_at : FfState → ℕ → Bool
is_light_enabled_at s i =
    cond (ltb i 8) (has_bit s.light_enabled i) (is_ok (found s i) && not (eqb (stored_entry s (place (found s i))).enabled 0))

unfoldable pub is_light_defined_at : FfState → ℕ → Bool
is_light_defined_at s i = cond (ltb i 8) (has_bit s.light_defined_mask i) (is_ok (found s i))

-- document 01's number of each answer
unfoldable pub light_number : Result (Unit {0}) TableFull → ℕ
light_number (Ok _) = 0
light_number (Err _) = 3

unfoldable pub light_read_number : Option D3DLIGHT9 → ℕ
light_read_number (Some l) = 0
light_read_number None = 2

-- what is written of the error
abbrev pub table_full_text : List ℕ
table_full_text = codes "56 other lights from index 8 on are stored"
