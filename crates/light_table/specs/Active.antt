-- Lists of active lights. Document 01: "Compaction: active slots 0 to 7 ascending, then active overflow lights by ascending index, eight at most." (ff_state.rs 533–665)
use Rattle.std.specs.Prelude.{ℕ, suc, ◌+◌, ◌-◌, ◌*◌, ◌^◌, Bool, cond, not, ◌&&◌, List, [], ◌∷◌, ◌++◌, ltb, eqb, length, take, set, replicate}
use Rattle.d3d9_types.specs.Light.{default_light}
use Rattle.d3d9_types.specs.declared.light.D3DLIGHT9.{D3DLIGHT9}
use Rattle.words.specs.Bits.{has_bit}
use Rattle.light_table.specs.Kinds.{contributes}
use Rattle.light_table.specs.declared.entry.OverflowLight.{OverflowLight}
use Rattle.light_table.specs.declared.active.ActiveLights.{ActiveLights}
use Rattle.light_table.specs.declared.active.LightMasks.{LightMasks}

-- the lights of the slots whose bits are set, from slot i on
unfoldable pub slots_from : ℕ → ℕ → List D3DLIGHT9 → List D3DLIGHT9
slots_from i mask [] = []
slots_from i mask (l ∷ ls) = cond (has_bit mask i) (l ∷ slots_from (suc i) mask ls) (slots_from (suc i) mask ls)

abbrev pub active_slots : ℕ → List D3DLIGHT9 → List D3DLIGHT9
active_slots mask ls = slots_from 0 mask ls

abbrev pub is_active : OverflowLight → Bool
is_active e = not (eqb e.enabled 0) && contributes e.light.type_

unfoldable pub active_overflow : List OverflowLight → List D3DLIGHT9
active_overflow [] = []
active_overflow (e ∷ es) = cond (is_active e) (e.light ∷ active_overflow es) (active_overflow es)

-- a list of at most eight lights as the code holds it: the rest is the default light
unfoldable pub listed : ℕ → List D3DLIGHT9 → ActiveLights
listed limit ls =
    let few = take limit ls in
    record { lights = few ++ replicate (8 - length few) default_light; len = length few }

unfoldable pub no_lights : ActiveLights
no_lights = record { lights = replicate 8 default_light; len = 0 }

-- one more, up to the limit, and one after another
unfoldable pub pushed : ℕ → ActiveLights → D3DLIGHT9 → ActiveLights
pushed limit a l = cond (ltb a.len limit) (record { lights = set a.lights a.len l; len = a.len + 1 }) a

unfoldable pub push_all : ℕ → ActiveLights → List D3DLIGHT9 → ActiveLights
push_all limit a [] = a
push_all limit a (l ∷ ls) = push_all limit (pushed limit a l) ls

-- the n lowest bits
unfoldable pub low_bits : ℕ → ℕ
low_bits n = 2 ^ n - 1

-- bit i: light i has this type
unfoldable pub kind_mask : ℕ → List D3DLIGHT9 → ℕ
kind_mask t [] = 0
kind_mask t (l ∷ ls) = kind_mask t ls * 2 + cond (eqb l.type_ t) 1 0

-- the masks of a compacted list: bit i is its light i (ff_state.rs 602–620)
unfoldable pub masks_of : List D3DLIGHT9 → LightMasks
masks_of ls = record { active = low_bits (length ls); directional = kind_mask 3 ls; spot = kind_mask 2 ls }

unfoldable pub four_bytes : ℕ → ℕ → ℕ → ℕ → ℕ
four_bytes a b c d = a + b * 256 + c * 65536 + d * 16777216
