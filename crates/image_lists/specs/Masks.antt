-- The masks of types, which an image does not hold: they follow from the lights and the defined byte.
use Rattle.std.specs.Prelude.{ℕ, zero, suc, Bool, ◌&&◌, List, eqb, get_or}
use Rattle.d3d9_types.specs.Light.{default_light}
use Rattle.d3d9_types.specs.declared.light.D3DLIGHT9.{D3DLIGHT9}
use Rattle.words.specs.Bits.{has_bit, with_bit}
use Rattle.light_table.specs.Kinds.{contributes}

-- bits 0 to n − 1 as the test says
unfoldable pub mask_of : ℕ → (ℕ → Bool) → ℕ
mask_of zero p = 0
mask_of (suc n) p = with_bit (mask_of n p) n (p n)

abbrev pub type_at : List D3DLIGHT9 → ℕ → ℕ
type_at lights i = (get_or lights i default_light).type_

-- slot i is defined and its type is one of the three
abbrev pub slot_set : ℕ → List D3DLIGHT9 → ℕ → Bool
slot_set defined lights i = has_bit defined i && contributes (type_at lights i)

-- slot i is defined and its type is t
abbrev pub slot_is : ℕ → ℕ → List D3DLIGHT9 → ℕ → Bool
slot_is t defined lights i = has_bit defined i && eqb (type_at lights i) t

unfoldable pub set_mask : ℕ → List D3DLIGHT9 → ℕ
set_mask defined lights = mask_of 8 (slot_set defined lights)

unfoldable pub type_mask : ℕ → ℕ → List D3DLIGHT9 → ℕ
type_mask t defined lights = mask_of 8 (slot_is t defined lights)
