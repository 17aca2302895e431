-- The active lights in a list of eight, and as masks. Document 01, 'Calls that change the state', "Compaction".
use Rattle.std.specs.Prelude.{ℕ, ◌+◌, ◌*◌, Bool, true, false, cond, ◌&&◌, List, [], ◌∷◌, map, eqb, take}
use Rattle.std.proofs.Math.Option.{Option, none, some}
use Rattle.d3d9_types.specs.declared.light.D3DLIGHT9.{D3DLIGHT9}
use Rattle.d3d9_model.specs.State.{AbstractState, AbstractLight}
use Rattle.d3d9_model.specs.Lights.{lights?, count_beyond, abstract_light, abstract_active}

-- "eight at most"
unfoldable pub compacted : AbstractState → List D3DLIGHT9
compacted a = take 8 (abstract_active a)

-- the number whose bits are these, the lowest first
unfoldable pub bits_number : List Bool → ℕ
bits_number [] = 0
bits_number (b ∷ bs) = cond b 1 0 + 2 * bits_number bs

-- a mask of the compacted lights: bit i is light i
unfoldable pub compacted_mask : AbstractState → (D3DLIGHT9 → Bool) → ℕ
compacted_mask a kind = bits_number (map kind (compacted a))

-- a mask of the raw slots: bit i is the light of index i, where it is active
unfoldable pub active_kind : (D3DLIGHT9 → Bool) → Option AbstractLight → Bool
active_kind kind none = false
active_kind kind (some l) = lights? l && kind l.light

unfoldable pub raw_mask : AbstractState → (D3DLIGHT9 → Bool) → ℕ
raw_mask a kind = bits_number (map (λ i. active_kind kind (abstract_light a i)) (0 ∷ 1 ∷ 2 ∷ 3 ∷ 4 ∷ 5 ∷ 6 ∷ 7 ∷ []))

-- "1 point, 2 spot, 3 directional"
abbrev pub any_kind : D3DLIGHT9 → Bool
any_kind l = true

abbrev pub is_directional : D3DLIGHT9 → Bool
is_directional l = eqb l.type_ 3

abbrev pub is_spot : D3DLIGHT9 → Bool
is_spot l = eqb l.type_ 2

-- four bytes in a word, the first lowest
unfoldable pub word_of : ℕ → ℕ → ℕ → ℕ → ℕ
word_of a b c d = a + 256 * (b + 256 * (c + 256 * d))

-- "bytes active, directional, spot, 0 of the raw slots while no overflow light is stored; else the compacted three and 1"
unfoldable pub abstract_light_inputs : AbstractState → ℕ
abstract_light_inputs a =
    cond (eqb (count_beyond a.lights) 0)
    (word_of (raw_mask a any_kind) (raw_mask a is_directional) (raw_mask a is_spot) 0)
    (word_of (compacted_mask a any_kind) (compacted_mask a is_directional) (compacted_mask a is_spot) 1)
