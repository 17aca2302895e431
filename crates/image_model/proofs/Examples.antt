-- Worked examples, computed: the first and the last state number of each kind, and the numbers beside them. They hold the definition to document 01's places.
-- Assumes nothing.
use Prim.Native.Nat.{ℕ}
use mathlib.Core.Path.{◌≡◌, refl}
use mathlib.Core.List.{List, [], ◌∷◌, map}
use Rattle.d3d9_types.specs.Matrix.{identity}
use Rattle.codec.specs.Matrix.{matrix_at}
use Rattle.words.specs.Bits.{has_bit}
use Rattle.d3d9_model.specs.State.{AbstractLight}
use Rattle.image_model.specs.Abstract.{image_matrix, defined_among}

module _ (bytes : List ℕ) where
  known_numbers : map (image_matrix bytes) (2 ∷ 3 ∷ 16 ∷ 23 ∷ 256 ∷ 511 ∷ []) ≡ map (matrix_at bytes) (0 ∷ 64 ∷ 16_512 ∷ 16_960 ∷ 128 ∷ 16_448 ∷ [])
  unfolding image_matrix
  known_numbers = refl

  other_numbers : map (image_matrix bytes) (0 ∷ 1 ∷ 4 ∷ 15 ∷ 24 ∷ 255 ∷ 512 ∷ []) ≡ map (λ (n : ℕ). identity) (0 ∷ 1 ∷ 4 ∷ 15 ∷ 24 ∷ 255 ∷ 512 ∷ [])
  unfolding image_matrix
  other_numbers = refl

-- of the eight slots, the defined ones by ascending index: the byte 0b1000_1001 has bits 0, 3 and 7
ascending_slots : (light : ℕ → AbstractLight) → defined_among (has_bit 0x89) light (0 ∷ 1 ∷ 2 ∷ 3 ∷ 4 ∷ 5 ∷ 6 ∷ 7 ∷ []) ≡ light 0 ∷ light 3 ∷ light 7 ∷ []
unfolding defined_among has_bit
ascending_slots light = refl
