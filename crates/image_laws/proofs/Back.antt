-- A matrix, a material, a light, an entry and render states that were read from bytes are written as those bytes, if each of their floats is.
-- Assumes nothing.
use Prim.Native.Nat.{ℕ, ◌+◌, ◌*◌, ◌≤◌, ◌<◌}
use native.Mathlib.Nat.{add_assoc}
use native.Mathlib.Omega.{arith}
use mathlib.Core.Path.{◌≡◌, ap, ◌∙◌}
use mathlib.Core.List.{List, [], ◌∷◌, ◌++◌}
use lib.ListN.{length}
use Rattle.codec.specs.Little.{little_bytes, number_at, Bytes}
use Rattle.codec.specs.Float.{float_at}
use Rattle.codec.specs.Matrix.{row_at, matrix_bytes, matrix_at}
use Rattle.codec.specs.Color.{color_at}
use Rattle.codec.specs.Vector.{vector_at}
use Rattle.codec.specs.Material.{material_bytes, material_at}
use Rattle.codec.specs.Light.{light_bytes, light_at}
use Rattle.codec.specs.RenderStates.{states_bytes, states_at}
use Rattle.codec.proofs.Laws.Little.{length-little_bytes, number_at_lt}
use Rattle.codec.specs.Entry.{entry_bytes, entry_at}
use Rattle.image_lists.specs.Lists.{list_at}
use Rattle.image_lists.proofs.Reading.{length_list_at}
use Rattle.image_reasons.proofs.Meaning.{WrittenAsRead}
use Rattle.image_lists.proofs.Writing.{list_bytes-append, length_list_bytes}
use Rattle.image_laws.proofs.IsAt.{IsAt, join, list_is, number_is}
use Rattle.image_laws.proofs.Words.{bits, matrix_words, material_words, light_floats, fog_words, word_bytes, matrix-words, material-words, light-words, entry_words, states_words}

-- the word that is written for the float at a place
abbrev bits_at : List ℕ → ℕ → ℕ
bits_at bytes at = bits (float_at bytes at)

module _ (bytes : List ℕ) (at : ℕ) where
  matrix_floats : matrix_words (matrix_at bytes at) ≡ list_at bits_at 4 16 bytes at
  unfolding matrix_at row_at list_at
  matrix_floats = simp add_assoc

  material_floats : material_words (material_at bytes at) ≡ list_at bits_at 4 17 bytes at
  unfolding material_at color_at row_at list_at
  material_floats = simp add_assoc

  -- a light's type, an entry's index, enable and type are numbers
  light_numbers : (light_at bytes at).type_ ∷ light_floats (light_at bytes at) ≡ list_at (number_at 4) 4 1 bytes at ++ list_at bits_at 4 25 bytes (at + 4)
  unfolding light_at color_at row_at vector_at list_at
  light_numbers = simp add_assoc

  entry_numbers : (entry_at bytes at).index ∷ (entry_at bytes at).enabled ∷ (entry_at bytes at).light.type_ ∷ light_floats (entry_at bytes at).light
      ≡ list_at (number_at 4) 4 3 bytes at ++ list_at bits_at 4 25 bytes (at + 12)
  unfolding entry_at light_at color_at row_at vector_at list_at
  entry_numbers = simp add_assoc

  states_numbers : fog_words (states_at bytes at) ++ ((states_at bytes at).ambient ∷ []) ≡ list_at bits_at 4 3 bytes at ++ list_at (number_at 4) 4 1 bytes (at + 12)
  unfolding states_at list_at
  states_numbers = simp add_assoc

-- n floats from a place on, each written as it was read
abbrev pub FloatsBack : List ℕ → ℕ → ℕ → Type 0
FloatsBack bytes n at = (k : ℕ) → k < n → WrittenAsRead bytes (at + 4 * k)

module _ (bytes : List ℕ) (b : Bytes bytes) where
  numbers_are : (n at : ℕ) → at + 4 * n ≤ length bytes → IsAt (word_bytes (list_at (number_at 4) 4 n bytes at)) bytes at
  numbers_are n at room =
      list_is (little_bytes 4) 4 (length-little_bytes 4) (number_at 4) bytes n at (λ (i : ℕ) (l : i < n). number_is 4 bytes (at + 4 * i) b (omega arith))

  floats_are : (n at : ℕ) → at + 4 * n ≤ length bytes → FloatsBack bytes n at → IsAt (word_bytes (list_at bits_at 4 n bytes at)) bytes at
  floats_are n at room back =
      list_is (little_bytes 4) 4 (length-little_bytes 4) bits_at bytes n at
      (λ (i : ℕ) (l : i < n). rw (back i l (number_at_lt 4 bytes (at + 4 * i) b)) (number_is 4 bytes (at + 4 * i) b (omega arith)))

  module _ (at : ℕ) where
    pub matrix_back : at + 64 ≤ length bytes → FloatsBack bytes 16 at → IsAt (matrix_bytes (matrix_at bytes at)) bytes at
    matrix_back room back = rw (matrix-words (matrix_at bytes at), matrix_floats bytes at) (floats_are 16 at room back)

    pub material_back : at + 68 ≤ length bytes → FloatsBack bytes 17 at → IsAt (material_bytes (material_at bytes at)) bytes at
    material_back room back = rw (material-words (material_at bytes at), material_floats bytes at) (floats_are 17 at room back)

    -- m numbers, then the floats of a light
    numbered : (m : ℕ) → at + 4 * m + 100 ≤ length bytes → FloatsBack bytes 25 (at + 4 * m)
        → IsAt (word_bytes (list_at (number_at 4) 4 m bytes at ++ list_at bits_at 4 25 bytes (at + 4 * m))) bytes at
    numbered m room back =
        let ns = list_at (number_at 4) 4 m bytes at in
        let ws = list_at bits_at 4 25 bytes (at + 4 * m) in
        let long : length (word_bytes ns) ≡ 4 * m = length_list_bytes (little_bytes 4) 4 (length-little_bytes 4) ns ∙ ap (λ (k : ℕ). 4 * k) (length_list_at (number_at 4) 4 m bytes at) in
        rw (list_bytes-append (little_bytes 4) ns ws)
        (join (word_bytes ns) (word_bytes ws) bytes at (numbers_are m at (omega arith)) (rw long (floats_are 25 (at + 4 * m) (omega arith) back)))

    pub light_back : at + 104 ≤ length bytes → FloatsBack bytes 25 (at + 4) → IsAt (light_bytes (light_at bytes at)) bytes at
    light_back room back = rw (light-words (light_at bytes at), light_numbers bytes at) (numbered 1 (omega arith) back)

    pub entry_back : at + 112 ≤ length bytes → FloatsBack bytes 25 (at + 12) → IsAt (entry_bytes (entry_at bytes at)) bytes at
    entry_back room back = rw (entry_words (entry_at bytes at), entry_numbers bytes at) (numbered 3 (omega arith) back)

    pub states_back : at + 16 ≤ length bytes → FloatsBack bytes 3 at → IsAt (states_bytes (states_at bytes at)) bytes at
    states_back room back =
        let ws = list_at bits_at 4 3 bytes at in
        let ns = list_at (number_at 4) 4 1 bytes (at + 12) in
        let long : length (word_bytes ws) ≡ 12 = length_list_bytes (little_bytes 4) 4 (length-little_bytes 4) ws ∙ ap (λ (k : ℕ). 4 * k) (length_list_at bits_at 4 3 bytes at) in
        rw (states_words (states_at bytes at), states_numbers bytes at, list_bytes-append (little_bytes 4) ws ns)
        (join (word_bytes ws) (word_bytes ns) bytes at (floats_are 3 at (omega arith) back) (rw long (numbers_are 1 (at + 12) (omega arith))))
