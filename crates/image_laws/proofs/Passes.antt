-- Bytes that pass the tests of an image: what was written for a light, an entry or a matrix at a place passes there.
-- Assumes nothing.
use Prim.Native.Nat.{ℕ, zero, suc, ◌+◌, ◌-◌, ◌*◌, ◌≤◌, ◌<◌}
use native.Mathlib.Nat.{mul-suc, mul-zero, mul_assoc}
use native.Mathlib.Omega.{arith}
use mathlib.Core.Path.{◌≡◌, refl}
use mathlib.Core.Bool.{Bool, true, false}
use mathlib.Core.List.{List, [], ◌∷◌}
use lib.Dec.{ltb}
use lib.ListN.{length, get_or}
use borrow.Author.Tests.{ltb-true, ltb-false, eq-eqb}
use Rattle.d3d9_types.specs.Light.{lightFits}
use Rattle.d3d9_types.specs.Material.{materialFits}
use Rattle.d3d9_types.specs.Matrix.{matrixFits}
use Rattle.d3d9_types.specs.RenderStates.{statesFit}
use Rattle.d3d9_types.specs.declared.light.D3DLIGHT9.{D3DLIGHT9}
use Rattle.d3d9_types.specs.declared.material.D3DMATERIAL9.{D3DMATERIAL9}
use Rattle.d3d9_types.specs.declared.matrix.D3DMATRIX.{D3DMATRIX}
use Rattle.d3d9_types.specs.declared.render_states.RenderStates.{RenderStates}
use Rattle.codec.specs.Little.{little_bytes}
use Rattle.codec.specs.Matrix.{matrix_bytes}
use Rattle.codec.specs.Material.{material_bytes}
use Rattle.codec.specs.Light.{light_bytes}
use Rattle.codec.specs.RenderStates.{states_bytes}
use Rattle.light_table.specs.declared.entry.OverflowLight.{OverflowLight}
use Rattle.codec.specs.Entry.{entry_bytes}
use Rattle.image_reasons.specs.Every.{every_below}
use Rattle.image_lists.specs.Lists.{list_bytes}
use Rattle.image_reasons.specs.Tests.{plain_at, nan_free, same_bytes, same_byte}
use Rattle.image_reasons.proofs.Every.{every_is, every_holds}
use Rattle.image_laws.proofs.IsAt.{IsAt, byte_is, front, behind}
use Rattle.image_laws.proofs.Words.{word_bytes, matrix_words, material_words, light_floats, fog_words, matrix-words, material-words, light-words, entry_words, states_words, matrix_plain, material_plain, light_plain, fog_plain, plain_pass}

-- ---- floats

module _ (bytes : List ℕ) (at : ℕ) where
  pub matrix_pass : (m : D3DMATRIX) → matrixFits m → IsAt (matrix_bytes m) bytes at → nan_free 16 bytes at ≡ true
  matrix_pass m fits h = plain_pass (matrix_words m) bytes at (rw (matrix-words m) at h) (matrix_plain fits)

  pub material_pass : (m : D3DMATERIAL9) → materialFits m → IsAt (material_bytes m) bytes at → nan_free 17 bytes at ≡ true
  material_pass m fits h = plain_pass (material_words m) bytes at (rw (material-words m) at h) (material_plain fits)

  -- behind the type
  pub light_pass : (l : D3DLIGHT9) → lightFits l → IsAt (light_bytes l) bytes at → nan_free 25 bytes (at + 4) ≡ true
  unfolding list_bytes little_bytes
  light_pass l fits h =
      plain_pass (light_floats l) bytes (at + 4) (behind (word_bytes (l.type_ ∷ [])) (word_bytes (light_floats l)) bytes at (rw (light-words l) at h)) (light_plain fits)

  -- behind index, enable and type
  pub entry_pass : (e : OverflowLight) → lightFits e.light → IsAt (entry_bytes e) bytes at → nan_free 25 bytes (at + 12) ≡ true
  unfolding list_bytes little_bytes
  entry_pass e fits h =
      plain_pass (light_floats e.light) bytes (at + 12)
      (behind (word_bytes (e.index ∷ e.enabled ∷ e.light.type_ ∷ [])) (word_bytes (light_floats e.light)) bytes at (rw (entry_words e) at h)) (light_plain fits)

  -- before the ambient colour
  pub fog_pass : (r : RenderStates) → statesFit r → IsAt (states_bytes r) bytes at → nan_free 3 bytes at ≡ true
  unfolding list_bytes little_bytes
  fog_pass r fits h =
      plain_pass (fog_words r) bytes at (front (word_bytes (fog_words r)) (word_bytes (r.ambient ∷ [])) bytes at (rw (states_words r) at h)) (fog_plain fits)

  -- one stretch of floats behind another
  pub nan_join : (a b : ℕ) → nan_free a bytes at ≡ true → nan_free b bytes (at + 4 * a) ≡ true → nan_free (a + b) bytes at ≡ true
  unfolding nan_free
  nan_join a b h k =
      every_is (plain_at bytes at) (a + b)
      (λ (i : ℕ) (l : i < a + b). by_cases i l (ltb i a) refl)
    where
      by_cases : (i : ℕ) → i < a + b → (t : Bool) → ltb i a ≡ t → plain_at bytes at i ≡ true
      by_cases i l true e = every_holds (plain_at bytes at) a h i (ltb-true i a e)
      by_cases i l false e =
          let from : a ≤ i = ltb-false i a e in
          let o : at + 4 * i ≡ at + 4 * a + 4 * (i - a) = omega arith in
          rw o (every_holds (plain_at bytes (at + 4 * a)) b k (i - a) (omega arith))

pub nan_items : (bytes : List ℕ) (at m n : ℕ) → ((i : ℕ) → i < n → nan_free m bytes (at + 4 * m * i) ≡ true) → nan_free (m * n) bytes at ≡ true
unfolding nan_free every_below
nan_items bytes at m zero h = rw mul-zero
nan_items bytes at m (suc n) h =
    let e : 4 * m * n ≡ 4 * (m * n) = mul_assoc 4 m n in
    rw mul-suc (nan_join bytes at (m * n) m (nan_items bytes at m n (λ (i : ℕ) (l : i < n). h i (omega arith))) (rw e at (h n (omega arith))))

-- ---- bytes that are at a place

pub is_same : (ws bytes : List ℕ) (at : ℕ) → IsAt ws bytes at → same_bytes ws bytes at ≡ true
unfolding same_bytes
is_same ws bytes at h =
    every_is (same_byte ws bytes at) (length ws)
    (λ (i : ℕ) (l : i < length ws). eq-eqb (get_or bytes (at + i) 0) (get_or ws i 0) (byte_is ws bytes at i h l))
