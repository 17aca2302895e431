-- Bytes that are not refused are the image of the state that is read from them: each field's bytes are at its place, and the fields tile the whole.
-- Assumes nothing.
use Prim.Native.Nat.{ℕ, ◌+◌, ◌*◌, ◌≤◌, ◌<◌}
use native.Mathlib.Omega.{arith}
use mathlib.Core.Path.{◌≡◌, sym, ap, ◌∙◌}
use mathlib.Core.Bool.{false}
use mathlib.Core.List.{List}
use lib.Dec.{lit≤}
use lib.ListN.{length, take}
use lib.Seq.{take-length}
use Rattle.codec.specs.Little.{little_bytes, number_at, Bytes}
use Rattle.codec.specs.Matrix.{matrix_bytes, matrix_at}
use Rattle.codec.specs.Light.{light_bytes, light_at}
use Rattle.codec.proofs.Laws.Matrix.{length-matrix_bytes}
use Rattle.codec.proofs.Laws.Light.{length-light_bytes}
use Rattle.codec.specs.Entry.{entry_bytes, entry_at}
use Rattle.image_reasons.specs.Length.{image_length}
use Rattle.image_lists.specs.Lists.{list_bytes, list_at}
use Rattle.image_reasons.specs.Reasons.{refused}
use Rattle.image_reasons.proofs.Accepted.{Accepted, accepted}
use Rattle.image_reasons.proofs.Meaning.{floats_back, light_floats_back, entry-floats_back}
use Rattle.codec.proofs.Laws.Entry.{length-entry_bytes}
use Rattle.image.specs.Format.{image_bytes, image_table}
use Rattle.image.specs.Read.{state_of}
use Rattle.image.proofs.Format.{image_tiles, length_image_bytes, valid_sized}
use Rattle.image_laws.proofs.IsAt.{IsAt, AllAt, ◌also◌, list_is, number_is, low_byte, table_is}
use Rattle.image_laws.proofs.Back.{FloatsBack, matrix_back, material_back, light_back, entry_back, states_back}
use Rattle.image_laws.proofs.AcceptedValid.{accepted_valid}

module _ (bytes : List ℕ) (b : Bytes bytes) (a : Accepted bytes) where
  -- n floats from the q-th on
  floats_from : (q n at : ℕ) → at ≡ 4 * q → q + n ≤ 4_273 → FloatsBack bytes n at
  floats_from q n at e most k l =
      let place : at + 4 * k ≡ 0 + 4 * (q + k) = omega arith in
      rw place (floats_back 4_273 bytes 0 a.floats (q + k) (omega arith))

  matrix_is : (q at : ℕ) → at ≡ 4 * q → q + 16 ≤ 4_273 → IsAt (matrix_bytes (matrix_at bytes at)) bytes at
  matrix_is q at e most = matrix_back bytes b at (omega (arith, a.long)) (floats_from q 16 at e most)

  matrices_are : (q n at : ℕ) → at ≡ 4 * q → q + 16 * n ≤ 4_273 → IsAt (list_bytes matrix_bytes (list_at matrix_at 64 n bytes at)) bytes at
  matrices_are q n at e most =
      list_is matrix_bytes 64 length-matrix_bytes matrix_at bytes n at (λ (i : ℕ) (l : i < n). matrix_is (q + 16 * i) (at + 64 * i) (omega arith) (omega arith))

  lights_are : IsAt (list_bytes light_bytes (list_at light_at 104 8 bytes 17_092)) bytes 17_092
  lights_are =
      list_is light_bytes 104 length-light_bytes light_at bytes 8 17_092
      (λ (i : ℕ) (l : i < 8). light_back bytes b (17_092 + 104 * i) (omega (arith, a.long)) (λ (k : ℕ) (m : k < 25). light_floats_back bytes 17_092 a.light-floats i k l m))

  entries_are : IsAt (list_bytes entry_bytes (list_at entry_at 112 56 bytes 17_932)) bytes 17_932
  entries_are =
      list_is entry_bytes 112 length-entry_bytes entry_at bytes 56 17_932
      (λ (i : ℕ) (l : i < 56). entry_back bytes b (17_932 + 112 * i) (omega (arith, a.long)) (λ (k : ℕ) (m : k < 25). entry-floats_back bytes 17_932 a.entry-floats i k l m))

  number-at : (k at : ℕ) → at + k ≤ image_length → IsAt (little_bytes k (number_at k bytes at)) bytes at
  number-at k at room = number_is k bytes at b (rw a.long room)

  fields_are : AllAt bytes (image_table (state_of bytes))
  unfolding image_table state_of
  fields_are =
      matrix_is 0 0 (omega arith) (lit≤ tt)
      also matrix_is 16 64 (omega arith) (lit≤ tt)
      also matrices_are 32 256 128 (omega arith) (lit≤ tt)
      also matrices_are 4_128 8 16_512 (omega arith) (lit≤ tt)
      also material_back bytes b 17_024 (rw a.long (lit≤ tt)) (floats_from 4_256 17 17_024 (omega arith) (lit≤ tt))
      also lights_are
      also number-at 1 17_924 (lit≤ tt)
      also number-at 1 17_925 (lit≤ tt)
      also number-at 1 17_926 (lit≤ tt)
      also (rw a.zero at (number-at 1 17_927 (lit≤ tt)))
      also number-at 2 17_928 (lit≤ tt)
      also number-at 2 17_930 (lit≤ tt)
      also entries_are
      also states_back bytes b 24_204 (rw a.long (lit≤ tt)) (floats_back 3 bytes 24_204 a.fog_floats)
      also rw (low_byte 3 bytes 24_220 a.mask) (number-at 4 24_220 (lit≤ tt))
      also tt

pub written_read : (bytes : List ℕ) → Bytes bytes → refused bytes ≡ false → image_bytes (state_of bytes) ≡ bytes
unfolding image_bytes
written_read bytes b h =
    let a = accepted bytes h in
    let z = valid_sized (accepted_valid bytes b h) in
    let all : IsAt (image_bytes (state_of bytes)) bytes 0 =
    table_is 0 image_length (image_table (state_of bytes)) bytes (image_tiles (state_of bytes) z) (fields_are bytes b a) in
    let long : length (image_bytes (state_of bytes)) ≡ length bytes = length_image_bytes (state_of bytes) z ∙ sym a.long in
    sym all ∙ ap (λ (n : ℕ). take n bytes) long ∙ take-length bytes
