-- The state that is read from bytes that are not refused holds what image_model says that the bytes hold.
-- Assumes nothing.
use Prim.Native.Nat.{ℕ, zero, suc, ◌+◌, ◌-◌, ◌*◌, ◌≤◌, ◌<◌, min}
use native.Mathlib.Omega.{arith}
use mathlib.Core.Path.{◌≡◌, refl, sym, ap, ap₂, ◌∙◌}
use mathlib.Core.Bool.{Bool, false}
use mathlib.Core.List.{List, [], ◌∷◌, ◌++◌, map}
use borrow.Author.Tests.{le-leb, lt-leb, ne_eqb}
use Rattle.d3d9_types.specs.Light.{default_light}
use Rattle.codec.specs.Matrix.{matrix_at}
use Rattle.codec.specs.Light as Codec
use Rattle.codec.specs.RenderStates.{states_at}
use Rattle.light_table.specs.Overflow.{used_count}
use Rattle.ff_state.specs.Overflow.{used}
use Rattle.ff_state.specs.State.{no_matrix}
use Rattle.d3d9_model.specs.State.{AbstractLight}
use Rattle.codec.specs.Entry.{entry_at}
use Rattle.image_lists.specs.Lists.{list_at}
use Rattle.image_reasons.specs.Reasons.{count_of, refused}
use Rattle.image_reasons.proofs.Accepted.{accepted}
use Rattle.image_lists.proofs.Reading.{get_d_list_at, take_list_at}
use Rattle.image_model.specs.Abstract.{image_matrix, image_slot_defined, image_slot_light, defined_among, entry_light, image_lights, image_states, image_abstract}
use Rattle.image.specs.Read.{state_of}
use Rattle.image_laws.proofs.IsAt.{low_byte}
use Rattle.agreement.specs.Agrees.{defined_from, slot_entry, overflow_entry, state_lights, Agrees}

-- ---- matrices by state number

module _ (bytes : List ℕ) (i : ℕ) where
  texture_is : i < 8 → image_matrix bytes (16 + i) ≡ matrix_at bytes (16_512 + 64 * i)
  unfolding image_matrix
  texture_is h =
      let e : 16 + i - 16 ≡ i = omega arith in
      rw (ne_eqb (16 + i) 2 (λ (q : 16 + i ≡ 2). omega arith), ne_eqb (16 + i) 3 (λ (q : 16 + i ≡ 3). omega arith), le-leb 16 (16 + i) (omega arith), le-leb (16 + i) 23 (omega arith), e)

  palette_is : i < 256 → image_matrix bytes (256 + i) ≡ matrix_at bytes (128 + 64 * i)
  unfolding image_matrix
  palette_is h =
      let e : 256 + i - 256 ≡ i = omega arith in
      rw (
        ne_eqb (256 + i) 2 (λ (q : 256 + i ≡ 2). omega arith),
        ne_eqb (256 + i) 3 (λ (q : 256 + i ≡ 3). omega arith),
        le-leb 16 (256 + i) (omega arith),
        lt-leb (256 + i) 23 (omega arith),
        le-leb 256 (256 + i) (omega arith),
        le-leb (256 + i) 511 (omega arith),
        e,
      )

-- ---- lights

abbrev count_from : ℕ → ℕ → List ℕ
count_from i zero = []
count_from i (suc n) = i ∷ count_from (suc i) n

module _ (defined : ℕ → Bool) (light light' : ℕ → AbstractLight) (m : ℕ) (same : (i : ℕ) → i < m → light i ≡ light' i) where
  among_is : (n i : ℕ) → i + n ≤ m → defined_from defined light i n ≡ defined_among defined light' (count_from i n)
  unfolding defined_from defined_among
  among_is zero i h = refl
  among_is (suc n) i h = rw (same i (omega arith), among_is n (suc i) (omega arith))

map-list_at : {A B : Type 0} (f : A → B) (read : List ℕ → ℕ → A) (size n : ℕ) (bytes : List ℕ) (at : ℕ)
    → map f (list_at read size n bytes at) ≡ list_at (λ (bs : List ℕ) (p : ℕ). f (read bs p)) size n bytes at
unfolding list_at
map-list_at f read size zero bytes at = refl
map-list_at {B = B} f read size (suc n) bytes at = ap {B = List B} (λ l. f (read bytes at) ∷ l) (map-list_at f read size n bytes (at + size))

module _ (bytes : List ℕ) where
  slot_is : (i : ℕ) → i < 8 → slot_entry (state_of bytes) i ≡ image_slot_light bytes i
  unfolding state_of
  slot_is i h = rw (get_d_list_at Codec.light_at 104 8 bytes 17_092 i default_light h)

  slots_are : defined_from (image_slot_defined bytes) (slot_entry (state_of bytes)) 0 8 ≡ defined_among (image_slot_defined bytes) (image_slot_light bytes) (count_from 0 8)
  slots_are = among_is (image_slot_defined bytes) (slot_entry (state_of bytes)) (image_slot_light bytes) 8 slot_is 8 0 (omega arith)

  entries_are : count_of bytes ≤ 56 → map overflow_entry (used (state_of bytes)) ≡ list_at entry_light 112 (count_of bytes) bytes 17_932
  unfolding state_of used_count entry_light entry_at
  entries_are few =
      let all : min (count_of bytes) 56 ≡ count_of bytes = omega arith in
      rw (all, take_list_at entry_at 112 (count_of bytes) 56 bytes 17_932 few) (map-list_at overflow_entry entry_at 112 (count_of bytes) bytes 17_932)

  lights_are : count_of bytes ≤ 56 → state_lights (state_of bytes) ≡ image_lights bytes
  unfolding state_lights image_lights state_of
  lights_are few = ap₂ (λ (a b : List AbstractLight). a ++ b) slots_are (entries_are few)

  pub image_agrees : refused bytes ≡ false → Agrees (state_of bytes) (image_abstract bytes)
  unfolding state_of image_abstract image_matrix image_states states_at
  image_agrees h =
      record {
        matrices =
            record {
              view = refl;
              projection = refl;
              texture = λ (i : ℕ) (l : i < 8). get_d_list_at matrix_at 64 8 bytes 16_512 i no_matrix l ∙ sym (texture_is bytes i l);
              palette = λ (i : ℕ) (l : i < 256). get_d_list_at matrix_at 64 256 bytes 128 i no_matrix l ∙ sym (palette_is bytes i l);
            };
        material = refl;
        lights = lights_are (accepted bytes h).count;
        highest = refl;
        states = refl;
        texture-mask = low_byte 3 bytes 24_220 (accepted bytes h).mask;
      }
