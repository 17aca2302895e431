-- The accepted images are exactly the writings of valid states; each is the writing of one state only.
-- Assumes nothing.
use Prim.Native.Nat.{ℕ, zero, suc, ◌/◌}
use native.Mathlib.Omega.{arith}
use mathlib.Core.Path.{◌≡◌, sym, ap, subst, ◌∙◌}
use mathlib.Core.Bool.{false}
use mathlib.Core.Logic.{◌↔◌}
use mathlib.Core.List.{List, [], ◌∷◌, ◌++◌}
use Rattle.codec.specs.Little.{little_bytes, Bytes}
use Rattle.codec.specs.Matrix.{matrix_bytes}
use Rattle.codec.specs.Light.{light_bytes}
use Rattle.codec.specs.Material.{material_bytes}
use Rattle.codec.specs.RenderStates.{states_bytes}
use Rattle.ff_state.specs.State.{dirty_word}
use Rattle.ff_state.specs.declared.state.FfState.{FfState}
use Rattle.d3d9_types.specs.declared.light.D3DLIGHT9.{D3DLIGHT9}
use Rattle.d3d9_types.specs.declared.material.D3DMATERIAL9.{D3DMATERIAL9}
use Rattle.d3d9_types.specs.declared.matrix.D3DMATRIX.{D3DMATRIX}
use Rattle.d3d9_types.specs.declared.render_states.RenderStates.{RenderStates}
use Rattle.light_table.specs.declared.entry.OverflowLight.{OverflowLight}
use Rattle.codec.specs.Entry.{entry_bytes}
use Rattle.image_lists.specs.Lists.{list_bytes}
use Rattle.image_reasons.specs.Reasons.{refused}
use Rattle.image.specs.Format.{image_bytes, image_table}
use Rattle.image.specs.Read.{state_of}
use Rattle.image.specs.Table.{Field, table_bytes}
use Rattle.image_laws.specs.Exactly.{IsAccepted, IsWriting}
use Rattle.image_laws.proofs.IsAt.{◌also◌}
use Rattle.image_laws.proofs.Words.{word_bytes, matrix-words, material-words, light-words, entry_words, states_words}
use Rattle.image_laws.proofs.ReadWritten.{read_written}
use Rattle.image_laws.proofs.ValidAccepted.{valid_accepted}
use Rattle.image_laws.proofs.AcceptedValid.{accepted_valid}
use Rattle.image_laws.proofs.WrittenRead.{written_read}

-- ---- what is written is bytes

little_are : (k n : ℕ) → Bytes (little_bytes k n)
unfolding little_bytes
little_are zero n i = omega arith
little_are (suc k) n zero = omega arith
little_are (suc k) n (suc i) = little_are k (n / 256) i

both_are : (v w : List ℕ) → Bytes v → Bytes w → Bytes (v ++ w)
both_are [] w h k i = k i
both_are (x ∷ v) w h k zero = h 0
both_are (x ∷ v) w h k (suc i) = both_are v w (λ (j : ℕ). h (suc j)) k i

list_are : {A : Type 0} (write : A → List ℕ) → ((x : A) → Bytes (write x)) → (xs : List A) → Bytes (list_bytes write xs)
unfolding list_bytes
list_are write h [] = λ (i : ℕ). omega arith
list_are write h (x ∷ xs) = both_are (write x) (list_bytes write xs) (h x) (list_are write h xs)

words_are : (ns : List ℕ) → Bytes (word_bytes ns)
words_are ns = list_are (little_bytes 4) (little_are 4) ns

matrix_are : (m : D3DMATRIX) → Bytes (matrix_bytes m)
matrix_are m = rw (matrix-words m) (words_are _)

material_are : (m : D3DMATERIAL9) → Bytes (material_bytes m)
material_are m = rw (material-words m) (words_are _)

light_are : (l : D3DLIGHT9) → Bytes (light_bytes l)
light_are l = rw (light-words l) (words_are _)

entry_are : (e : OverflowLight) → Bytes (entry_bytes e)
entry_are e = rw (entry_words e) (words_are _)

states_are : (r : RenderStates) → Bytes (states_bytes r)
states_are r = rw (states_words r) (words_are _)

abbrev AllBytes : List Field → Type 0
AllBytes [] = Unit
AllBytes (f ∷ fs) = Bytes f.bytes × AllBytes fs

table_are : (fs : List Field) → AllBytes fs → Bytes (table_bytes fs)
unfolding table_bytes
table_are [] h = λ (i : ℕ). omega arith
table_are (f ∷ fs) h = both_are f.bytes (table_bytes fs) h.0 (table_are fs h.1)

pub image-bytes : (s : FfState) → Bytes (image_bytes s)
unfolding image_bytes image_table
image-bytes s =
    table_are (image_table s)
    (matrix_are s.view
    also matrix_are s.projection
    also list_are matrix_bytes matrix_are s.world_palette
    also list_are matrix_bytes matrix_are s.texture_transforms
    also material_are s.material
    also list_are light_bytes light_are s.lights
    also little_are 1 s.light_enabled
    also little_are 1 s.light_defined_mask
    also little_are 1 (dirty_word s)
    also little_are 1 0
    also little_are 2 s.world_palette_high_water
    also little_are 2 s.overflow_count
    also list_are entry_bytes entry_are s.overflow_lights
    also states_are s.render_states
    also little_are 4 s.tt_active_mask
    also tt)

-- ---- both directions

module _ (bytes : List ℕ) where
  accepted_written : IsAccepted bytes → IsWriting bytes
  accepted_written a =
      record { state = state_of bytes; valid = accepted_valid bytes a.each a.taken; is = written_read bytes a.each a.taken }

  written_accepted : IsWriting bytes → IsAccepted bytes
  written_accepted w =
      record {
        each = subst Bytes w.is (image-bytes w.state);
        taken = subst (λ (bs : List ℕ). refused bs ≡ false) w.is (valid_accepted w.state w.valid);
      }

  pub accepted_exactly : IsAccepted bytes ↔ IsWriting bytes
  accepted_exactly = (accepted_written, written_accepted)

  -- of one state only, the one that is read
  pub one_state : (w : IsWriting bytes) → state_of bytes ≡ w.state
  one_state w = ap state_of (sym w.is) ∙ read_written w.state w.valid
