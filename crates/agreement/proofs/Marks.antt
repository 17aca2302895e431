-- The dirty bits after an operation: those from before, and of an accepted one the bits of the sections that document 01 says it marks; no other.
-- Each call is `dirtied` over a state with the same dirty word, and the sections of a place are those of its state number. Assumes nothing.
use Rattle.std.specs.Prelude.{Result, Ok, Err}
use Prim.Native.Nat.{ℕ, zero, suc, ◌+◌, ◌<◌}
use native.Mathlib.Omega.{arith}
use mathlib.Core.Path.{◌≡◌, refl, ap, ◌∙◌}
use mathlib.Core.Bool.{Bool, true, false, ◌&&◌, ◌||◌}
use mathlib.Core.List.{[], ◌∷◌, map}
use lib.Bits.{bit_or}
use lib.Dec.{eqb, eqb-suc-zero, ltb}
use borrow.Author.Tests.{eqb-true, eqb-false, ne_eqb, le-leb, lt-leb}
use Rattle.lemmas.proofs.Branch.{branch}
use Rattle.d3d9_types.specs.Light.{default_light}
use Rattle.d3d9_types.specs.declared.matrix.D3DMATRIX.{D3DMATRIX}
use Rattle.d3d9_types.specs.declared.light.D3DLIGHT9.{D3DLIGHT9}
use Rattle.words.specs.Bits.{has_bit}
use Rattle.words.proofs.Words.{has_or}
use Rattle.sections.specs.Sections.{sections, bit_of, bit_place, has_section}
use Rattle.sections.proofs.Every.{same_sections}
use Rattle.sections.specs.declared.sections.Section.{Section}
use Rattle.sections.specs.declared.sections.Section.TheVariants as Sections
use Rattle.light_table.specs.Overflow.{used_count}
use Rattle.light_table.specs.declared.entry.OverflowLight.{OverflowLight}
use Rattle.d3d9_model.specs.State.{AbstractState}
use Rattle.d3d9_model.specs.Operations.{Operation, set_transform, multiply_transform, set_material, set_light, enable_light, set_fog_start, set_fog_end, set_fog_density, set_ambient, set_texture_mask, mark, abstract_refusal}
use Rattle.d3d9_model.specs.Marks.{transform_marks, among, marks_section}
use Rattle.ff_state.specs.State.{fresh_state, dirty_word}
use Rattle.ff_state.specs.Dirty.{dirtied, mark_ff_vs_dirty, mark_number, take_ff_vs_dirty}
use Rattle.ff_state.specs.Lights.{set_light_at, set_light_enabled_at, change_entry, replace_entry, insert_entry, lights_bit, light_number}
use Rattle.ff_state.specs.Material as Materials
use Rattle.ff_state.specs.RenderStates as States
use Rattle.ff_state.specs.Slots.{set_slot, define_slot, enable_slot}
use Rattle.ff_state.specs.Transforms.{slot_of, InRange, place_sections, place_bits, placed, change_at, transform_number}
use Rattle.ff_state.specs.Transforms as Transforms
use Rattle.ff_state.specs.Operate.{operate}
use Rattle.ff_state.specs.Valid.{Valid}
use Rattle.ff_state.specs.Changed.{Changed}
use Rattle.ff_state.specs.declared.lights.TableFull.{TableFull}
use Rattle.ff_state.specs.declared.state.FfState.{FfState}
use Rattle.ff_state.specs.declared.transforms.Place.{Place}
use Rattle.ff_state.specs.declared.transforms.Place.TheVariants.{View, Projection, Texture, Palette}
use Rattle.agreement.specs.Agrees.{Agrees}
use Rattle.agreement.proofs.Numbers.{number, Named, place, no_place, named}
use Rattle.agreement.proofs.Kept.{refused-alike}
use Rattle.agreement.proofs.Refused.{refused_same}
use Rattle.ff_state.proofs.Marking.{by_mark}

-- ---- a word, by its sections

-- a word to which bits were added has the sections that it had, and those of the bits
added : (w d bits : ℕ) (g : Section → Bool) → d ≡ bit_or w bits → ((σ : Section) → has_section bits σ ≡ g σ) → (σ : Section) → has_section d σ ≡ (has_section w σ || g σ)
added w d bits g e h σ = ap (λ (x : ℕ). has_section x σ) e ∙ has_or w bits (bit_place σ) ∙ ap (λ (b : Bool). has_section w σ || b) (h σ)

-- ---- transforms

module _ (i : ℕ) where
  texture_marks : i < 8 → transform_marks (16 + i) ≡ Sections.Tt ∷ []
  unfolding transform_marks
  texture_marks h =
      rw (ne_eqb (16 + i) 2 (λ (q : 16 + i ≡ 2). omega arith), ne_eqb (16 + i) 3 (λ (q : 16 + i ≡ 3). omega arith), le-leb 16 (16 + i) (omega arith), le-leb (16 + i) 23 (omega arith))

  palette_marks : i < 255 → transform_marks (256 + suc i) ≡ Sections.Palette ∷ []
  unfolding transform_marks
  palette_marks h =
      rw (
        ne_eqb (256 + suc i) 2 (λ (q : 256 + suc i ≡ 2). omega arith),
        ne_eqb (256 + suc i) 3 (λ (q : 256 + suc i ≡ 3). omega arith),
        le-leb 16 (256 + suc i) (omega arith),
        lt-leb (256 + suc i) 23 (omega arith),
        ne_eqb (256 + suc i) 256 (λ (q : 256 + suc i ≡ 256). omega arith),
        le-leb 257 (256 + suc i) (omega arith),
        le-leb (256 + suc i) 511 (omega arith),
      )

place-sections : (p : Place) → InRange p → (σ : Section) → has_section (place_bits p) σ ≡ among (transform_marks (number p)) σ
unfolding place_sections transform_marks among has_bit
place-sections View h = same_sections _ _ refl
place-sections Projection h = same_sections _ _ refl
place-sections (Texture i) h = rw (texture_marks i h) (same_sections _ _ refl)
place-sections (Palette zero) h = same_sections _ _ refl
place-sections (Palette (suc i)) h = rw (palette_marks i (omega arith), eqb-suc-zero i) (same_sections _ _ refl)

placed_dirty : (s : FfState) (p : Place) (m : D3DMATRIX) → dirty_word (placed s p m) ≡ dirty_word s
unfolding placed
placed_dirty s View m = refl
placed_dirty s Projection m = refl
placed_dirty s (Texture i) m = refl
placed_dirty s (Palette i) m = refl

-- an accepted operation on s that marks these sections, and left the state t
abbrev Marks : FfState → FfState → (Section → Bool) → Type 0
Marks s t g = (σ : Section) → has_section (dirty_word t) σ ≡ (has_section (dirty_word s) σ || g σ)

transform-marks : (s : FfState) (n : ℕ) (f : Place → D3DMATRIX) → transform_number (change_at s (slot_of n) f).answer ≡ 0
    → Marks s (change_at s (slot_of n) f).state (among (transform_marks n))
unfolding change_at transform_number dirtied
transform-marks s n f = go (named n)
  where
    go : Named n → transform_number (change_at s (slot_of n) f).answer ≡ 0 → Marks s (change_at s (slot_of n) f).state (among (transform_marks n))
    go (place p h e q k) =
        rw (q, e)
        (λ z. added (dirty_word s) _ (place_bits p) (among (transform_marks (number p))) (ap (λ (d : ℕ). bit_or d (place_bits p)) (placed_dirty s p (f p))) (place-sections p h))
    go (no_place q k) = rw q (λ z. absurd (omega arith))

-- ---- lights

-- an answer about lights: accepted, it adds the bit of LIGHTS
abbrev Adds : FfState → Changed TableFull → Type 0
Adds s r = light_number r.answer ≡ 0 → dirty_word r.state ≡ bit_or (dirty_word s) lights_bit

enabled_dirty : (s : FfState) (i : ℕ) (on : Bool) → dirty_word (enable_slot s i on) ≡ dirty_word s
unfolding enable_slot define_slot set_slot
enabled_dirty s i on =
    branch (λ (t : FfState). dirty_word t ≡ dirty_word s) (has_bit s.light_defined_mask i) s (set_slot s i default_light) (λ e. refl) (λ e. refl)

entry_adds : (s : FfState) (f : Result ℕ ℕ) (change : OverflowLight → OverflowLight) (made : OverflowLight) → Adds s (change_entry s f change made)
unfolding change_entry replace_entry insert_entry dirtied light_number
entry_adds s (Ok at) change made = λ e. refl
entry_adds s (Err at) change made =
    branch (Adds s) (ltb (used_count s.overflow_count) 56 && ltb at 56) _ _ (λ u e. refl) (λ u e. absurd (omega arith))

set_adds : (s : FfState) (i : ℕ) (l : D3DLIGHT9) → Adds s (set_light_at s i l)
unfolding set_light_at set_slot dirtied
set_adds s i l = branch (Adds s) (ltb i 8) _ _ (λ t e. refl) (λ t. entry_adds s _ _ _)

enable_adds : (s : FfState) (i : ℕ) (on : Bool) → Adds s (set_light_enabled_at s i on)
unfolding set_light_enabled_at dirtied
enable_adds s i on =
    branch (Adds s) (ltb i 8) _ _ (λ t e. ap (λ (d : ℕ). bit_or d lights_bit) (enabled_dirty s i on)) (λ t. entry_adds s _ _ _)

one_section : (τ σ : Section) → has_section (bit_of τ) σ ≡ among (τ ∷ []) σ
unfolding among has_bit
one_section τ =
    same_sections _ _ (same_sections (λ τ. map (has_section (bit_of τ)) sections) (λ τ. map (among (τ ∷ [])) sections) refl τ)

section_marks : (s : FfState) (τ σ : Section) → has_section (bit_or (dirty_word s) (bit_of τ)) σ ≡ (has_section (dirty_word s) σ || among (τ ∷ []) σ)
section_marks s τ = added (dirty_word s) _ (bit_of τ) (among (τ ∷ [])) refl (one_section τ)

light_marks : (s : FfState) (r : Changed TableFull) → Adds s r → light_number r.answer ≡ 0 → Marks s r.state (among (Sections.Lights ∷ []))
light_marks s r adds z = added (dirty_word s) (dirty_word r.state) lights_bit (among (Sections.Lights ∷ [])) (adds z) (one_section Sections.Lights)

-- ---- every operation

mark_adds : (s : FfState) (bits : ℕ) → mark_number (mark_ff_vs_dirty s bits).answer ≡ 0 → dirty_word (mark_ff_vs_dirty s bits).state ≡ bit_or (dirty_word s) bits
unfolding dirtied
mark_adds s bits = by_mark (λ r. mark_number r.answer ≡ 0 → dirty_word r.state ≡ bit_or (dirty_word s) bits) s bits (λ h e. refl) (λ a n e. absurd (n e))

accepted_marks : (s : FfState) (op : Operation) → (operate s op).number ≡ 0 → Marks s (operate s op).state (marks_section op)
unfolding operate marks_section Transforms.set_transform Transforms.multiply_transform Materials.set_material States.set_fog_start States.set_fog_end States.set_fog_density States.set_ambient States.set_texture_mask dirtied
accepted_marks s (set_transform n m) z = transform-marks s n _ z
accepted_marks s (multiply_transform n m) z = transform-marks s n _ z
accepted_marks s (set_material m) z = section_marks s Sections.Material
accepted_marks s (set_light i l) z = light_marks s (set_light_at s i l) (set_adds s i l) z
accepted_marks s (enable_light i on) z = light_marks s (set_light_enabled_at s i on) (enable_adds s i on) z
accepted_marks s (set_fog_start x) z = section_marks s Sections.Fog
accepted_marks s (set_fog_end x) z = section_marks s Sections.Fog
accepted_marks s (set_fog_density x) z = section_marks s Sections.Fog
accepted_marks s (set_ambient c) z = section_marks s Sections.Ambient
accepted_marks s (set_texture_mask t) z = section_marks s Sections.Tt
accepted_marks s (mark bits) z = added (dirty_word s) _ bits (has_section bits) (mark_adds s bits z) (λ σ. refl)

or_false : (b : Bool) → b ≡ (b || false)
or_false true = refl
or_false false = refl

-- of every state, by the number that the operation answers: a refused one marks nothing
pub dirty_by_number : (s : FfState) (op : Operation) (σ : Section)
    → has_section (dirty_word (operate s op).state) σ ≡ (has_section (dirty_word s) σ || (eqb (operate s op).number 0 && marks_section op σ))
dirty_by_number s op σ = go (eqb (operate s op).number 0) refl
  where
    go : (t : Bool) → eqb (operate s op).number 0 ≡ t
        → has_section (dirty_word (operate s op).state) σ ≡ (has_section (dirty_word s) σ || (eqb (operate s op).number 0 && marks_section op σ))
    go true q = rw q (accepted_marks s op (eqb-true (operate s op).number 0 q) σ)
    go false q = rw (q, refused_same s op (eqb-false (operate s op).number 0 q)) (or_false (has_section (dirty_word s) σ))

-- and by the abstract rule of refusals
pub dirty_after : {s : FfState} {a : AbstractState} → Valid s → Agrees s a → (op : Operation) (σ : Section)
    → has_section (dirty_word (operate s op).state) σ ≡ (has_section (dirty_word s) σ || (eqb (abstract_refusal a op) 0 && marks_section op σ))
dirty_after {s} v g op σ = dirty_by_number s op σ ∙ ap (λ (n : ℕ). has_section (dirty_word s) σ || (eqb n 0 && marks_section op σ)) (refused-alike v g op)

-- ---- the fresh word, and taking

-- "A fresh state has zeros and all eight bits": 255
pub fresh_dirty : (dirty_word fresh_state ≡ 255) × ((σ : Section) → has_section (dirty_word fresh_state) σ ≡ true)
unfolding fresh_state has_bit
fresh_dirty = (refl, same_sections _ (λ σ. true) refl)

-- take answers the word and leaves none
pub taken_word : (s : FfState) → ((take_ff_vs_dirty s).bits ≡ dirty_word s) × (dirty_word (take_ff_vs_dirty s).state ≡ 0)
unfolding take_ff_vs_dirty
taken_word s = (refl, refl)
