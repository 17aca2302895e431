-- Worked examples, computed, that hold the definitions to document 01. Assumes nothing.
use Prim.Native.Nat.{ℕ, zero, suc}
use mathlib.Core.Path.{◌≡◌, refl}
use mathlib.Core.Bool.{Bool, true, false, cond}
use mathlib.Core.List.{List, [], ◌∷◌, map}
use lib.Ieee.{Float}
use lib.ListN.{replicate}
use Rattle.d3d9_types.specs.Light.{default_light}
use Rattle.d3d9_types.specs.Matrix.{identity}
use Rattle.d3d9_types.specs.declared.matrix.D3DMATRIX.{D3DMATRIX}
use Rattle.d3d9_types.specs.declared.material.D3DMATERIAL9.{D3DMATERIAL9}
use Rattle.d3d9_types.specs.declared.light.D3DLIGHT9.{D3DLIGHT9}
use Rattle.matrix.specs.Product.{mat_mul}
use Rattle.sections.specs.Sections.{sections}
use Rattle.words.specs.Bits.{has_bit}
use Rattle.d3d9_model.specs.State.{AbstractState, AbstractLight, fresh_abstract, raised, replaced_lights}
use Rattle.d3d9_model.specs.Lights.{indexed_light, lookup, is_there, is_on, changed_at, light_set, light_enabled, count_beyond, lights?, active_of, abstract_light, abstract_active}
use Rattle.d3d9_model.specs.Operations.{Operation, set_transform, multiply_transform, set_material, set_light, enable_light, set_fog_start, set_fog_end, set_fog_density, set_ambient, set_texture_mask, mark, known, full, abstract_refusal, abstract_change, abstract_step}
use Rattle.d3d9_model.specs.Marks.{transform_marks, among, marks_section}
use Rattle.d3d9_model.specs.Active.{compacted, bits_number, compacted_mask, active_kind, raw_mask, word_of, abstract_light_inputs}
use Rattle.d3d9_model.specs.Reads.{transform_read_refusal, light_read_refusal, abstract_palette_used}

-- operations one after another, from the fresh state
abbrev after : List Operation → AbstractState → AbstractState
after [] a = a
after (o ∷ os) a = after os (abstract_step a o)

abbrev lights_after : List Operation → List AbstractLight
lights_after os = (after os fresh_abstract).lights

fresh : (n : ℕ) → fresh_abstract.matrix n ≡ identity
unfolding fresh_abstract
fresh n = refl

-- P8, and the numbers beside each range
abbrev edges : List ℕ
edges = 1 ∷ 2 ∷ 3 ∷ 4 ∷ 15 ∷ 16 ∷ 23 ∷ 24 ∷ 255 ∷ 256 ∷ 511 ∷ 512 ∷ []

abbrev refusals : List ℕ
refusals = 1 ∷ 0 ∷ 0 ∷ 1 ∷ 1 ∷ 0 ∷ 0 ∷ 1 ∷ 1 ∷ 0 ∷ 0 ∷ 1 ∷ []

numbers : (a : AbstractState) (m : D3DMATRIX)
    → (map (λ n. abstract_refusal a (set_transform n m)) edges ≡ refusals) × (map (λ n. abstract_refusal a (multiply_transform n m)) edges ≡ refusals)
unfolding abstract_refusal known
numbers a m = (refl, refl)

-- a refused operation changes nothing
unchanged : (a : AbstractState) (m : D3DMATRIX) → (abstract_step a (set_transform 15 m) ≡ a) × (abstract_step a (multiply_transform 512 m) ≡ a)
unfolding abstract_step abstract_refusal abstract_change known
unchanged a m = (refl, refl)

material_set : (a : AbstractState) (m : D3DMATERIAL9) → (abstract_step a (set_material m)).material ≡ m
unfolding abstract_step abstract_refusal abstract_change
material_set a m = refl

marks : (a : AbstractState) → map (λ n. abstract_refusal a (mark n)) (0 ∷ 63 ∷ 64 ∷ 255 ∷ 256 ∷ []) ≡ 0 ∷ 0 ∷ 0 ∷ 0 ∷ 7 ∷ []
unfolding abstract_refusal
marks a = refl

-- argument × slot, not the other order; another number is left alone
multiplied : (a : AbstractState) (m : D3DMATRIX) → (abstract_step a (multiply_transform 2 m)).matrix 2 ≡ mat_mul m (a.matrix 2)
unfolding abstract_step abstract_refusal abstract_change known
multiplied a m = refl

unmoved : (a : AbstractState) (m : D3DMATRIX) → (abstract_step a (set_transform 2 m)).matrix 3 ≡ a.matrix 3
unfolding abstract_step abstract_refusal abstract_change known
unmoved a m = refl

-- P9: with 56 lights from 8 on, one more from 8 on is refused; a stored one and one below 8 are not
abbrev enables : ℕ → ℕ → List Operation
enables i zero = []
enables i (suc n) = enable_light i true ∷ enables (suc i) n

abbrev crowded : ℕ → AbstractState
crowded n = after (enable_light 7 true ∷ enables 8 n) fresh_abstract

abbrev indices : List ℕ
indices = 0 ∷ 7 ∷ 8 ∷ 63 ∷ 64 ∷ []

room : (l : D3DLIGHT9)
    → (map (λ i. abstract_refusal (crowded 55) (enable_light i true)) indices ≡ 0 ∷ 0 ∷ 0 ∷ 0 ∷ 0 ∷ [])
    × (map (λ i. abstract_refusal (crowded 56) (enable_light i true)) indices ≡ 0 ∷ 0 ∷ 0 ∷ 0 ∷ 3 ∷ [])
    × (map (λ i. abstract_refusal (crowded 56) (set_light i l)) indices ≡ 0 ∷ 0 ∷ 0 ∷ 0 ∷ 3 ∷ [])
unfolding fresh_abstract abstract_step abstract_refusal abstract_change full lookup is_there count_beyond light_set light_enabled changed_at
room l = (refl, refl, refl)

module _ (l k : D3DLIGHT9) where
  set_then_enabled : lights_after (set_light 9 l ∷ enable_light 9 true ∷ []) ≡ indexed_light 9 true l ∷ []
  unfolding fresh_abstract abstract_step abstract_refusal abstract_change full lookup is_there count_beyond light_set light_enabled changed_at
  set_then_enabled = refl

  ascending : lights_after (set_light 9 l ∷ set_light 8 k ∷ []) ≡ indexed_light 8 false k ∷ indexed_light 9 false l ∷ []
  unfolding fresh_abstract abstract_step abstract_refusal abstract_change full lookup is_there count_beyond light_set light_enabled changed_at
  ascending = refl

  setting_keeps_the_enable : lights_after (enable_light 3 true ∷ set_light 3 l ∷ set_light 3 k ∷ []) ≡ indexed_light 3 true k ∷ []
  unfolding fresh_abstract abstract_step abstract_refusal abstract_change full lookup is_there count_beyond light_set light_enabled changed_at
  setting_keeps_the_enable = refl

-- disabling makes the default light too
made : lights_after (enable_light 70 false ∷ enable_light 2 true ∷ []) ≡ indexed_light 2 true default_light ∷ indexed_light 70 false default_light ∷ []
unfolding fresh_abstract abstract_step abstract_refusal abstract_change full lookup is_there count_beyond light_set light_enabled changed_at
made = refl

-- a light of a type
abbrev typed : ℕ → D3DLIGHT9
typed t =
    record {
      type_ = t;
      diffuse = default_light.diffuse;
      specular = default_light.specular;
      ambient = default_light.ambient;
      position = default_light.position;
      direction = default_light.direction;
      range = default_light.range;
      falloff = default_light.falloff;
      attenuation0 = default_light.attenuation0;
      attenuation1 = default_light.attenuation1;
      attenuation2 = default_light.attenuation2;
      theta = default_light.theta;
      phi = default_light.phi;
    }

-- of these the second is off, and two have types that light nothing
abbrev five : AbstractState
five = replaced_lights fresh_abstract (indexed_light 0 true (typed 3) ∷ indexed_light 1 false (typed 1) ∷ indexed_light 5 true (typed 4) ∷ indexed_light 9 true (typed 1) ∷ indexed_light 12 true (typed 0) ∷ [])

active : abstract_active five ≡ typed 3 ∷ typed 1 ∷ []
unfolding abstract_active active_of lights?
active = refl

-- the reads of an index: whether there is a light, and whether it is on
reads : (map (λ i. is_there (abstract_light five i)) (0 ∷ 1 ∷ 2 ∷ 9 ∷ []) ≡ true ∷ true ∷ false ∷ true ∷ [])
    × (map (λ i. is_on (abstract_light five i)) (0 ∷ 1 ∷ 2 ∷ 9 ∷ []) ≡ true ∷ false ∷ false ∷ true ∷ [])
unfolding abstract_light lookup is_there is_on
reads = (refl, refl)

-- "Read refuses 2 if undefined", and of a transform 1
read_numbers : (map (light_read_refusal five) (0 ∷ 1 ∷ 2 ∷ 9 ∷ []) ≡ 0 ∷ 0 ∷ 2 ∷ 0 ∷ []) × (map transform_read_refusal edges ≡ refusals)
unfolding light_read_refusal abstract_light lookup is_there transform_read_refusal known
read_numbers = (refl, refl)

-- ---- the sections that an operation marks: WV, PROJ, MATERIAL, LIGHTS, PALETTE, TT, FOG, AMBIENT, a 1 for each that is marked

abbrev marks_of : Operation → List ℕ
marks_of op = map (λ σ. cond (marks_section op σ) 1 0) sections

abbrev numbered : List ℕ
numbered = 2 ∷ 3 ∷ 16 ∷ 23 ∷ 256 ∷ 257 ∷ 511 ∷ []

abbrev marked : List (List ℕ)
marked =
    (1 ∷ 0 ∷ 0 ∷ 1 ∷ 1 ∷ 0 ∷ 0 ∷ 0 ∷ [])
    ∷ (0 ∷ 1 ∷ 0 ∷ 0 ∷ 0 ∷ 0 ∷ 0 ∷ 0 ∷ [])
    ∷ (0 ∷ 0 ∷ 0 ∷ 0 ∷ 0 ∷ 1 ∷ 0 ∷ 0 ∷ [])
    ∷ (0 ∷ 0 ∷ 0 ∷ 0 ∷ 0 ∷ 1 ∷ 0 ∷ 0 ∷ [])
    ∷ (1 ∷ 0 ∷ 0 ∷ 0 ∷ 1 ∷ 0 ∷ 0 ∷ 0 ∷ [])
    ∷ (0 ∷ 0 ∷ 0 ∷ 0 ∷ 1 ∷ 0 ∷ 0 ∷ 0 ∷ [])
    ∷ (0 ∷ 0 ∷ 0 ∷ 0 ∷ 1 ∷ 0 ∷ 0 ∷ 0 ∷ [])
    ∷ []

transform-marks : (m : D3DMATRIX) → (map (λ n. marks_of (set_transform n m)) numbered ≡ marked) × (map (λ n. marks_of (multiply_transform n m)) numbered ≡ marked)
unfolding marks_section transform_marks among
transform-marks m = (refl, refl)

other-marks : (m : D3DMATERIAL9) (l : D3DLIGHT9)
    → (marks_of (set_material m) ≡ 0 ∷ 0 ∷ 1 ∷ 0 ∷ 0 ∷ 0 ∷ 0 ∷ 0 ∷ [])
    × (marks_of (set_light 9 l) ≡ 0 ∷ 0 ∷ 0 ∷ 1 ∷ 0 ∷ 0 ∷ 0 ∷ 0 ∷ [])
    × (marks_of (enable_light 3 true) ≡ 0 ∷ 0 ∷ 0 ∷ 1 ∷ 0 ∷ 0 ∷ 0 ∷ 0 ∷ [])
    × (marks_of (mark 38) ≡ 0 ∷ 1 ∷ 1 ∷ 0 ∷ 0 ∷ 1 ∷ 0 ∷ 0 ∷ [])
unfolding marks_section among has_bit
other-marks m l = (refl, refl, refl, refl)

-- document 02, T-05
state_marks : (x : Float)
    → (map marks_of (set_fog_start x ∷ set_fog_end x ∷ set_fog_density x ∷ []) ≡ replicate 3 (0 ∷ 0 ∷ 0 ∷ 0 ∷ 0 ∷ 0 ∷ 1 ∷ 0 ∷ []))
    × (marks_of (set_ambient 7) ≡ 0 ∷ 0 ∷ 0 ∷ 0 ∷ 0 ∷ 0 ∷ 0 ∷ 1 ∷ [])
    × (marks_of (set_texture_mask 5) ≡ 0 ∷ 0 ∷ 0 ∷ 0 ∷ 0 ∷ 1 ∷ 0 ∷ 0 ∷ [])
    × (marks_of (mark 192) ≡ 0 ∷ 0 ∷ 0 ∷ 0 ∷ 0 ∷ 0 ∷ 1 ∷ 1 ∷ [])
unfolding marks_section among has_bit
state_marks x = (refl, refl, refl, refl)

-- each in its own field
states_set : (x y z : Float)
    → ((after (set_fog_start x ∷ set_ambient 7 ∷ set_fog_end y ∷ set_texture_mask 5 ∷ set_fog_density z ∷ []) fresh_abstract).render_states ≡ record { fog_start = x; fog_end = y; fog_density = z; ambient = 7 })
    × ((after (set_texture_mask 5 ∷ set_ambient 7 ∷ mark 255 ∷ []) fresh_abstract).texture_mask ≡ 5)
unfolding abstract_step abstract_refusal abstract_change
states_set x y z = (refl, refl)

-- ---- "the highest palette index ever set or multiplied, plus 1, and 1 when fresh"

palette_used : (m : D3DMATRIX)
    → (abstract_palette_used fresh_abstract ≡ 1)
    × (abstract_palette_used (after (set_transform 256 m ∷ set_transform 23 m ∷ set_transform 512 m ∷ []) fresh_abstract) ≡ 1)
    × (abstract_palette_used (after (set_transform 263 m ∷ set_transform 258 m ∷ []) fresh_abstract) ≡ 8)
    × (abstract_palette_used (after (set_transform 263 m ∷ multiply_transform 511 m ∷ set_material fresh_abstract.material ∷ enable_light 0 true ∷ []) fresh_abstract) ≡ 256)
unfolding abstract_palette_used fresh_abstract raised abstract_step abstract_refusal abstract_change known full
palette_used m = (refl, refl, refl, refl)

-- ---- "Compaction"

abbrev nine : AbstractState
nine =
    replaced_lights fresh_abstract
    (indexed_light 1 true (typed 1) ∷ indexed_light 2 true (typed 2) ∷ indexed_light 3 false (typed 3) ∷ indexed_light 4 true (typed 1) ∷ indexed_light 5 true (typed 3) ∷ indexed_light 6 true (typed 4) ∷ indexed_light 7 true (typed 1)
    ∷ indexed_light 9 true (typed 2) ∷ indexed_light 10 true (typed 1) ∷ indexed_light 11 true (typed 3) ∷ indexed_light 12 true (typed 2) ∷ [])

eight_at_most : compacted nine ≡ typed 1 ∷ typed 2 ∷ typed 1 ∷ typed 3 ∷ typed 1 ∷ typed 2 ∷ typed 1 ∷ typed 3 ∷ []
unfolding compacted abstract_active active_of lights?
eight_at_most = refl

nine_inputs : abstract_light_inputs nine ≡ 0x012288FF
unfolding abstract_light_inputs word_of compacted_mask bits_number compacted abstract_active active_of lights? count_beyond
nine_inputs = refl

-- P7, with a directional and a spot light beside them that are off
abbrev two : AbstractState
two = replaced_lights fresh_abstract (indexed_light 0 true (typed 3) ∷ indexed_light 3 true (typed 2) ∷ indexed_light 4 false (typed 3) ∷ indexed_light 5 false (typed 2) ∷ [])

abbrev with_point : Bool → AbstractState
with_point on = replaced_lights fresh_abstract (indexed_light 0 true (typed 3) ∷ indexed_light 3 true (typed 2) ∷ indexed_light 4 false (typed 3) ∷ indexed_light 5 false (typed 2) ∷ indexed_light 9 on (typed 1) ∷ [])

light_inputs : (abstract_light_inputs two ≡ 0x00080109) × (abstract_light_inputs (with_point true) ≡ 0x01020107) × (abstract_light_inputs (with_point false) ≡ 0x01020103)
unfolding abstract_light_inputs word_of raw_mask active_kind abstract_light lookup compacted_mask bits_number compacted abstract_active active_of lights? count_beyond
light_inputs = (refl, refl, refl)
