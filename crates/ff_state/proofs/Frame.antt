-- A section that is not marked after a call has the inputs that it had before it (`unmarked_same`): a call that changes what a section is made from marks the section.
-- Assumes nothing.
use Prim.Native.Nat.{ℕ, zero, suc, ◌+◌}
use mathlib.Core.Path.{◌≡◌, refl, sym, ◌∙◌}
use mathlib.Core.Bool.{Bool, false, ◌&&◌}
use native.Mathlib.Omega.{arith}
use lib.Dec.{eqb-suc-zero, ltb}
use lib.ListN.{set}
use lib.Seq.{get_or-set_other}
use Rattle.lemmas.proofs.Tests.{never, neither}
use Rattle.lemmas.proofs.Branch.{branch}
use mathlib.Core.List.{List}
use Rattle.d3d9_types.specs.Light.{default_light}
use Rattle.d3d9_types.specs.declared.matrix.D3DMATRIX.{D3DMATRIX}
use Rattle.d3d9_types.specs.declared.material.D3DMATERIAL9.{D3DMATERIAL9}
use Rattle.d3d9_types.specs.declared.light.D3DLIGHT9.{D3DLIGHT9}
use Rattle.d3d9_types.specs.RenderStates.{with_fog_start, with_fog_end, with_fog_density, with_ambient}
use Rattle.d3d9_types.specs.declared.render_states.RenderStates.{RenderStates}
use Rattle.ff_state.specs.Active.{active_lights, light_active_mask}
use Rattle.light_table.specs.Overflow.{used_count, inserted_at}
use Rattle.sections.specs.Sections.{bit_of, bit_place, has_section}
use Rattle.words.specs.Bits.{has_bit, with_bit}
use Rattle.ff_state.specs.State.{no_matrix, with_material, with_light_enabled, with_overflow_lights, with_overflow_count, with_render_states, with_tt_active_mask, dirty_word}
use Rattle.light_table.specs.Entry.{light_entry}
use Rattle.ff_state.specs.Dirty.{dirtied, mark_ff_vs_dirty, take_ff_vs_dirty}
use Rattle.ff_state.specs.Transforms.{slot_of, place_sections, place_bits, placed, change_at, multiplied}
use Rattle.ff_state.specs.Transforms as Transforms
use Rattle.ff_state.specs.Material as Materials
use Rattle.ff_state.specs.RenderStates as States
use Rattle.ff_state.specs.Lights.{set_light_at, set_light_enabled_at, change_entry, replace_entry, insert_entry, lights_bit, found, stored_entry, flag}
use Rattle.ff_state.specs.Slots.{set_slot, define_slot, enable_slot}
use Rattle.ff_state.specs.Inputs.{same_inputs}
use Rattle.ff_state.specs.Operate.{operate}
use Rattle.d3d9_model.specs.Operations.{Operation, set_transform, multiply_transform, set_material, set_light, enable_light, set_fog_start, set_fog_end, set_fog_density, set_ambient, set_texture_mask, mark}
use Rattle.sections.specs.declared.sections.Section.{Section}
use Rattle.sections.specs.declared.sections.Section.TheVariants.{Wv, Proj, Material, Lights, Palette, Tt, Fog, Ambient}
use Rattle.ff_state.specs.declared.state.FfState.{FfState}
use Rattle.light_table.specs.declared.entry.OverflowLight.{OverflowLight}
use Rattle.std.specs.Prelude.{Option, Some, None, Result, Ok, Err}
use Rattle.ff_state.specs.Changed.{Changed}
use Rattle.ff_state.specs.declared.lights.TableFull.{TableFull}
use Rattle.ff_state.specs.declared.transforms.Place.{Place}
use Rattle.ff_state.specs.declared.transforms.Place.TheVariants as Places
use Rattle.words.proofs.Words.{has_or}
use Rattle.ff_state.proofs.Marking.{by_mark}

-- a bit that is not set after marking was not among those marked
unmarked : (s : FfState) (bits : ℕ) (σ : Section) → has_section (dirty_word (dirtied s bits)) σ ≡ false → has_section bits σ ≡ false
unfolding dirtied
unmarked s bits σ e = (neither (has_bit (dirty_word s) (bit_place σ)) (has_bit bits (bit_place σ)) (sym (has_or (dirty_word s) bits (bit_place σ)) ∙ e)).1

same : (σ : Section) (s : FfState) → same_inputs σ s s
same Wv s = (refl, refl)
same Proj s = refl
same Material s = refl
same Lights s = (refl, refl)
same Palette s = (refl, refl)
same Tt s = (refl, refl)
same Fog s = (refl, refl, refl)
same Ambient s = refl

-- marking more bits changes no input
marked_same : (σ : Section) (s t : FfState) (bits : ℕ) → same_inputs σ s t → same_inputs σ s (dirtied t bits)
unfolding dirtied active_lights light_active_mask
marked_same Wv s t bits h = h
marked_same Proj s t bits h = h
marked_same Material s t bits h = h
marked_same Lights s t bits h = h
marked_same Palette s t bits h = h
marked_same Tt s t bits h = h
marked_same Fog s t bits h = h
marked_same Ambient s t bits h = h

-- ---- transforms

placed_same : (s : FfState) (p : Place) (m : D3DMATRIX) (σ : Section) → has_section (place_bits p) σ ≡ false → same_inputs σ s (placed s p m)
unfolding placed place_sections has_bit active_lights light_active_mask
placed_same s Places.View m Wv e = never e
placed_same s Places.View m Proj e = refl
placed_same s Places.View m Material e = refl
placed_same s Places.View m Lights e = never e
placed_same s Places.View m Palette e = never e
placed_same s Places.View m Tt e = (refl, refl)
placed_same s Places.View m Fog e = (refl, refl, refl)
placed_same s Places.View m Ambient e = refl
placed_same s Places.Projection m Wv e = (refl, refl)
placed_same s Places.Projection m Proj e = never e
placed_same s Places.Projection m Material e = refl
placed_same s Places.Projection m Lights e = (refl, refl)
placed_same s Places.Projection m Palette e = (refl, refl)
placed_same s Places.Projection m Tt e = (refl, refl)
placed_same s Places.Projection m Fog e = (refl, refl, refl)
placed_same s Places.Projection m Ambient e = refl
placed_same s (Places.Texture i) m Wv e = (refl, refl)
placed_same s (Places.Texture i) m Proj e = refl
placed_same s (Places.Texture i) m Material e = refl
placed_same s (Places.Texture i) m Lights e = (refl, refl)
placed_same s (Places.Texture i) m Palette e = (refl, refl)
placed_same s (Places.Texture i) m Tt e = never e
placed_same s (Places.Texture i) m Fog e = (refl, refl, refl)
placed_same s (Places.Texture i) m Ambient e = refl
placed_same s (Places.Palette zero) m Wv e = never e
placed_same s (Places.Palette zero) m Proj e = refl
placed_same s (Places.Palette zero) m Material e = refl
placed_same s (Places.Palette zero) m Lights e = (refl, refl)
placed_same s (Places.Palette zero) m Palette e = never e
placed_same s (Places.Palette zero) m Tt e = (refl, refl)
placed_same s (Places.Palette zero) m Fog e = (refl, refl, refl)
placed_same s (Places.Palette zero) m Ambient e = refl
placed_same s (Places.Palette (suc i)) m Wv e = (refl, sym (get_or-set_other s.world_palette (suc i) 0 m no_matrix (λ (q : 0 ≡ suc i). omega arith)))
placed_same s (Places.Palette (suc i)) m Proj e = refl
placed_same s (Places.Palette (suc i)) m Material e = refl
placed_same s (Places.Palette (suc i)) m Lights e = (refl, refl)
placed_same s (Places.Palette (suc i)) m Palette e = never (rw (eqb-suc-zero i) at e)
placed_same s (Places.Palette (suc i)) m Tt e = (refl, refl)
placed_same s (Places.Palette (suc i)) m Fog e = (refl, refl, refl)
placed_same s (Places.Palette (suc i)) m Ambient e = refl

place_same : (s : FfState) (p : Option Place) (f : Place → D3DMATRIX) (σ : Section) → has_section (dirty_word (change_at s p f).state) σ ≡ false → same_inputs σ s (change_at s p f).state
unfolding change_at
place_same s (Some p) f σ e = marked_same σ s (placed s p (f p)) (place_bits p) (placed_same s p (f p) σ (unmarked (placed s p (f p)) (place_bits p) σ e))
place_same s None f σ e = same σ s

-- ---- the material

material_same : (s : FfState) (m : D3DMATERIAL9) (σ : Section) → has_section (dirty_word (Materials.set_material s m)) σ ≡ false → same_inputs σ s (Materials.set_material s m)
unfolding Materials.set_material has_bit active_lights light_active_mask
material_same s m σ e = marked_same σ s (with_material s m) (bit_of Material) (stored σ (unmarked (with_material s m) (bit_of Material) σ e))
  where
    stored : (σ : Section) → has_section (bit_of Material) σ ≡ false → same_inputs σ s (with_material s m)
    stored Wv h = (refl, refl)
    stored Proj h = refl
    stored Material h = never h
    stored Lights h = (refl, refl)
    stored Palette h = (refl, refl)
    stored Tt h = (refl, refl)
    stored Fog h = (refl, refl, refl)
    stored Ambient h = refl

-- ---- render states and the texture mask

-- the colour's row is not made from the fog
fog_same : (s : FfState) (r : RenderStates) → r.ambient ≡ s.render_states.ambient → (σ : Section)
    → has_section (dirty_word (dirtied (with_render_states s r) (bit_of Fog))) σ ≡ false → same_inputs σ s (dirtied (with_render_states s r) (bit_of Fog))
unfolding has_bit active_lights light_active_mask
fog_same s r q σ e = marked_same σ s (with_render_states s r) (bit_of Fog) (stored σ (unmarked (with_render_states s r) (bit_of Fog) σ e))
  where
    stored : (σ : Section) → has_section (bit_of Fog) σ ≡ false → same_inputs σ s (with_render_states s r)
    stored Wv h = (refl, refl)
    stored Proj h = refl
    stored Material h = refl
    stored Lights h = (refl, refl)
    stored Palette h = (refl, refl)
    stored Tt h = (refl, refl)
    stored Fog h = never h
    stored Ambient h = sym q

ambient_same : (s : FfState) (c : ℕ) (σ : Section) → has_section (dirty_word (States.set_ambient s c)) σ ≡ false → same_inputs σ s (States.set_ambient s c)
unfolding States.set_ambient has_bit active_lights light_active_mask
ambient_same s c σ e =
    let t : FfState = with_render_states s (with_ambient s.render_states c) in
    marked_same σ s t (bit_of Ambient) (stored σ (unmarked t (bit_of Ambient) σ e))
  where
    stored : (σ : Section) → has_section (bit_of Ambient) σ ≡ false → same_inputs σ s (with_render_states s (with_ambient s.render_states c))
    stored Wv h = (refl, refl)
    stored Proj h = refl
    stored Material h = refl
    stored Lights h = (refl, refl)
    stored Palette h = (refl, refl)
    stored Tt h = (refl, refl)
    stored Fog h = (refl, refl, refl)
    stored Ambient h = never h

mask_same : (s : FfState) (t : ℕ) (σ : Section) → has_section (dirty_word (States.set_texture_mask s t)) σ ≡ false → same_inputs σ s (States.set_texture_mask s t)
unfolding States.set_texture_mask has_bit active_lights light_active_mask
mask_same s t σ e = marked_same σ s (with_tt_active_mask s t) (bit_of Tt) (stored σ (unmarked (with_tt_active_mask s t) (bit_of Tt) σ e))
  where
    stored : (σ : Section) → has_section (bit_of Tt) σ ≡ false → same_inputs σ s (with_tt_active_mask s t)
    stored Wv h = (refl, refl)
    stored Proj h = refl
    stored Material h = refl
    stored Lights h = (refl, refl)
    stored Palette h = (refl, refl)
    stored Tt h = never h
    stored Fog h = (refl, refl, refl)
    stored Ambient h = refl

-- ---- lights: nothing but LIGHTS is made from what they change

abbrev OnlyLights : FfState → FfState → Type 0
OnlyLights s t = (σ : Section) → has_section lights_bit σ ≡ false → same_inputs σ s t

lights_same : (s t : FfState) (σ : Section) → OnlyLights s t → has_section (dirty_word (dirtied t lights_bit)) σ ≡ false → same_inputs σ s (dirtied t lights_bit)
lights_same s t σ h e = marked_same σ s t lights_bit (h σ (unmarked t lights_bit σ e))

set_slot_only : (s : FfState) (i : ℕ) (l : D3DLIGHT9) → OnlyLights s (set_slot s i l)
unfolding set_slot has_bit
set_slot_only s i l Wv h = (refl, refl)
set_slot_only s i l Proj h = refl
set_slot_only s i l Material h = refl
set_slot_only s i l Lights h = never h
set_slot_only s i l Palette h = (refl, refl)
set_slot_only s i l Tt h = (refl, refl)
set_slot_only s i l Fog h = (refl, refl, refl)
set_slot_only s i l Ambient h = refl

define_slot_only : (s : FfState) (i : ℕ) → OnlyLights s (define_slot s i)
unfolding define_slot
define_slot_only s i =
    branch (OnlyLights s) (has_bit s.light_defined_mask i) s (set_slot s i default_light)
    (λ e. λ (σ : Section) (h : has_section lights_bit σ ≡ false). same σ s)
    (λ e. set_slot_only s i default_light)

enabled_only : (s t : FfState) (x : ℕ) → OnlyLights s t → OnlyLights s (with_light_enabled t x)
unfolding has_bit
enabled_only s t x h Wv e = h Wv e
enabled_only s t x h Proj e = h Proj e
enabled_only s t x h Material e = h Material e
enabled_only s t x h Lights e = never e
enabled_only s t x h Palette e = h Palette e
enabled_only s t x h Tt e = h Tt e
enabled_only s t x h Fog e = h Fog e
enabled_only s t x h Ambient e = h Ambient e

enable_slot_only : (s : FfState) (i : ℕ) (on : Bool) → OnlyLights s (enable_slot s i on)
unfolding enable_slot
enable_slot_only s i on = enabled_only s (define_slot s i) (with_bit (define_slot s i).light_enabled i on) (define_slot_only s i)

entries_only : (s : FfState) (es : List OverflowLight) (n : ℕ) → OnlyLights s (with_overflow_count (with_overflow_lights s es) n)
unfolding has_bit
entries_only s es n Wv e = (refl, refl)
entries_only s es n Proj e = refl
entries_only s es n Material e = refl
entries_only s es n Lights e = never e
entries_only s es n Palette e = (refl, refl)
entries_only s es n Tt e = (refl, refl)
entries_only s es n Fog e = (refl, refl, refl)
entries_only s es n Ambient e = refl

-- an answer whose state keeps the inputs of every section that it leaves unmarked
abbrev Keeps : FfState → Section → Changed TableFull → Type 0
Keeps s σ r = has_section (dirty_word r.state) σ ≡ false → same_inputs σ s r.state

replace_keeps : (s : FfState) (at : ℕ) (x : OverflowLight) (σ : Section) → Keeps s σ (replace_entry s at x)
unfolding replace_entry
replace_keeps s at x σ =
    lights_same s (with_overflow_lights s (set s.overflow_lights at x)) σ (entries_only s (set s.overflow_lights at x) s.overflow_count)

insert_keeps : (s : FfState) (at : ℕ) (x : OverflowLight) (σ : Section) → Keeps s σ (insert_entry s at x)
unfolding insert_entry
insert_keeps s at x σ =
    let n = used_count s.overflow_count in
    branch (Keeps s σ) (ltb n 56 && ltb at 56) _ _
    (λ e. lights_same s (with_overflow_count (with_overflow_lights s (inserted_at at x s.overflow_lights)) (n + 1)) σ (entries_only s (inserted_at at x s.overflow_lights) (n + 1)))
    (λ e h. same σ s)

entry_keeps : (s : FfState) (f : Result ℕ ℕ) (change : OverflowLight → OverflowLight) (made : OverflowLight) (σ : Section) → Keeps s σ (change_entry s f change made)
unfolding change_entry
entry_keeps s (Ok at) change made σ = replace_keeps s at (change (stored_entry s at)) σ
entry_keeps s (Err at) change made σ = insert_keeps s at made σ

set_light_keeps : (s : FfState) (i : ℕ) (l : D3DLIGHT9) (σ : Section) → Keeps s σ (set_light_at s i l)
unfolding set_light_at
set_light_keeps s i l σ =
    branch (Keeps s σ) (ltb i 8) _ _
    (λ e. lights_same s (set_slot s i l) σ (set_slot_only s i l))
    (λ e. entry_keeps s (found s i) (λ (x : OverflowLight). light_entry x.index x.enabled l) (light_entry i 0 l) σ)

enable_light_keeps : (s : FfState) (i : ℕ) (on : Bool) (σ : Section) → Keeps s σ (set_light_enabled_at s i on)
unfolding set_light_enabled_at
enable_light_keeps s i on σ =
    branch (Keeps s σ) (ltb i 8) _ _
    (λ e. lights_same s (enable_slot s i on) σ (enable_slot_only s i on))
    (λ e. entry_keeps s (found s i) (λ (x : OverflowLight). light_entry x.index (flag on) x.light) (light_entry i (flag on) default_light) σ)

-- ---- marking and taking

mark_keeps : (s : FfState) (bits : ℕ) (σ : Section) → same_inputs σ s (mark_ff_vs_dirty s bits).state
mark_keeps s bits σ = by_mark (λ r. same_inputs σ s r.state) s bits (λ h. marked_same σ s s bits (same σ s)) (λ a n. same σ s)

pub taken_same : (s : FfState) (σ : Section) → same_inputs σ s (take_ff_vs_dirty s).state
unfolding take_ff_vs_dirty active_lights light_active_mask
taken_same s Wv = (refl, refl)
taken_same s Proj = refl
taken_same s Material = refl
taken_same s Lights = (refl, refl)
taken_same s Palette = (refl, refl)
taken_same s Tt = (refl, refl)
taken_same s Fog = (refl, refl, refl)
taken_same s Ambient = refl

-- ---- every call

pub unmarked_same : (s : FfState) (op : Operation) (σ : Section) → has_section (dirty_word (operate s op).state) σ ≡ false → same_inputs σ s (operate s op).state
unfolding operate Transforms.set_transform Transforms.multiply_transform States.set_fog_start States.set_fog_end States.set_fog_density
unmarked_same s (set_transform n m) σ e = place_same s (slot_of n) (λ (p : Place). m) σ e
unmarked_same s (multiply_transform n m) σ e = place_same s (slot_of n) (multiplied s m) σ e
unmarked_same s (set_material m) σ e = material_same s m σ e
unmarked_same s (set_light i l) σ e = set_light_keeps s i l σ e
unmarked_same s (enable_light i on) σ e = enable_light_keeps s i on σ e
unmarked_same s (set_fog_start x) σ e = fog_same s (with_fog_start s.render_states x) refl σ e
unmarked_same s (set_fog_end x) σ e = fog_same s (with_fog_end s.render_states x) refl σ e
unmarked_same s (set_fog_density x) σ e = fog_same s (with_fog_density s.render_states x) refl σ e
unmarked_same s (set_ambient c) σ e = ambient_same s c σ e
unmarked_same s (set_texture_mask t) σ e = mask_same s t σ e
unmarked_same s (mark bits) σ e = mark_keeps s bits σ
