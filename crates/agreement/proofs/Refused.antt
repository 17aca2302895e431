-- An operation that is refused leaves the state: each call's own definition says so.
-- Assumes nothing.
use Rattle.std.specs.Prelude.{Option, Some, None}
use Prim.Native.Nat.{ℕ}
use mathlib.Core.Path.{◌≡◌, refl, ap, ◌∙◌}
use mathlib.Core.Bool.{Bool, true, false, cond}
use Rattle.d3d9_types.specs.declared.matrix.D3DMATRIX.{D3DMATRIX}
use Rattle.d3d9_model.specs.Operations.{Operation, set_transform, multiply_transform, set_material, set_light, enable_light, set_fog_start, set_fog_end, set_fog_density, set_ambient, set_texture_mask, mark}
use Rattle.ff_state.specs.Dirty.{mark_ff_vs_dirty, mark_number}
use Rattle.ff_state.specs.Lights.{has_room, set_light_at, set_light_enabled_at, light_number}
use Rattle.ff_state.specs.Transforms as Transforms
use Rattle.ff_state.specs.Changed.{Changed}
use Rattle.ff_state.specs.declared.lights.TableFull.{TableFull}
use Rattle.ff_state.specs.declared.state.FfState.{FfState}
use Rattle.ff_state.specs.declared.transforms.Place.{Place}
use Rattle.ff_state.proofs.Marking.{by_mark}
use Rattle.ff_state.proofs.Room.{room_refusal, set-answer, set-refused, enable_answer, enable_refused}
use Rattle.ff_state.specs.Operate.{operate}

-- an answer other than 0
abbrev Not0 : ℕ → Type 0
Not0 n = n ≡ 0 → ⊥

transform_same : (s : FfState) (p : Option Place) (f : Place → D3DMATRIX) → Not0 (Transforms.transform_number (Transforms.change_at s p f).answer) → (Transforms.change_at s p f).state ≡ s
unfolding Transforms.change_at Transforms.transform_number
transform_same s (Some p) f h = absurd (h refl)
transform_same s None f h = refl

light_same : (s : FfState) (i : ℕ) (r : Changed TableFull) → light_number r.answer ≡ cond (has_room s i) 0 3 → (has_room s i ≡ false → r ≡ room_refusal s) → Not0 (light_number r.answer) → r.state ≡ s
light_same s i r answer unchanged h = by_cases (has_room s i) refl
  where
    by_cases : (t : Bool) → has_room s i ≡ t → r.state ≡ s
    by_cases true e = absurd (h (answer ∙ rw e))
    by_cases false e = ap (λ (x : Changed TableFull). x.state) (unchanged e)

mark_same : (s : FfState) (bits : ℕ) → Not0 (mark_number (mark_ff_vs_dirty s bits).answer) → (mark_ff_vs_dirty s bits).state ≡ s
unfolding mark_number
mark_same s bits = by_mark (λ r. Not0 (mark_number r.answer) → r.state ≡ s) s bits (λ h n. absurd (n refl)) (λ a f n. refl)

pub refused_same : (s : FfState) (op : Operation) → ((operate s op).number ≡ 0 → ⊥) → (operate s op).state ≡ s
unfolding operate Transforms.set_transform Transforms.multiply_transform
refused_same s (set_transform n m) h = transform_same s (Transforms.slot_of n) _ h
refused_same s (multiply_transform n m) h = transform_same s (Transforms.slot_of n) _ h
refused_same s (set_material m) h = absurd (h refl)
refused_same s (set_light i l) h = light_same s i (set_light_at s i l) (set-answer s i l) (set-refused s i l) h
refused_same s (enable_light i on) h = light_same s i (set_light_enabled_at s i on) (enable_answer s i on) (enable_refused s i on) h
refused_same s (set_fog_start x) h = absurd (h refl)
refused_same s (set_fog_end x) h = absurd (h refl)
refused_same s (set_fog_density x) h = absurd (h refl)
refused_same s (set_ambient c) h = absurd (h refl)
refused_same s (set_texture_mask t) h = absurd (h refl)
refused_same s (mark bits) h = mark_same s bits h
