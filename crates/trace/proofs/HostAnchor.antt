-- What a host learns from the contracts of the calls over an image, and of those of `host`, which the C names call under the same clauses: the number and the image are those that a step uses; and none asks anything.
-- Of each call two modules are brought in, its parameters and what its contract says of them: the theorems' statements name both. Assumes nothing.
use Prim.Native.Nat.{ℕ}
use mathlib.Core.Path.{◌≡◌}
use borrow.Fn.Kinds.{Dens, ended_of}
use contract.Lifetimes.{Lfts}
use denote.Triple.Clauses.{AtExit}
use Rattle.std.specs.Prelude.{Result}
use Rattle.calls.specs.Answer.{answer}
use Rattle.calls.specs.Refusal.{code, value_or}
use Rattle.calls.specs.declared.refusal.Refusal.{Refusal}
use Rattle.pack_calls.specs.Key.{key_of}
use Rattle.refresh_calls.specs.Mirror.{left}
use Rattle.transform_calls.proofs.set_transform.Kinds as call-set-transform-kinds
use Rattle.transform_calls.proofs.set_transform.Reads as call-set-transform-reads
use Rattle.host.proofs.transforms.ff_set_transform.Kinds as ff-set-transform-kinds
use Rattle.host.proofs.transforms.ff_set_transform.Reads as ff-set-transform-reads
use Rattle.transform_calls.proofs.multiply_transform.Kinds as call-multiply-transform-kinds
use Rattle.transform_calls.proofs.multiply_transform.Reads as call-multiply-transform-reads
use Rattle.host.proofs.transforms.ff_multiply_transform.Kinds as ff-multiply-transform-kinds
use Rattle.host.proofs.transforms.ff_multiply_transform.Reads as ff-multiply-transform-reads
use Rattle.calls.proofs.set_material.Kinds as call-set-material-kinds
use Rattle.calls.proofs.set_material.Reads as call-set-material-reads
use Rattle.host.proofs.materials.ff_set_material.Kinds as ff-set-material-kinds
use Rattle.host.proofs.materials.ff_set_material.Reads as ff-set-material-reads
use Rattle.light_calls.proofs.set_light_at.Kinds as call-set-light-kinds
use Rattle.light_calls.proofs.set_light_at.Reads as call-set-light-reads
use Rattle.host.proofs.lights.ff_set_light_at.Kinds as ff-set-light-kinds
use Rattle.host.proofs.lights.ff_set_light_at.Reads as ff-set-light-reads
use Rattle.light_calls.proofs.set_light_enabled_at.Kinds as call-enable-light-kinds
use Rattle.light_calls.proofs.set_light_enabled_at.Reads as call-enable-light-reads
use Rattle.host.proofs.lights.ff_set_light_enabled_at.Kinds as ff-enable-light-kinds
use Rattle.host.proofs.lights.ff_set_light_enabled_at.Reads as ff-enable-light-reads
use Rattle.calls.proofs.set_fog_start.Kinds as call-set-fog-start-kinds
use Rattle.calls.proofs.set_fog_start.Reads as call-set-fog-start-reads
use Rattle.calls.proofs.set_fog_end.Kinds as call-set-fog-end-kinds
use Rattle.calls.proofs.set_fog_end.Reads as call-set-fog-end-reads
use Rattle.calls.proofs.set_fog_density.Kinds as call-set-fog-density-kinds
use Rattle.calls.proofs.set_fog_density.Reads as call-set-fog-density-reads
use Rattle.calls.proofs.set_ambient.Kinds as call-set-ambient-kinds
use Rattle.calls.proofs.set_ambient.Reads as call-set-ambient-reads
use Rattle.calls.proofs.set_texture_mask.Kinds as call-set-texture-mask-kinds
use Rattle.calls.proofs.set_texture_mask.Reads as call-set-texture-mask-reads
use Rattle.host.proofs.render_states.ff_set_fog_start.Kinds as ff-set-fog-start-kinds
use Rattle.host.proofs.render_states.ff_set_fog_start.Reads as ff-set-fog-start-reads
use Rattle.host.proofs.render_states.ff_set_fog_end.Kinds as ff-set-fog-end-kinds
use Rattle.host.proofs.render_states.ff_set_fog_end.Reads as ff-set-fog-end-reads
use Rattle.host.proofs.render_states.ff_set_fog_density.Kinds as ff-set-fog-density-kinds
use Rattle.host.proofs.render_states.ff_set_fog_density.Reads as ff-set-fog-density-reads
use Rattle.host.proofs.render_states.ff_set_ambient.Kinds as ff-set-ambient-kinds
use Rattle.host.proofs.render_states.ff_set_ambient.Reads as ff-set-ambient-reads
use Rattle.host.proofs.render_states.ff_set_texture_mask.Kinds as ff-set-texture-mask-kinds
use Rattle.host.proofs.render_states.ff_set_texture_mask.Reads as ff-set-texture-mask-reads
use Rattle.calls.proofs.mark_ff_vs_dirty.Kinds as call-mark-kinds
use Rattle.calls.proofs.mark_ff_vs_dirty.Reads as call-mark-reads
use Rattle.host.proofs.bits.ff_mark_ff_vs_dirty.Kinds as ff-mark-kinds
use Rattle.host.proofs.bits.ff_mark_ff_vs_dirty.Reads as ff-mark-reads
use Rattle.refresh_calls.proofs.refresh.Kinds as call-refresh-kinds
use Rattle.refresh_calls.proofs.refresh.Reads as call-refresh-reads
use Rattle.host.proofs.mirror.ff_refresh.Kinds as ff-refresh-kinds
use Rattle.host.proofs.mirror.ff_refresh.Reads as ff-refresh-reads
use Rattle.call_laws.specs.HostOperations.{host_answer}
use Rattle.d3d9_model.specs.Operations.{set_transform, multiply_transform, set_material, set_light, enable_light, set_fog_start, set_fog_end, set_fog_density, set_ambient, set_texture_mask, mark}
use Rattle.trace.specs.Step.{ours}

-- ---- the calls over an image

pub call_set_transform_anchored : (κs : Lfts 2) (a : Dens κs call-set-transform-kinds.ps)
    → call-set-transform-reads.Asked κs a
    × ((r : Result (Unit {0}) Refusal) (e : AtExit (ended_of 2 call-set-transform-kinds.ps call-set-transform-kinds.r) κs) → call-set-transform-reads.Learnt κs a r e → answer (code r) e.0.now ≡ host_answer (set_transform a.1.0 a.1.1.0.now) a.0.now)
unfolding host_answer
call_set_transform_anchored κs a = (tt, λ r e h. h)

pub call_multiply_transform_anchored : (κs : Lfts 2) (a : Dens κs call-multiply-transform-kinds.ps)
    → call-multiply-transform-reads.Asked κs a
    × ((r : Result (Unit {0}) Refusal) (e : AtExit (ended_of 2 call-multiply-transform-kinds.ps call-multiply-transform-kinds.r) κs) → call-multiply-transform-reads.Learnt κs a r e → answer (code r) e.0.now ≡ host_answer (multiply_transform a.1.0 a.1.1.0.now) a.0.now)
unfolding host_answer
call_multiply_transform_anchored κs a = (tt, λ r e h. h)

pub call_set_material_anchored : (κs : Lfts 2) (a : Dens κs call-set-material-kinds.ps)
    → call-set-material-reads.Asked κs a
    × ((r : Result (Unit {0}) Refusal) (e : AtExit (ended_of 2 call-set-material-kinds.ps call-set-material-kinds.r) κs) → call-set-material-reads.Learnt κs a r e → answer (code r) e.0.now ≡ host_answer (set_material a.1.0.now) a.0.now)
unfolding host_answer
call_set_material_anchored κs a = (tt, λ r e h. h)

pub call_set_light_anchored : (κs : Lfts 2) (a : Dens κs call-set-light-kinds.ps)
    → call-set-light-reads.Asked κs a
    × ((r : Result (Unit {0}) Refusal) (e : AtExit (ended_of 2 call-set-light-kinds.ps call-set-light-kinds.r) κs) → call-set-light-reads.Learnt κs a r e → answer (code r) e.0.now ≡ host_answer (set_light a.1.0 a.1.1.0.now) a.0.now)
unfolding host_answer
call_set_light_anchored κs a = (tt, λ r e h. h)

pub call_enable_light_anchored : (κs : Lfts 1) (a : Dens κs call-enable-light-kinds.ps)
    → call-enable-light-reads.Asked κs a
    × ((r : Result (Unit {0}) Refusal) (e : AtExit (ended_of 1 call-enable-light-kinds.ps call-enable-light-kinds.r) κs) → call-enable-light-reads.Learnt κs a r e → answer (code r) e.0.now ≡ host_answer (enable_light a.1.0 a.1.1.0) a.0.now)
unfolding host_answer
call_enable_light_anchored κs a = (tt, λ r e h. h)

pub call_set_fog_start_anchored : (κs : Lfts 1) (a : Dens κs call-set-fog-start-kinds.ps)
    → call-set-fog-start-reads.Asked κs a
    × ((r : Result (Unit {0}) Refusal) (e : AtExit (ended_of 1 call-set-fog-start-kinds.ps call-set-fog-start-kinds.r) κs) → call-set-fog-start-reads.Learnt κs a r e → answer (code r) e.0.now ≡ host_answer (set_fog_start a.1.0) a.0.now)
unfolding host_answer
call_set_fog_start_anchored κs a = (tt, λ r e h. h)

pub call_set_fog_end_anchored : (κs : Lfts 1) (a : Dens κs call-set-fog-end-kinds.ps)
    → call-set-fog-end-reads.Asked κs a
    × ((r : Result (Unit {0}) Refusal) (e : AtExit (ended_of 1 call-set-fog-end-kinds.ps call-set-fog-end-kinds.r) κs) → call-set-fog-end-reads.Learnt κs a r e → answer (code r) e.0.now ≡ host_answer (set_fog_end a.1.0) a.0.now)
unfolding host_answer
call_set_fog_end_anchored κs a = (tt, λ r e h. h)

pub call_set_fog_density_anchored : (κs : Lfts 1) (a : Dens κs call-set-fog-density-kinds.ps)
    → call-set-fog-density-reads.Asked κs a
    × ((r : Result (Unit {0}) Refusal) (e : AtExit (ended_of 1 call-set-fog-density-kinds.ps call-set-fog-density-kinds.r) κs) → call-set-fog-density-reads.Learnt κs a r e → answer (code r) e.0.now ≡ host_answer (set_fog_density a.1.0) a.0.now)
unfolding host_answer
call_set_fog_density_anchored κs a = (tt, λ r e h. h)

pub call_set_ambient_anchored : (κs : Lfts 1) (a : Dens κs call-set-ambient-kinds.ps)
    → call-set-ambient-reads.Asked κs a
    × ((r : Result (Unit {0}) Refusal) (e : AtExit (ended_of 1 call-set-ambient-kinds.ps call-set-ambient-kinds.r) κs) → call-set-ambient-reads.Learnt κs a r e → answer (code r) e.0.now ≡ host_answer (set_ambient a.1.0) a.0.now)
unfolding host_answer
call_set_ambient_anchored κs a = (tt, λ r e h. h)

pub call_set_texture_mask_anchored : (κs : Lfts 1) (a : Dens κs call-set-texture-mask-kinds.ps)
    → call-set-texture-mask-reads.Asked κs a
    × ((r : Result (Unit {0}) Refusal) (e : AtExit (ended_of 1 call-set-texture-mask-kinds.ps call-set-texture-mask-kinds.r) κs) → call-set-texture-mask-reads.Learnt κs a r e → answer (code r) e.0.now ≡ host_answer (set_texture_mask a.1.0) a.0.now)
unfolding host_answer
call_set_texture_mask_anchored κs a = (tt, λ r e h. h)

pub call_mark_anchored : (κs : Lfts 1) (a : Dens κs call-mark-kinds.ps)
    → call-mark-reads.Asked κs a
    × ((r : Result (Unit {0}) Refusal) (e : AtExit (ended_of 1 call-mark-kinds.ps call-mark-kinds.r) κs) → call-mark-reads.Learnt κs a r e → answer (code r) e.0.now ≡ host_answer (mark a.1.0) a.0.now)
unfolding host_answer
call_mark_anchored κs a = (tt, λ r e h. h)

pub call_refresh_anchored : (κs : Lfts 2) (a : Dens κs call-refresh-kinds.ps)
    → call-refresh-reads.Asked κs a
    × ((r : Result ℕ Refusal) (e : AtExit (ended_of 2 call-refresh-kinds.ps call-refresh-kinds.r) κs) → call-refresh-reads.Learnt κs a r e
    → (out : ℕ) → answer (code r) (left e.0.now e.1.1.0.now (value_or out r)) ≡ ours.by_host a.0.now a.1.0 a.1.1.0.now out)
call_refresh_anchored κs a = (tt, λ r e h. h)

-- ---- what the C names call

pub ff_set_transform_anchored : (κs : Lfts 2) (a : Dens κs ff-set-transform-kinds.ps)
    → ff-set-transform-reads.Asked κs a
    × ((r : ℕ) (e : AtExit (ended_of 2 ff-set-transform-kinds.ps ff-set-transform-kinds.r) κs) → ff-set-transform-reads.Learnt κs a r e → answer r e.0.now ≡ host_answer (set_transform a.1.0 a.1.1.0.now) a.0.now)
unfolding host_answer
ff_set_transform_anchored κs a = (tt, λ r e h. h)

pub ff_multiply_transform_anchored : (κs : Lfts 2) (a : Dens κs ff-multiply-transform-kinds.ps)
    → ff-multiply-transform-reads.Asked κs a
    × ((r : ℕ) (e : AtExit (ended_of 2 ff-multiply-transform-kinds.ps ff-multiply-transform-kinds.r) κs) → ff-multiply-transform-reads.Learnt κs a r e → answer r e.0.now ≡ host_answer (multiply_transform a.1.0 a.1.1.0.now) a.0.now)
unfolding host_answer
ff_multiply_transform_anchored κs a = (tt, λ r e h. h)

pub ff_set_material_anchored : (κs : Lfts 2) (a : Dens κs ff-set-material-kinds.ps)
    → ff-set-material-reads.Asked κs a
    × ((r : ℕ) (e : AtExit (ended_of 2 ff-set-material-kinds.ps ff-set-material-kinds.r) κs) → ff-set-material-reads.Learnt κs a r e → answer r e.0.now ≡ host_answer (set_material a.1.0.now) a.0.now)
unfolding host_answer
ff_set_material_anchored κs a = (tt, λ r e h. h)

pub ff_set_light_anchored : (κs : Lfts 2) (a : Dens κs ff-set-light-kinds.ps)
    → ff-set-light-reads.Asked κs a
    × ((r : ℕ) (e : AtExit (ended_of 2 ff-set-light-kinds.ps ff-set-light-kinds.r) κs) → ff-set-light-reads.Learnt κs a r e → answer r e.0.now ≡ host_answer (set_light a.1.0 a.1.1.0.now) a.0.now)
unfolding host_answer
ff_set_light_anchored κs a = (tt, λ r e h. h)

pub ff_enable_light_anchored : (κs : Lfts 1) (a : Dens κs ff-enable-light-kinds.ps)
    → ff-enable-light-reads.Asked κs a
    × ((r : ℕ) (e : AtExit (ended_of 1 ff-enable-light-kinds.ps ff-enable-light-kinds.r) κs) → ff-enable-light-reads.Learnt κs a r e → answer r e.0.now ≡ host_answer (enable_light a.1.0 a.1.1.0) a.0.now)
unfolding host_answer
ff_enable_light_anchored κs a = (tt, λ r e h. h)

pub ff_set_fog_start_anchored : (κs : Lfts 1) (a : Dens κs ff-set-fog-start-kinds.ps)
    → ff-set-fog-start-reads.Asked κs a
    × ((r : ℕ) (e : AtExit (ended_of 1 ff-set-fog-start-kinds.ps ff-set-fog-start-kinds.r) κs) → ff-set-fog-start-reads.Learnt κs a r e → answer r e.0.now ≡ host_answer (set_fog_start a.1.0) a.0.now)
unfolding host_answer
ff_set_fog_start_anchored κs a = (tt, λ r e h. h)

pub ff_set_fog_end_anchored : (κs : Lfts 1) (a : Dens κs ff-set-fog-end-kinds.ps)
    → ff-set-fog-end-reads.Asked κs a
    × ((r : ℕ) (e : AtExit (ended_of 1 ff-set-fog-end-kinds.ps ff-set-fog-end-kinds.r) κs) → ff-set-fog-end-reads.Learnt κs a r e → answer r e.0.now ≡ host_answer (set_fog_end a.1.0) a.0.now)
unfolding host_answer
ff_set_fog_end_anchored κs a = (tt, λ r e h. h)

pub ff_set_fog_density_anchored : (κs : Lfts 1) (a : Dens κs ff-set-fog-density-kinds.ps)
    → ff-set-fog-density-reads.Asked κs a
    × ((r : ℕ) (e : AtExit (ended_of 1 ff-set-fog-density-kinds.ps ff-set-fog-density-kinds.r) κs) → ff-set-fog-density-reads.Learnt κs a r e → answer r e.0.now ≡ host_answer (set_fog_density a.1.0) a.0.now)
unfolding host_answer
ff_set_fog_density_anchored κs a = (tt, λ r e h. h)

pub ff_set_ambient_anchored : (κs : Lfts 1) (a : Dens κs ff-set-ambient-kinds.ps)
    → ff-set-ambient-reads.Asked κs a
    × ((r : ℕ) (e : AtExit (ended_of 1 ff-set-ambient-kinds.ps ff-set-ambient-kinds.r) κs) → ff-set-ambient-reads.Learnt κs a r e → answer r e.0.now ≡ host_answer (set_ambient a.1.0) a.0.now)
unfolding host_answer
ff_set_ambient_anchored κs a = (tt, λ r e h. h)

pub ff_set_texture_mask_anchored : (κs : Lfts 1) (a : Dens κs ff-set-texture-mask-kinds.ps)
    → ff-set-texture-mask-reads.Asked κs a
    × ((r : ℕ) (e : AtExit (ended_of 1 ff-set-texture-mask-kinds.ps ff-set-texture-mask-kinds.r) κs) → ff-set-texture-mask-reads.Learnt κs a r e → answer r e.0.now ≡ host_answer (set_texture_mask a.1.0) a.0.now)
unfolding host_answer
ff_set_texture_mask_anchored κs a = (tt, λ r e h. h)

pub ff_mark_anchored : (κs : Lfts 1) (a : Dens κs ff-mark-kinds.ps)
    → ff-mark-reads.Asked κs a
    × ((r : ℕ) (e : AtExit (ended_of 1 ff-mark-kinds.ps ff-mark-kinds.r) κs) → ff-mark-reads.Learnt κs a r e → answer r e.0.now ≡ host_answer (mark a.1.0) a.0.now)
unfolding host_answer
ff_mark_anchored κs a = (tt, λ r e h. h)

pub ff_refresh_anchored : (κs : Lfts 3) (a : Dens κs ff-refresh-kinds.ps)
    → ff-refresh-reads.Asked κs a
    × ((r : ℕ) (e : AtExit (ended_of 3 ff-refresh-kinds.ps ff-refresh-kinds.r) κs) → ff-refresh-reads.Learnt κs a r e
    → answer r (left e.0.now e.1.1.1.1.1.1.1.1.1.0.now e.1.1.1.1.1.1.1.1.1.1.0.now)
    ≡ ours.by_host a.0.now (key_of a.1.0 a.1.1.0 a.1.1.1.0 a.1.1.1.1.0 a.1.1.1.1.1.0 a.1.1.1.1.1.1.0 a.1.1.1.1.1.1.1.0 a.1.1.1.1.1.1.1.1.0) a.1.1.1.1.1.1.1.1.1.0.now a.1.1.1.1.1.1.1.1.1.1.0.now)
ff_refresh_anchored κs a = (tt, λ r e h. h)
