-- What a caller learns from the contract of each function of a list is the definition that a step uses, and no function asks anything of its caller; so a contract that says less, or that asks what nobody can meet, does not pass here.
-- Assumes nothing.
use Prim.Native.Nat.{ℕ}
use mathlib.Core.Path.{◌≡◌, sym, ap, ◌∙◌}
use mathlib.Core.Bool.{Bool}
use mathlib.Core.List.{List}
use lib.Ieee.{Float}
use lib.ListN.{length}
use borrow.Author.Tests.{eq-eqb}
use Rattle.std.specs.Prelude.{Result, Ok}
use borrow.Fn.Kinds.{Dens, ended_of}
use contract.Lifetimes.{Lfts}
use denote.Triple.Clauses.{AtExit}
use Rattle.d3d9_types.specs.declared.matrix.D3DMATRIX.{D3DMATRIX}
use Rattle.d3d9_types.specs.declared.material.D3DMATERIAL9.{D3DMATERIAL9}
use Rattle.d3d9_types.specs.declared.light.D3DLIGHT9.{D3DLIGHT9}
use Rattle.ff_state.specs.Dirty.{mark_number}
use Rattle.ff_state.specs.Lights.{light_number}
use Rattle.ff_state.specs.Transforms.{transform_number}
use Rattle.ff_state.specs.Changed.{Changed, changed}
use Rattle.ff_state.specs.declared.dirty.UnknownBits.{UnknownBits}
use Rattle.ff_state.specs.declared.lights.TableFull.{TableFull}
use Rattle.ff_state.specs.declared.state.FfState.{FfState}
use Rattle.ff_state.specs.declared.transforms.UnknownState.{UnknownState}
use Rattle.ff_state.proofs.state.FfState.new.Reads as new-reads
use Rattle.ff_state.proofs.state.FfState.set_transform.Reads as set-transform-reads
use Rattle.ff_state.proofs.state.FfState.multiply_transform.Reads as multiply-transform-reads
use Rattle.ff_state.proofs.state.FfState.set_material.Reads as set-material-reads
use Rattle.ff_state.proofs.state.FfState.set_fog_start.Reads as set-fog-start-reads
use Rattle.ff_state.proofs.state.FfState.set_fog_end.Reads as set-fog-end-reads
use Rattle.ff_state.proofs.state.FfState.set_fog_density.Reads as set-fog-density-reads
use Rattle.ff_state.proofs.state.FfState.set_ambient.Reads as set-ambient-reads
use Rattle.ff_state.proofs.state.FfState.set_texture_mask.Reads as set-texture-mask-reads
use Rattle.ff_state.proofs.state.FfState.mark_ff_vs_dirty.Reads as mark-reads
use Rattle.ff_lights.proofs.set_light_at.Reads as set-light-reads
use Rattle.ff_lights.proofs.set_light_enabled_at.Reads as enable-light-reads
use Rattle.image_reasons.specs.Length.{image_length}
use Rattle.image.specs.Read.{ImageRead, read_outcome, read_image}
use Rattle.image.specs.Write.{write_outcome, write_image}
use Rattle.image.specs.declared.read.NotAnImage.{NotAnImage}
use Rattle.image.specs.declared.write.WrongLength.{WrongLength}
use Rattle.image.proofs.read_image.Kinds as read-image-kinds
use Rattle.image.proofs.read_image.Reads as read-image-reads
use Rattle.image.proofs.write_image.Kinds as write-image-kinds
use Rattle.image.proofs.write_image.Reads as write-image-reads
use Rattle.d3d9_model.specs.Operations.{set_transform, multiply_transform, set_material, set_light, enable_light, set_fog_start, set_fog_end, set_fog_density, set_ambient, set_texture_mask, mark}
use Rattle.ff_state.specs.Operate.{Operated, operate}
use Rattle.refresh.specs.Mirror.{refreshed, result_of}
use Rattle.ff_state.specs.declared.dirty.Taken.{Taken}
use Rattle.refresh.specs.declared.answer.RefreshError.{RefreshError}
use Rattle.refresh.proofs.refresh.Kinds as refresh-kinds
use Rattle.refresh.proofs.refresh.Reads as refresh-reads
use Rattle.trace.specs.World.{value, in_image, as_state, as_image, start}
use Rattle.trace.specs.Step.{ours}

abbrev operated : ℕ → FfState → Operated
operated n s = record { number = n; state = s }

-- the state that a list starts from
pub new_anchored : new-reads.Asked tt tt × ((m : List Float) (r : FfState) → new-reads.Learnt tt tt r tt → (start m).stored ≡ value r)
unfolding start
new_anchored = (tt, λ m r h. ap value (sym h))

-- ---- the calls that change a state

pub set_transform_anchored : (s : FfState) (n : ℕ) (m : D3DMATRIX) → set-transform-reads.Asked tt (s, (n, (m, tt))) × ((r : Result FfState UnknownState) → set-transform-reads.Learnt tt (s, (n, (m, tt))) r (s, (n, (m, tt))) → operated (transform_number (changed s r).answer) (changed s r).state ≡ operate s (set_transform n m))
unfolding operate
set_transform_anchored s n m = (tt, λ r h. ap (λ (c : Changed UnknownState). operated (transform_number c.answer) c.state) h)

pub multiply_transform_anchored : (s : FfState) (n : ℕ) (m : D3DMATRIX) → multiply-transform-reads.Asked tt (s, (n, (m, tt))) × ((r : Result FfState UnknownState) → multiply-transform-reads.Learnt tt (s, (n, (m, tt))) r (s, (n, (m, tt))) → operated (transform_number (changed s r).answer) (changed s r).state ≡ operate s (multiply_transform n m))
unfolding operate
multiply_transform_anchored s n m = (tt, λ r h. ap (λ (c : Changed UnknownState). operated (transform_number c.answer) c.state) h)

pub set_material_anchored : (s : FfState) (m : D3DMATERIAL9) → set-material-reads.Asked tt (s, (m, tt)) × ((r : FfState) → set-material-reads.Learnt tt (s, (m, tt)) r (s, (m, tt)) → operated 0 r ≡ operate s (set_material m))
unfolding operate
set_material_anchored s m = (tt, λ r h. ap (operated 0) h)

pub set_light_anchored : (s : FfState) (i : ℕ) (l : D3DLIGHT9) → set-light-reads.Asked tt (s, (i, (l, tt))) × ((r : Result FfState TableFull) → set-light-reads.Learnt tt (s, (i, (l, tt))) r (s, (i, (l, tt))) → operated (light_number (changed s r).answer) (changed s r).state ≡ operate s (set_light i l))
unfolding operate
set_light_anchored s i l = (tt, λ r h. ap (λ (c : Changed TableFull). operated (light_number c.answer) c.state) h)

pub enable_light_anchored : (s : FfState) (i : ℕ) (on : Bool) → enable-light-reads.Asked tt (s, (i, (on, tt))) × ((r : Result FfState TableFull) → enable-light-reads.Learnt tt (s, (i, (on, tt))) r (s, (i, (on, tt))) → operated (light_number (changed s r).answer) (changed s r).state ≡ operate s (enable_light i on))
unfolding operate
enable_light_anchored s i on = (tt, λ r h. ap (λ (c : Changed TableFull). operated (light_number c.answer) c.state) h)

pub set_fog_start_anchored : (s : FfState) (x : Float) → set-fog-start-reads.Asked tt (s, (x, tt)) × ((r : FfState) → set-fog-start-reads.Learnt tt (s, (x, tt)) r (s, (x, tt)) → operated 0 r ≡ operate s (set_fog_start x))
unfolding operate
set_fog_start_anchored s x = (tt, λ r h. ap (operated 0) h)

pub set_fog_end_anchored : (s : FfState) (x : Float) → set-fog-end-reads.Asked tt (s, (x, tt)) × ((r : FfState) → set-fog-end-reads.Learnt tt (s, (x, tt)) r (s, (x, tt)) → operated 0 r ≡ operate s (set_fog_end x))
unfolding operate
set_fog_end_anchored s x = (tt, λ r h. ap (operated 0) h)

pub set_fog_density_anchored : (s : FfState) (x : Float) → set-fog-density-reads.Asked tt (s, (x, tt)) × ((r : FfState) → set-fog-density-reads.Learnt tt (s, (x, tt)) r (s, (x, tt)) → operated 0 r ≡ operate s (set_fog_density x))
unfolding operate
set_fog_density_anchored s x = (tt, λ r h. ap (operated 0) h)

pub set_ambient_anchored : (s : FfState) (x : ℕ) → set-ambient-reads.Asked tt (s, (x, tt)) × ((r : FfState) → set-ambient-reads.Learnt tt (s, (x, tt)) r (s, (x, tt)) → operated 0 r ≡ operate s (set_ambient x))
unfolding operate
set_ambient_anchored s x = (tt, λ r h. ap (operated 0) h)

pub set_texture_mask_anchored : (s : FfState) (x : ℕ) → set-texture-mask-reads.Asked tt (s, (x, tt)) × ((r : FfState) → set-texture-mask-reads.Learnt tt (s, (x, tt)) r (s, (x, tt)) → operated 0 r ≡ operate s (set_texture_mask x))
unfolding operate
set_texture_mask_anchored s x = (tt, λ r h. ap (operated 0) h)

pub mark_anchored : (s : FfState) (bits : ℕ) → mark-reads.Asked tt (s, (bits, tt)) × ((r : Result FfState UnknownBits) → mark-reads.Learnt tt (s, (bits, tt)) r (s, (bits, tt)) → operated (mark_number (changed s r).answer) (changed s r).state ≡ operate s (mark bits))
unfolding operate
mark_anchored s bits = (tt, λ r h. ap (λ (c : Changed UnknownBits). operated (mark_number c.answer) c.state) h)

-- ---- images and the refresh

-- an image that is read in, and one that stands for the state
pub read_image_anchored : (κs : Lfts 1) (a : Dens κs read-image-kinds.ps)
    → read-image-reads.Asked κs a
    × ((r : Result FfState NotAnImage) (e : AtExit (ended_of 1 read-image-kinds.ps read-image-kinds.r) κs) → read-image-reads.Learnt κs a r e
    → (s : FfState) → (read_outcome s r ≡ read_image s a.0.now) × ((read_outcome s r).state ≡ as_state (in_image s a.0.now)))
unfolding as_state
read_image_anchored κs a = (tt, λ r e h s. (h s, ap (λ (x : ImageRead). x.state) (h s)))

-- "just written from it"
pub write_image_anchored : (κs : Lfts 1) (a : Dens κs write-image-kinds.ps)
    → write-image-reads.Asked κs a
    × ((r : Result Unit WrongLength) (e : AtExit (ended_of 1 write-image-kinds.ps write-image-kinds.r) κs) → write-image-reads.Learnt κs a r e
    → length a.1.0.now ≡ image_length → write_outcome r e.1.0.now ≡ write_outcome (Ok tt) (as_image (value a.0)))
unfolding write_image as_image
write_image_anchored κs a = (tt, λ r e h long. h ∙ rw (eq-eqb (length a.1.0.now) image_length long))

-- the answer, the state, and what the slice that it was lent holds when it returns
pub refresh_anchored : (κs : Lfts 1) (a : Dens κs refresh-kinds.ps)
    → refresh-reads.Asked κs a
    × ((r : Result Taken RefreshError) (e : AtExit (ended_of 1 refresh-kinds.ps refresh-kinds.r) κs) → refresh-reads.Learnt κs a r e
    → refreshed (result_of a.0 r) e.1.1.0.now ≡ ours.by_value a.0 a.1.0 a.1.1.0.now)
refresh_anchored κs a = (tt, λ r e h. h)
