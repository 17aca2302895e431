-- Every operation keeps a state valid and in agreement, and is refused as the abstract rule says. Assumes nothing.
use Prim.Native.Nat.{ℕ}
use mathlib.Core.Path.{◌≡◌, refl}
use mathlib.Core.Bool.{Bool, true, false, cond, not}
use lib.Dec.{eqb}
use Rattle.d3d9_model.specs.State.{AbstractState}
use Rattle.d3d9_model.specs.Operations.{Operation, set_transform, multiply_transform, set_material, set_light, enable_light, set_fog_start, set_fog_end, set_fog_density, set_ambient, set_texture_mask, mark, full, abstract_refusal, abstract_change, abstract_step}
use Rattle.ff_state.specs.Lights.{has_room}
use Rattle.ff_state.specs.Valid.{Valid}
use Rattle.ff_state.specs.declared.state.FfState.{FfState}
use Rattle.ff_state.proofs.Room.{set-answer, enable_answer}
use Rattle.agreement.specs.Agrees.{Agrees}
use Rattle.ff_state.specs.Operate.{operate, OperationFits}
use Rattle.agreement.proofs.Dirty.{marked_valid, marked_agrees, mark-number}
use Rattle.agreement.proofs.Transforms.{set-number, set_valid, set_agrees, multiply_number, multiply_valid, multiply_agrees}
use Rattle.agreement.proofs.Material.{material_valid, material_agrees}
use Rattle.agreement.proofs.States.{fog_start_valid, fog_end_valid, fog_density_valid, ambient_valid, mask_valid, fog_start_agrees, fog_end_agrees, fog_density_agrees, ambient_agrees, mask_agrees}
use Rattle.agreement.proofs.Lights.{full_is}
use Rattle.agreement.proofs.LightCalls.{set_light_valid, set_light_agrees, enable_light_valid, enable_light_agrees}

pub valid_kept : {s : FfState} → Valid s → (op : Operation) → OperationFits op → Valid (operate s op).state
unfolding operate
valid_kept v (set_transform n m) h = set_valid v n m h
valid_kept v (multiply_transform n m) h = multiply_valid v n m
valid_kept v (set_material m) h = material_valid m h v
valid_kept v (set_light i l) h = set_light_valid v i h.0 l h.1
valid_kept v (enable_light i on) h = enable_light_valid v i h on
valid_kept v (set_fog_start x) h = fog_start_valid x h v
valid_kept v (set_fog_end x) h = fog_end_valid x h v
valid_kept v (set_fog_density x) h = fog_density_valid x h v
valid_kept v (set_ambient c) h = ambient_valid c h v
valid_kept v (set_texture_mask t) h = mask_valid t h v
valid_kept v (mark bits) h = marked_valid bits v

-- an answer by the room that there is, by whether the abstract table is full
room_or_full : (n : ℕ) (t : Bool) → n ≡ cond t 0 3 → n ≡ cond (not t) 3 0
room_or_full n true h = h
room_or_full n false h = h

light-number : {s : FfState} {a : AbstractState} → Valid s → Agrees s a → (i n : ℕ) → n ≡ cond (has_room s i) 0 3 → n ≡ cond (full a i) 3 0
light-number {s} v g i n h = rw (full_is v g i) (room_or_full n (has_room s i) h)

pub refused-alike : {s : FfState} {a : AbstractState} → Valid s → Agrees s a → (op : Operation) → (operate s op).number ≡ abstract_refusal a op
unfolding operate abstract_refusal
refused-alike v g (set_transform n m) = set-number v n m
refused-alike v g (multiply_transform n m) = multiply_number v n m
refused-alike v g (set_material m) = refl
refused-alike {s} v g (set_light i l) = light-number v g i _ (set-answer s i l)
refused-alike {s} v g (enable_light i on) = light-number v g i _ (enable_answer s i on)
refused-alike v g (set_fog_start x) = refl
refused-alike v g (set_fog_end x) = refl
refused-alike v g (set_fog_density x) = refl
refused-alike v g (set_ambient c) = refl
refused-alike v g (set_texture_mask t) = refl
refused-alike {s} {a} v g (mark bits) = mark-number s a bits

either_way : (t : Bool) (a : AbstractState) → cond t a a ≡ a
either_way true a = refl
either_way false a = refl

-- marking leaves the abstract state alone, refused or not
mark_step : (a : AbstractState) (bits : ℕ) → abstract_step a (mark bits) ≡ a
unfolding abstract_step abstract_change
mark_step a bits = either_way (eqb (abstract_refusal a (mark bits)) 0) a

pub agrees_kept : {s : FfState} {a : AbstractState} → Valid s → Agrees s a → (op : Operation) → OperationFits op → Agrees (operate s op).state (abstract_step a op)
unfolding operate
agrees_kept v g (set_transform n m) h = set_agrees v n m g
agrees_kept v g (multiply_transform n m) h = multiply_agrees v g n m
agrees_kept v g (set_material m) h = material_agrees m g
agrees_kept v g (set_light i l) h = set_light_agrees v i h.0 l h.1 g
agrees_kept v g (enable_light i on) h = enable_light_agrees v i h on g
agrees_kept v g (set_fog_start x) h = fog_start_agrees x g
agrees_kept v g (set_fog_end x) h = fog_end_agrees x g
agrees_kept v g (set_fog_density x) h = fog_density_agrees x g
agrees_kept v g (set_ambient c) h = ambient_agrees c g
agrees_kept v g (set_texture_mask t) h = mask_agrees t g
agrees_kept {a = a} v g (mark bits) h = rw (mark_step a bits) (marked_agrees bits g)
