-- The dirty bits: the abstract state has none, so that marking and taking leave it as it was. Assumes nothing.
use Prim.Native.Nat.{ℕ, ◌≤◌}
use native.Mathlib.Omega.{arith}
use mathlib.Core.Path.{◌≡◌}
use mathlib.Core.Bool.{true, false}
use lib.Dec.{leb}
use lib.Bits.{bit_or, or_lt}
use Rattle.lemmas.proofs.Branch.{branch}
use Rattle.d3d9_model.specs.State.{AbstractState}
use Rattle.d3d9_model.specs.Operations.{mark, abstract_refusal}
use Rattle.ff_state.specs.State.{with_ff_vs_dirty, dirty_word}
use Rattle.sections.specs.Sections.{all_bits}
use Rattle.ff_state.specs.Dirty.{dirtied, mark_ff_vs_dirty, mark_number, take_ff_vs_dirty}
use Rattle.ff_state.specs.Valid.{Valid}
use Rattle.ff_state.specs.declared.state.FfState.{FfState}
use Rattle.ff_state.specs.Changed.{Changed}
use Rattle.ff_state.specs.declared.dirty.UnknownBits.{UnknownBits}
use Rattle.ff_state.proofs.Marking.{by_mark}
use Rattle.agreement.specs.Agrees.{Agrees, state_lights}

dirty_kept : {s : FfState} (d : ℕ) → d ≤ all_bits → Valid s → Valid (with_ff_vs_dirty s d)
dirty_kept d h v =
    record {
      palette_length = v.palette_length;
      texture_length = v.texture_length;
      lights_length = v.lights_length;
      overflow_length = v.overflow_length;
      high_water = v.high_water;
      states = v.states;
      texture-mask = v.texture-mask;
      dirty = h;
      slots = v.slots;
      overflow = v.overflow;
      floats = v.floats;
    }

pub dirtied_valid : {s : FfState} (bits : ℕ) → bits ≤ all_bits → Valid s → Valid (dirtied s bits)
unfolding dirtied
dirtied_valid {s} bits h v = dirty_kept (bit_or (dirty_word s) bits) (omega (arith, or_lt 8 (dirty_word s) bits (omega (arith, v.dirty)) (omega arith))) v

pub taken_valid : {s : FfState} → Valid s → Valid (take_ff_vs_dirty s).state
unfolding take_ff_vs_dirty
taken_valid v = dirty_kept 0 (omega arith) v

pub marked_valid : {s : FfState} (bits : ℕ) → Valid s → Valid (mark_ff_vs_dirty s bits).state
marked_valid {s} bits v = by_mark (λ r. Valid r.state) s bits (λ h. dirtied_valid bits h v) (λ a n. v)

bits_agree : {s : FfState} {a : AbstractState} (d : ℕ) → Agrees s a → Agrees (with_ff_vs_dirty s d) a
unfolding state_lights
bits_agree d g =
    record {
      matrices = g.matrices;
      material = g.material;
      lights = g.lights;
      highest = g.highest;
      states = g.states;
      texture-mask = g.texture-mask;
    }

pub dirtied_agrees : {s : FfState} {a : AbstractState} (bits : ℕ) → Agrees s a → Agrees (dirtied s bits) a
unfolding dirtied
dirtied_agrees {s} bits g = bits_agree (bit_or (dirty_word s) bits) g

pub taken_agrees : {s : FfState} {a : AbstractState} → Agrees s a → Agrees (take_ff_vs_dirty s).state a
unfolding take_ff_vs_dirty
taken_agrees g = bits_agree 0 g

pub marked_agrees : {s : FfState} {a : AbstractState} (bits : ℕ) → Agrees s a → Agrees (mark_ff_vs_dirty s bits).state a
marked_agrees {s} {a} bits g = by_mark (λ r. Agrees r.state a) s bits (λ h. dirtied_agrees bits g) (λ m n. g)

pub mark-number : (s : FfState) (a : AbstractState) (bits : ℕ) → mark_number (mark_ff_vs_dirty s bits).answer ≡ abstract_refusal a (mark bits)
unfolding mark_ff_vs_dirty mark_number abstract_refusal
mark-number s a bits =
    branch (λ (r : Changed UnknownBits). mark_number r.answer ≡ abstract_refusal a (mark bits)) (leb bits all_bits) _ _ (λ (t : leb bits all_bits ≡ true). rw t) (λ (t : leb bits all_bits ≡ false). rw t)
