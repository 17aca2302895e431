-- The dirty bits. Document 01, 'Calls that change the state': "Mark refuses 7 for a u32 above 63. Take never refuses." Document 02, T-05: "mark refuses above 255".
use Rattle.std.specs.Prelude.{ℕ, cond, Result, Ok, Err, leb, List, codes}
use Rattle.std.specs.Int.Bits.{bit_or}
use Rattle.sections.specs.Sections.{all_bits}
use Rattle.ff_state.specs.State.{with_ff_vs_dirty, dirty_word}
use Rattle.ff_state.specs.declared.state.FfState.{FfState}
use Rattle.ff_state.specs.Changed.{Changed, accepted, refused}
use Rattle.ff_state.specs.declared.dirty.UnknownBits.{UnknownBits}
use Rattle.ff_state.specs.declared.dirty.Taken.{Taken}

-- the state with more bits dirty
unfoldable pub dirtied : FfState → ℕ → FfState
dirtied s bits = with_ff_vs_dirty s (bit_or (dirty_word s) bits)

unfoldable pub mark_ff_vs_dirty : FfState → ℕ → Changed UnknownBits
mark_ff_vs_dirty s bits =
    cond (leb bits all_bits) (accepted (dirtied s bits)) (refused s (record {}))

-- the bits that a take answers, and the state that it leaves
abbrev pub taken : ℕ → FfState → Taken
taken bits s = record { bits = bits; state = s }

unfoldable pub take_ff_vs_dirty : FfState → Taken
take_ff_vs_dirty s = taken (dirty_word s) (with_ff_vs_dirty s 0)

-- document 01's number of each answer
unfoldable pub mark_number : Result (Unit {0}) UnknownBits → ℕ
mark_number (Ok _) = 0
mark_number (Err _) = 7

-- what is written of the error
abbrev pub unknown_bits_text : List ℕ
unknown_bits_text = codes "a dirty bit that is no section's"
