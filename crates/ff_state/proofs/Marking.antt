-- A mark is accepted and adds its bits, or is refused and leaves the state: what holds of both holds of every mark.
-- Assumes nothing.
use Prim.Native.Nat.{ℕ, ◌≤◌}
use native.Mathlib.Omega.{arith}
use mathlib.Core.Path.{◌≡◌}
use mathlib.Core.Bool.{true}
use lib.Dec.{leb}
use borrow.Author.Tests.{leb-true}
use Rattle.lemmas.proofs.Branch.{branch}
use Rattle.sections.specs.Sections.{all_bits}
use Rattle.ff_state.specs.Dirty.{dirtied, mark_ff_vs_dirty, mark_number}
use Rattle.std.specs.Prelude.{Err}
use Rattle.ff_state.specs.Changed.{Changed, accepted, refused}
use Rattle.ff_state.specs.declared.dirty.UnknownBits.{UnknownBits}
use Rattle.ff_state.specs.declared.state.FfState.{FfState}

pub by_mark : (P : Changed UnknownBits → Type 0) (s : FfState) (bits : ℕ) → (bits ≤ all_bits → P (accepted (dirtied s bits))) → ((e : UnknownBits) → (mark_number (Err e) ≡ 0 → ⊥) → P (refused s e))
    → P (mark_ff_vs_dirty s bits)
unfolding mark_ff_vs_dirty mark_number
by_mark P s bits adds leaves =
    branch P (leb bits all_bits) _ _ (λ (t : leb bits all_bits ≡ true). adds (leb-true bits all_bits t)) (λ t. leaves (record {}) (λ e. omega arith))
