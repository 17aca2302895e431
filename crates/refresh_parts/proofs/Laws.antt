-- What a caller in C may rely on: a refused refresh leaves state, mirror and number as they were, and an accepted one tells the bits that it cleared. Each answer by itself; so the lent number cannot be
-- bent in code and definition alike. Assumes nothing.
use Prim.Native.Nat.{ℕ, suc}
use native.Mathlib.Omega.{arith}
use mathlib.Core.Path.{◌≡◌, refl, sym, ap, ◌∙◌}
use mathlib.Core.Bool.{false}
use lib.Dec.{eqb}
use mathlib.Core.List.{List}
use lib.Ieee.{Float}
use lib.ListN.{length}
use Rattle.std.specs.Prelude.{Result, Ok, Err}
use Rattle.ff_state.specs.State.{dirty_word}
use Rattle.ff_state.specs.Dirty.{take_ff_vs_dirty}
use Rattle.ff_state.specs.declared.state.FfState.{FfState}
use Rattle.sections.specs.declared.key.FfVsKey.{FfVsKey}
use Rattle.refresh.specs.Answer.{refresh_answer, refresh_number}
use Rattle.sections.specs.Sections.{sections}
use Rattle.refresh.specs.Written.{written}
use Rattle.refresh.specs.Mirror.{refresh_by, refresh_mirror}
use Rattle.refresh.specs.declared.answer.RefreshError.{RefreshError}
use Rattle.refresh.specs.declared.answer.RefreshError.TheVariants.{WrongLength, HasRhw, WrongMask}
use Rattle.refresh_parts.specs.Mirror.{LentRefreshed, left, told, lent_refresh}

module _ (s : FfState) (k : FfVsKey) (m : List Float) (out : ℕ) where
  -- by the answer
  abbrev by : Result Unit RefreshError → LentRefreshed
  by a = left (refresh_number (refresh_by a s k m).result.answer) (refresh_by a s k m).result.state (refresh_by a s k m).floats (told (refresh_by a s k m).result.answer (refresh_by a s k m).result.bits out)

  refused_by : (a : Result Unit RefreshError) (n : ℕ) → (by a).number ≡ suc n → by a ≡ left (suc n) s m out
  unfolding refresh_by refresh_number told
  refused_by (Ok u) n h = absurd (omega (arith, h))
  refused_by (Err WrongLength) n h = ap (λ (x : ℕ). left x s m out) h
  refused_by (Err HasRhw) n h = ap (λ (x : ℕ). left x s m out) h
  refused_by (Err WrongMask) n h = ap (λ (x : ℕ). left x s m out) h

  accepted_by : (a : Result Unit RefreshError) → (by a).number ≡ 0 → ((by a).bits ≡ dirty_word s) × (dirty_word (by a).state ≡ 0)
  unfolding refresh_by refresh_number told take_ff_vs_dirty
  accepted_by (Ok u) h = (refl, refl)
  accepted_by (Err WrongLength) h = absurd (omega (arith, h))
  accepted_by (Err HasRhw) h = absurd (omega (arith, h))
  accepted_by (Err WrongMask) h = absurd (omega (arith, h))

  -- "A refused call writes nothing"
  pub refused-left : (n : ℕ) → (lent_refresh s k m out).number ≡ suc n → lent_refresh s k m out ≡ left (suc n) s m out
  unfolding lent_refresh refresh_mirror
  refused-left = refused_by (refresh_answer s k (length m))

  -- "takes the dirty bits, clears them … The answer is the bits taken."
  pub accepted_told : (lent_refresh s k m out).number ≡ 0 → ((lent_refresh s k m out).bits ≡ dirty_word s) × (dirty_word (lent_refresh s k m out).state ≡ 0)
  unfolding lent_refresh refresh_mirror
  accepted_told = accepted_by (refresh_answer s k (length m))

  by_zero : (a : Result Unit RefreshError) (r : ℕ) → r ≡ refresh_number a → eqb r 0 ≡ false → left r s m out ≡ by a
  unfolding refresh_by refresh_number told
  by_zero (Ok u) r e other = absurd (cc (sym (ap (λ (x : ℕ). eqb x 0) e) ∙ other))
  by_zero (Err WrongLength) r e other = ap (λ (x : ℕ). left x s m out) e
  by_zero (Err HasRhw) r e other = ap (λ (x : ℕ). left x s m out) e
  by_zero (Err WrongMask) r e other = ap (λ (x : ℕ). left x s m out) e

  by_accepted : (a : Result Unit RefreshError) → refresh_number a ≡ 0
      → left 0 (take_ff_vs_dirty s).state (written sections (take_ff_vs_dirty s).bits s k m) (take_ff_vs_dirty s).bits ≡ by a
  unfolding refresh_by refresh_number told
  by_accepted (Ok u) e = refl
  by_accepted (Err WrongLength) e = absurd (omega (arith, e))
  by_accepted (Err HasRhw) e = absurd (omega (arith, e))
  by_accepted (Err WrongMask) e = absurd (omega (arith, e))

-- a number other than 0 leaves all as it was
pub refused_is : (s : FfState) (k : FfVsKey) (m : List Float) (out r : ℕ) → r ≡ refresh_number (refresh_answer s k (length m)) → eqb r 0 ≡ false
    → left r s m out ≡ lent_refresh s k m out
unfolding lent_refresh refresh_mirror
refused_is s k m out r e other = by_zero s k m out (refresh_answer s k (length m)) r e other

-- 0 leaves the state without its bits, the dirty sections written, and the bits told
pub accepted_is : (s : FfState) (k : FfVsKey) (m : List Float) (out : ℕ) → refresh_number (refresh_answer s k (length m)) ≡ 0
    → left 0 (take_ff_vs_dirty s).state (written sections (take_ff_vs_dirty s).bits s k m) (take_ff_vs_dirty s).bits ≡ lent_refresh s k m out
unfolding lent_refresh refresh_mirror
accepted_is s k m out e = by_accepted s k m out (refresh_answer s k (length m)) e
