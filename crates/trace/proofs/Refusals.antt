-- A refresh answers, by value and by the host, the number that document 01's rule gives for the abstract state: 4, 8, 5 in this order.
-- Assumes nothing.
use Prim.Native.Nat.{ℕ}
use native.Mathlib.Omega.{arith}
use mathlib.Core.Path.{◌≡◌, refl, ap, ◌∙◌}
use mathlib.Core.Bool.{Bool, true, false, cond}
use mathlib.Core.List.{List}
use lib.Dec.{eqb}
use lib.Ieee.{Float}
use lib.ListN.{length}
use borrow.Author.Tests.{eqb-true}
use Rattle.std.specs.Prelude.{Result, Ok, Err}
use Rattle.ff_state.specs.Valid.{Valid}
use Rattle.sections.specs.declared.sections.Section.TheVariants.{Lights}
use Rattle.ff_state.specs.declared.state.FfState.{FfState}
use Rattle.sections.specs.declared.key.FfVsKey.{FfVsKey}
use Rattle.packing.specs.Inputs.{Inputs, mask_accepted}
use Rattle.d3d9_model.specs.State.{AbstractState}
use Rattle.agreement.specs.Agrees.{Agrees}
use Rattle.packing_agreement.proofs.Agreement.{inputs_agree}
use Rattle.calls.specs.Answer.{or_next, length_number}
use Rattle.refresh.specs.Answer.{refresh_answer, refresh_number}
use Rattle.refresh.specs.Mirror.{refresh_by, refresh_mirror}
use Rattle.refresh.specs.declared.answer.RefreshError.{RefreshError}
use Rattle.refresh.specs.declared.answer.RefreshError.TheVariants.{WrongLength, HasRhw, WrongMask}
use Rattle.refresh.proofs.Answers.{number_is}
use Rattle.refresh_calls.specs.Mirror.{ff_refresh_number}
use Rattle.trace.specs.Step.{refresh_refusal}

by_answer : (a : Result Unit RefreshError) (s : FfState) (k : FfVsKey) (m : List Float) → (refresh_by a s k m).result.answer ≡ a
unfolding refresh_by
by_answer (Ok u) s k m = refl
by_answer (Err e) s k m = refl

answer_is : (s : FfState) (k : FfVsKey) (m : List Float) → (refresh_mirror s k m).result.answer ≡ refresh_answer s k (length m)
unfolding refresh_mirror
answer_is s k m = by_answer (refresh_answer s k (length m)) s k m

pub number_accepted : (a : Result Unit RefreshError) → refresh_number a ≡ 0 → a ≡ Ok tt
unfolding refresh_number
number_accepted (Ok u) e = refl
number_accepted (Err WrongLength) e = absurd (omega arith)
number_accepted (Err HasRhw) e = absurd (omega arith)
number_accepted (Err WrongMask) e = absurd (omega arith)

module _ {s : FfState} {a : AbstractState} (v : Valid s) (g : Agrees s a) (k : FfVsKey) where
  pub answer_number : (n : ℕ) → refresh_number (refresh_answer s k n) ≡ refresh_refusal a k (eqb n 4460)
  unfolding refresh_refusal
  answer_number n =
      number_is s k n
      ∙ ap (λ (i : Inputs). cond (eqb n 4460) (cond k.has_rhw 8 (cond (mask_accepted Lights k i) 0 5)) 4) (inputs_agree v g)

  pub refresh-number : (m : List Float) → refresh_number (refresh_mirror s k m).result.answer ≡ refresh_refusal a k (eqb (length m) 4460)
  refresh-number m = ap refresh_number (answer_is s k m) ∙ answer_number (length m)

  pub host_refresh_number : (bytes : List ℕ) → ff_refresh_number k bytes s ≡ refresh_refusal a k (eqb (length bytes) 17_840)
  unfolding ff_refresh_number length_number or_next refresh_refusal
  host_refresh_number bytes = go (eqb (length bytes) 17_840) refl
    where
      go : (t : Bool) → eqb (length bytes) 17_840 ≡ t → ff_refresh_number k bytes s ≡ refresh_refusal a k (eqb (length bytes) 17_840)
      go true q = rw q (answer_number 4460)
      go false q = rw q

-- a host's refresh that is accepted was lent 17,840 bytes, and is accepted by value with as many floats
pub passes : (a : AbstractState) (k : FfVsKey) (bytes : List ℕ) → refresh_refusal a k (eqb (length bytes) 17_840) ≡ 0 → (length bytes ≡ 17_840) × (refresh_refusal a k (eqb 4460 4460) ≡ 0)
unfolding refresh_refusal
passes a k bytes e = go (eqb (length bytes) 17_840) refl
  where
    go : (t : Bool) → eqb (length bytes) 17_840 ≡ t → (length bytes ≡ 17_840) × (refresh_refusal a k (eqb 4460 4460) ≡ 0)
    go true q = (eqb-true (length bytes) 17_840 q, rw q at e)
    go false q = absurd (omega (arith, rw q at e))
