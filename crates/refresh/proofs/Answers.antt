-- The answer by its three tests, and what an acceptance and a refusal say.
-- Assumes nothing.
use Prim.Native.Nat.{ℕ}
use mathlib.Core.Path.{◌≡◌, refl, sym, ap, ◌∙◌}
use mathlib.Core.Bool.{Bool, true, false, cond}
use lib.Dec.{eqb}
use borrow.Author.Tests.{eqb-true}
use Rattle.std.specs.Prelude.{Result, Ok, Err}
use Rattle.sections.specs.declared.sections.Section.TheVariants.{Lights}
use Rattle.ff_state.specs.declared.state.FfState.{FfState}
use Rattle.sections.specs.declared.key.FfVsKey.{FfVsKey}
use Rattle.packing.specs.Inputs.{mask_accepted, inputs_of}
use Rattle.refresh.specs.Answer.{refresh_answer, refresh_number}
use Rattle.refresh.specs.declared.answer.RefreshError.{RefreshError}
use Rattle.refresh.specs.declared.answer.RefreshError.TheVariants.{WrongLength, HasRhw, WrongMask}

abbrev pub by_tests : Bool → Bool → Bool → Result Unit RefreshError
by_tests long rhw mask = cond long (cond rhw (Err HasRhw) (cond mask (Ok tt) (Err WrongMask))) (Err WrongLength)

pub by-tests : (s : FfState) (k : FfVsKey) (n : ℕ) {l h m : Bool} → eqb n 4460 ≡ l → k.has_rhw ≡ h → mask_accepted Lights k (inputs_of s) ≡ m
    → refresh_answer s k n ≡ by_tests l h m
unfolding refresh_answer
by-tests s k n {l} {h} {m} a b c =
    ap (λ (t : Bool). by_tests t k.has_rhw (mask_accepted Lights k (inputs_of s))) a
    ∙ ap (λ (t : Bool). by_tests l t (mask_accepted Lights k (inputs_of s))) b
    ∙ ap (λ (t : Bool). by_tests l h t) c

-- document 01's numbers in its order
pub number_is : (s : FfState) (k : FfVsKey) (n : ℕ)
    → refresh_number (refresh_answer s k n) ≡ cond (eqb n 4460) (cond k.has_rhw 8 (cond (mask_accepted Lights k (inputs_of s)) 0 5)) 4
unfolding refresh_number
number_is s k n = ap refresh_number (by-tests s k n refl refl refl) ∙ go (eqb n 4460) k.has_rhw (mask_accepted Lights k (inputs_of s))
  where
    go : (l h m : Bool) → refresh_number (by_tests l h m) ≡ cond l (cond h 8 (cond m 0 5)) 4
    go true true m = refl
    go true false true = refl
    go true false false = refl
    go false h m = refl

passed : (l h m : Bool) → by_tests l h m ≡ Ok tt → (l ≡ true) × (h ≡ false) × (m ≡ true)
passed true false true e = (refl, refl, refl)
passed true false false e = cc
passed true true m e = cc
passed false h m e = cc

-- an accepted refresh has the right length, no HAS_RHW and an accepted mask
pub record Fit (s : FfState) (k : FfVsKey) (n : ℕ) : Type 0 where
  pub long : n ≡ 4460
  pub no_rhw : k.has_rhw ≡ false
  pub mask : mask_accepted Lights k (inputs_of s) ≡ true

pub accepted_fits : (s : FfState) (k : FfVsKey) (n : ℕ) → refresh_answer s k n ≡ Ok tt → Fit s k n
accepted_fits s k n e =
    let p = passed (eqb n 4460) k.has_rhw (mask_accepted Lights k (inputs_of s)) (sym (by-tests s k n refl refl refl) ∙ e) in
    record { long = eqb-true n 4460 p.0; no_rhw = p.1; mask = p.2 }
