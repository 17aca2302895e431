-- A call's answer from its number: what a test of a length says, and each return.
-- Assumes nothing.
use Prim.Native.Nat.{ℕ, zero, suc}
use native.Mathlib.Omega.{arith}
use mathlib.Core.Path.{◌≡◌, refl, sym, ◌∙◌}
use mathlib.Core.Logic.{◌⊎◌, inl, inr}
use mathlib.Core.Bool.{Bool, true, false}
use mathlib.Core.List.{List}
use lib.Dec.{eqb}
use lib.ListN.{length}
use borrow.Author.Tests.{eq-eqb, ne_eqb, eqb-true}
use Rattle.std.proofs.Common.{Ok, Err}
use Rattle.calls.specs.Answer.{answer, answered, or_next, length_number}
use Rattle.calls.specs.Refusal.{length_answer}
use Rattle.calls.specs.declared.refusal.Refusal.{Refusal}
use Rattle.calls.specs.declared.refusal.Refusal.TheVariants.{WrongLength}

pub length_right : (n : ℕ) (l : List ℕ) → length l ≡ n → length_number n l ≡ 0
unfolding length_number
length_right n l e = rw (eq-eqb (length l) n e)

pub length_wrong : (n : ℕ) (l : List ℕ) → (length l ≡ n → ⊥) → length_number n l ≡ 4
unfolding length_number
length_wrong n l h = rw (ne_eqb (length l) n h)

pub length_is : (n : ℕ) (l : List ℕ) → length_number n l ≡ 0 → length l ≡ n
unfolding length_number
length_is n l e = go (eqb (length l) n) refl
  where
    go : (t : Bool) → eqb (length l) n ≡ t → length l ≡ n
    go true q = eqb-true (length l) n q
    go false q = absurd (omega (arith, rw q at e))

-- the same of what `of_length` answers
module _ (n : ℕ) (l : List ℕ) where
  pub long_refused : (e : Refusal) → Err e ≡ length_answer n l → (e ≡ WrongLength) × (length l ≡ n → ⊥)
  unfolding length_answer
  long_refused e h = go (eqb (length l) n) refl
    where
      go : (t : Bool) → eqb (length l) n ≡ t → (e ≡ WrongLength) × (length l ≡ n → ⊥)
      go true q = let told = rw q at h in absurd (cc told)
      go false q = let told = rw q at h in (cc told, λ (r : length l ≡ n). let t = sym q ∙ eq-eqb (length l) n r in absurd (cc t))

  pub long_taken : (u : Unit {0}) → Ok u ≡ length_answer n l → length l ≡ n
  unfolding length_answer
  long_taken u h = go (eqb (length l) n) refl
    where
      go : (t : Bool) → eqb (length l) n ≡ t → length l ≡ n
      go true q = eqb-true (length l) n q
      go false q = let told = rw q at h in absurd (cc told)

module _ {A : Type 0} {number : ℕ} (new out : A) where
  pub refused : {k : ℕ} → number ≡ suc k → answer (suc k) out ≡ answered number new out
  unfolding answered
  refused e = rw e

  pub accepted : {last : A} → number ≡ 0 → last ≡ new → answer 0 last ≡ answered number new out
  unfolding answered
  accepted e q = rw (e, q)

-- ---- what an answer holds

pub answered_code : {A : Type 0} (n : ℕ) (new out : A) → (answered n new out).code ≡ n
unfolding answered
answered_code zero new out = refl
answered_code (suc n) new out = refl

-- the new, or what was there
pub answered_either : {A : Type 0} (n : ℕ) (new out : A) → ((n ≡ 0) × ((answered n new out).out ≡ new)) ⊎ ((n ≡ 0 → ⊥) × ((answered n new out).out ≡ out))
unfolding answered
answered_either zero new out = inl (refl, refl)
answered_either (suc n) new out = inr ((λ (e : suc n ≡ 0). absurd (omega arith)), refl)

-- the same by the code
pub new_by_code : {A : Type 0} (n : ℕ) (new old : A) → (answered n new old).code ≡ 0 → (answered n new old).out ≡ new
unfolding answered
new_by_code zero new old e = refl
new_by_code (suc n) new old e = absurd (omega arith)

pub old_by_code : {A : Type 0} (n : ℕ) (new old : A) → ((answered n new old).code ≡ 0 → ⊥) → (answered n new old).out ≡ old
unfolding answered
old_by_code zero new old f = absurd (f refl)
old_by_code (suc n) new old f = refl

pub next_zero : (n : ℕ) → or_next n 0 ≡ n
unfolding or_next
next_zero zero = refl
next_zero (suc n) = refl

pub next_rest : (n next : ℕ) → or_next n next ≡ 0 → next ≡ 0
unfolding or_next
next_rest zero next e = e
next_rest (suc n) next e = absurd (omega arith)
