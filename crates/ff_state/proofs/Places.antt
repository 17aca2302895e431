-- Every place that a number names is in range: by cases on the tests of `slot_of`.
use Rattle.std.proofs.Common.{◌≡◌, ℕ, Option, Some, None, true, arith, subst}
use lib.Dec.{ltb, eqb}
use borrow.Author.Tests.{ltb-true}
use Rattle.lemmas.proofs.Branch.{branch}
use Rattle.ff_state.specs.Transforms.{slot_of, InRange}
use Rattle.ff_state.specs.declared.transforms.Place.{Place}

abbrev NamedInRange : Option Place → Type 0
NamedInRange (Some p) = InRange p
NamedInRange None = Unit {0}

named : (n : ℕ) → NamedInRange (slot_of n)
unfolding slot_of
named n =
    branch NamedInRange (eqb n 2) _ _ (λ e. tt)
    (λ e.
    branch NamedInRange (eqb n 3) _ _ (λ e. tt)
    (λ e.
    branch NamedInRange (ltb n 16) _ _ (λ e. tt)
    (λ e.
    branch NamedInRange (ltb n 24) _ _ (λ (t : ltb n 24 ≡ true). let l = ltb-true n 24 t in omega arith)
    (λ e.
    branch NamedInRange (ltb n 256) _ _ (λ e. tt)
    (λ e.
    branch NamedInRange (ltb n 512) _ _ (λ (t : ltb n 512 ≡ true). let l = ltb-true n 512 t in omega arith) (λ e. tt))))))

pub in-range : (n : ℕ) (p : Place) → slot_of n ≡ Some p → InRange p
in-range n p e = subst NamedInRange e (named n)
