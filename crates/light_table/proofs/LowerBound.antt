-- What the search for an index finds at the lower bound. Assumes nothing.
use Prim.Native.Nat.{ℕ, suc, ◌≤◌, ◌<◌}
use native.Mathlib.Nat.{min-le_right}
use native.Mathlib.Numerals.{one-add}
use native.Mathlib.Omega.{arith}
use mathlib.Core.Path.{◌≡◌, refl, ap}
use mathlib.Core.Bool.{Bool, true, cond, ◌&&◌, and-eq-true_iff, false≢true}
use mathlib.Core.List.{List, ◌∷◌}
use lib.Dec.{ltb, eqb}
use lib.ListN.{length, get_or}
use borrow.Author.Tests.{ltb-true, eqb-true}
use Rattle.std.specs.List.{prefix_len}
use Rattle.std.proofs.lemmas.List.Sums.{prefix_len-le-length}
use Rattle.std.specs.Prelude.{Result, is_ok}
use Rattle.light_table.specs.Entry.{zero_entry}
use Rattle.light_table.specs.Overflow.{used_count, lower_bound, find_entry, place}
use Rattle.lemmas.proofs.Branch.{branch}
use Rattle.light_table.specs.declared.entry.OverflowLight.{OverflowLight}

-- one entry more in front
pub bound_cons : (e : OverflowLight) (es : List OverflowLight) (i : ℕ) → lower_bound (e ∷ es) i ≡ cond (ltb e.index i) (suc (lower_bound es i)) 0
unfolding lower_bound
bound_cons e es i = ap (λ (n : ℕ). cond (ltb e.index i) n 0) (one-add (prefix_len (λ (x : OverflowLight). ltb x.index i) es))

pub used_most : (n m : ℕ) → n ≡ used_count m → n ≤ 56
unfolding used_count
used_most n m e = omega (arith, min-le_right m 56)

pub bound_most : (es : List OverflowLight) (i : ℕ) → lower_bound es i ≤ length es
unfolding lower_bound
bound_most es i = prefix_len-le-length (λ (e : OverflowLight). ltb e.index i) es

-- what is found stored stands among the entries, and has the index
module _ (es : List OverflowLight) (i : ℕ) where
  abbrev there : Bool
  there = ltb (lower_bound es i) (length es) && eqb (get_or es (lower_bound es i) zero_entry).index i

  -- stored or not, it is at the lower bound
  pub place_is : place (find_entry es i) ≡ lower_bound es i
  unfolding find_entry
  place_is = branch {A = Result ℕ ℕ} (λ f. place f ≡ lower_bound es i) there _ _ (λ t. refl) (λ t. refl)

  is_there : is_ok (find_entry es i) ≡ true → there ≡ true
  unfolding find_entry
  is_there = branch {A = Result ℕ ℕ} (λ f. is_ok f ≡ true → there ≡ true) there _ _ (λ t h. t) (λ t h. absurd (false≢true h))

  module _ (h : is_ok (find_entry es i) ≡ true) where
    pub stored_below : place (find_entry es i) < length es
    stored_below = rw place_is (ltb-true (lower_bound es i) (length es) ((and-eq-true_iff (ltb (lower_bound es i) (length es)) (eqb (get_or es (lower_bound es i) zero_entry).index i)).0 (is_there h)).0)

    pub stored_index : (get_or es (place (find_entry es i)) zero_entry).index ≡ i
    stored_index = rw place_is (eqb-true (get_or es (lower_bound es i) zero_entry).index i ((and-eq-true_iff (ltb (lower_bound es i) (length es)) (eqb (get_or es (lower_bound es i) zero_entry).index i)).0 (is_there h)).1)
