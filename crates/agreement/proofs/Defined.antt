-- The lights of defined slots, by ascending index: looking one up, and changing one. Assumes nothing.
use Prim.Native.Nat.{ℕ, zero, suc, ◌+◌, ◌≤◌, ◌<◌}
use native.Mathlib.Omega.{arith}
use mathlib.Core.Path.{◌≡◌, refl, sym, ap, subst, ◌∙◌}
use mathlib.Core.Bool.{Bool, true, false, cond}
use mathlib.Core.Option.{none, some}
use mathlib.Core.List.{List, ◌∷◌, ◌++◌}
use lib.Dec.{eqb}
use borrow.Author.Tests.{lt-ltb, le-ltb, eq-eqb, ne_eqb, eqb-true, eqb-false}
use Rattle.lemmas.proofs.Branch.{branch}
use Rattle.d3d9_model.specs.State.{AbstractLight}
use Rattle.d3d9_model.specs.Lights.{lookup, changed_at}
use Rattle.agreement.specs.Agrees.{defined_from}
use Rattle.agreement.proofs.Indices.{Above, Below, above_append, lookup_above, changed_above}

module _ (d : ℕ → Bool) (g : ℕ → AbstractLight) (own : (k : ℕ) → (g k).index ≡ k) where
  pub defined_above : (j i n : ℕ) → j < i → Above j (defined_from d g i n)
  unfolding defined_from
  defined_above j i zero h = tt
  defined_above j i (suc n) h =
      let rest = defined_above j (suc i) n (omega arith) in
      branch (Above j) (d i) _ _ (λ t. (omega (arith, own i), rest)) (λ t. rest)

  pub defined_below : (j i n : ℕ) → i + n ≤ j → Below j (defined_from d g i n)
  unfolding defined_from
  defined_below j i zero h = tt
  defined_below j i (suc n) h =
      let rest = defined_below j (suc i) n (omega arith) in
      branch (Below j) (d i) _ _ (λ t. (omega (arith, own i), rest)) (λ t. rest)

  module _ (ys : List AbstractLight) where
    lookup_here : (i n : ℕ) → Above i ys → lookup i (defined_from d g i (suc n) ++ ys) ≡ cond (d i) (some (g i)) none
    unfolding defined_from lookup
    lookup_here i n h =
        let rest : List AbstractLight = defined_from d g (suc i) n in
        branch (λ (xs : List AbstractLight). lookup i (xs ++ ys) ≡ cond (d i) (some (g i)) none) (d i) (g i ∷ rest) rest
        (λ (t : d i ≡ true). rw (t, eq-eqb (g i).index i (own i)))
        (λ (t : d i ≡ false). rw t (lookup_above i (rest ++ ys) (above_append i rest ys (defined_above i (suc i) n (omega arith)) h)))

    lookup_later : (j i n : ℕ) → i < j → lookup j (defined_from d g i (suc n) ++ ys) ≡ lookup j (defined_from d g (suc i) n ++ ys)
    unfolding defined_from lookup
    lookup_later j i n h =
        let rest : List AbstractLight = defined_from d g (suc i) n in
        branch (λ (xs : List AbstractLight). lookup j (xs ++ ys) ≡ lookup j (rest ++ ys)) (d i) (g i ∷ rest) rest
        (λ (t : d i ≡ true). rw (ne_eqb (g i).index j (λ e. omega (arith, own i))))
        (λ (t : d i ≡ false). refl)

    pub lookup_defined : (j i n : ℕ) → i ≤ j → j < i + n → Above j ys → lookup j (defined_from d g i n ++ ys) ≡ cond (d j) (some (g j)) none
    lookup_defined j i zero l h a = absurd (omega arith)
    lookup_defined j i (suc n) l h a = go (eqb i j) refl (lookup_defined j (suc i) n)
      where
        go : (t : Bool) → eqb i j ≡ t → (suc i ≤ j → j < suc i + n → Above j ys → lookup j (defined_from d g (suc i) n ++ ys) ≡ cond (d j) (some (g j)) none)
            → lookup j (defined_from d g i (suc n) ++ ys) ≡ cond (d j) (some (g j)) none
        go true e ih =
            subst (λ (k : ℕ). lookup j (defined_from d g k (suc n) ++ ys) ≡ cond (d j) (some (g j)) none) (sym (eqb-true i j e)) (lookup_here j n a)
        go false e ih =
            let less : i < j = omega (arith, eqb-false i j e) in
            lookup_later j i n less ∙ ih less (omega arith) a

-- one slot, defined now, whose light was changed if it was defined and is new if not
module _ (d d' : ℕ → Bool) (g g' : ℕ → AbstractLight) (own : (k : ℕ) → (g k).index ≡ k) (j : ℕ) (change : AbstractLight → AbstractLight) (new : AbstractLight)
    (same-d : (k : ℕ) → (k ≡ j → ⊥) → d' k ≡ d k) (same-g : (k : ℕ) → (k ≡ j → ⊥) → g' k ≡ g k) (now : d' j ≡ true) (is : g' j ≡ cond (d j) (change (g j)) new) where
  same_from : (i n : ℕ) → j < i → defined_from d' g' i n ≡ defined_from d g i n
  unfolding defined_from
  same_from i zero h = refl
  same_from i (suc n) h = rw (same-d i (λ e. omega arith), same-g i (λ e. omega arith), same_from (suc i) n (omega arith))

  module _ (ys : List AbstractLight) (a : Above j ys) where
    changed_here : (n : ℕ) → changed_at j change new (defined_from d g j (suc n) ++ ys) ≡ defined_from d' g' j (suc n) ++ ys
    unfolding defined_from changed_at
    changed_here n = rw (now, is, same_from (suc j) n (omega arith)) (go (d j) refl)
      where
        rest : List AbstractLight
        rest = defined_from d g (suc j) n

        go : (t : Bool) → d j ≡ t → changed_at j change new (cond (d j) (g j ∷ rest) rest ++ ys) ≡ cond (d j) (change (g j)) new ∷ rest ++ ys
        go true e = rw (e, le-ltb (g j).index j (omega (arith, own j)), eq-eqb (g j).index j (own j))
        go false e = rw e (changed_above j change new (rest ++ ys) (above_append j rest ys (defined_above d g own j (suc j) n (omega arith)) a))

    changed_later : (i n : ℕ) → i < j → changed_at j change new (defined_from d g (suc i) n ++ ys) ≡ defined_from d' g' (suc i) n ++ ys
        → changed_at j change new (defined_from d g i (suc n) ++ ys) ≡ defined_from d' g' i (suc n) ++ ys
    unfolding defined_from changed_at
    changed_later i n h ih = rw (same-d i (λ e. omega arith), same-g i (λ e. omega arith)) (go (d i) refl)
      where
        go : (t : Bool) → d i ≡ t → changed_at j change new (cond (d i) (g i ∷ defined_from d g (suc i) n) (defined_from d g (suc i) n) ++ ys)
            ≡ cond (d i) (g i ∷ defined_from d' g' (suc i) n) (defined_from d' g' (suc i) n) ++ ys
        go true e = rw (e, lt-ltb (g i).index j (omega (arith, own i))) (ap (λ (l : List AbstractLight). g i ∷ l) ih)
        go false e = rw e ih

    pub changed_defined : (i n : ℕ) → i ≤ j → j < i + n → changed_at j change new (defined_from d g i n ++ ys) ≡ defined_from d' g' i n ++ ys
    changed_defined i zero l h = absurd (omega arith)
    changed_defined i (suc n) l h = go (eqb i j) refl (changed_defined (suc i) n)
      where
        go : (t : Bool) → eqb i j ≡ t → (suc i ≤ j → j < suc i + n → changed_at j change new (defined_from d g (suc i) n ++ ys) ≡ defined_from d' g' (suc i) n ++ ys)
            → changed_at j change new (defined_from d g i (suc n) ++ ys) ≡ defined_from d' g' i (suc n) ++ ys
        go true e ih =
            subst (λ (k : ℕ). changed_at j change new (defined_from d g k (suc n) ++ ys) ≡ defined_from d' g' k (suc n) ++ ys) (sym (eqb-true i j e)) (changed_here n)
        go false e ih =
            let less : i < j = omega (arith, eqb-false i j e) in
            changed_later i n less (ih less (omega arith))
