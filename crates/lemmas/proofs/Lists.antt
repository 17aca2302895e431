-- Laws of lists that several crates cite: an element read with another default, stored, or put in. Assumes nothing.
use Prim.Native.Nat.{ℕ, zero, suc, ◌+◌, ◌≤◌, ◌<◌}
use native.Mathlib.Nat.{le_of_suc-le-suc, not-suc-le-zero}
use native.Mathlib.Omega.{arith}
use mathlib.Core.Path.{◌≡◌, refl, sym, ap, subst, ◌∙◌}
use mathlib.Core.Bool.{true, false, cond}
use mathlib.Core.List.{List, [], ◌∷◌, ◌++◌}
use lib.Dec.{eqb}
use lib.ListN.{length, get_or, set, take, drop, replicate}
use lib.Seq.{get_or-set_same, get_or-set_other, get_or-take}
use borrow.Author.Tests.{eqb-true, eqb-false}
use Rattle.lemmas.proofs.Branch.{branch}

-- within a list the default does not matter
pub get_d_default {ℓ} : {A : Type ℓ} (l : List A) (i : ℕ) (d e : A) → i < length l → get_or l i d ≡ get_or l i e
get_d_default [] i d e h = absurd (not-suc-le-zero h)
get_d_default (x ∷ l) zero d e h = refl
get_d_default (x ∷ l) (suc i) d e h = get_d_default l i d e (le_of_suc-le-suc h)

pub take-replicate {ℓ} : {A : Type ℓ} (m n : ℕ) (a : A) → m ≤ n → take m (replicate n a) ≡ replicate m a
take-replicate zero n a h = refl
take-replicate (suc m) zero a h = absurd (not-suc-le-zero h)
take-replicate {A = A} (suc m) (suc n) a h = ap (λ (l : List A). a ∷ l) (take-replicate m n a (le_of_suc-le-suc h))

module _ {A : Type 0} (l : List A) (i : ℕ) (a d : A) (h : i < length l) where
  pub get_d_set : (j : ℕ) → get_or (set l i a) j d ≡ cond (eqb i j) a (get_or l j d)
  get_d_set j =
      branch (λ (x : A). get_or (set l i a) j d ≡ x) (eqb i j) a (get_or l j d)
      (λ (e : eqb i j ≡ true). ap (λ (n : ℕ). get_or (set l i a) n d) (sym (eqb-true i j e)) ∙ get_or-set_same l i a d h)
      (λ (e : eqb i j ≡ false). get_or-set_other l i j a d (λ q. eqb-false i j e (sym q)))

  -- what holds of the new element and of an old one holds of the one that stands there
  pub set_has : (P : A → Type 0) → P a → (j : ℕ) → P (get_or l j d) → P (get_or (set l i a) j d)
  set_has P p j q = subst P (sym (get_d_set j)) (branch P (eqb i j) a (get_or l j d) (λ e. p) (λ e. q))

-- of an element put in at a place, among the first n, and the others: m are left of those from the place on
pub put_has : {A : Type 0} (P : A → Type 0) (d e : A) (m : ℕ) → P e → (l : List A) (at n : ℕ) → at ≤ length l → at ≤ n → n ≤ at + m → ((k : ℕ) → k < n → P (get_or l k d))
    → (k : ℕ) → k < suc n → P (get_or (take at l ++ e ∷ take m (drop at l)) k d)
put_has P d e m p l zero n b w h old zero g = p
put_has P d e m p l zero n b w h old (suc k) g = subst P (sym (get_or-take m l k d (omega arith))) (old k (omega arith))
put_has P d e m p [] (suc at) n b w h old k g = absurd (omega arith)
put_has P d e m p (x ∷ l) (suc at) n b w h old zero g = old 0 (omega arith)
put_has P d e m p (x ∷ l) (suc at) zero b w h old (suc k) g = absurd (omega arith)
put_has P d e m p (x ∷ l) (suc at) (suc n) b w h old (suc k) g =
    put_has P d e m p l at n (omega arith) (omega arith) (omega arith) (λ j q. old (suc j) (omega arith)) k (omega arith)
