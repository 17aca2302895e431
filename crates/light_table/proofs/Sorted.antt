-- Entries of ascending index: a search finds the entry of an index exactly if there is one, and a replacement and an insertion keep them ascending. Assumes nothing.
use Prim.Native.Nat.{ℕ, zero, suc, ◌+◌, ◌-◌, ◌≤◌, ◌<◌}
use native.Mathlib.Nat.{le_of_suc-le-suc, not-suc-le-zero}
use native.Mathlib.Omega.{arith}
use mathlib.Core.Path.{◌≡◌, refl, sym, ap, ◌∙◌}
use mathlib.Core.Bool.{Bool, true, false, cond, ◌&&◌, and-eq-true_iff, true≢false}
use mathlib.Core.List.{List, [], ◌∷◌, ◌++◌, append_assoc}
use lib.Dec.{leb, ltb, eqb, leb-suc-suc}
use lib.ListN.{length, get_or, set, take, drop, replicate, take-append-drop, length-append, length-take, length-drop}
use lib.Seq.{length-take-le, drop-append-le, take-append-add, take-take, take_at, drop_at}
use borrow.Author.Tests.{lt-ltb, le-ltb, le-leb, leb-true, eq-eqb, eqb-false, ltb-true, ltb-false}
use Rattle.lemmas.proofs.Branch.{branch}
use Rattle.light_table.specs.Entry.{zero_entry}
use Rattle.light_table.specs.Overflow.{lower_bound, find_entry, place, ascending, inserted_at}
use Rattle.light_table.specs.declared.entry.OverflowLight.{OverflowLight}
use Rattle.std.specs.Prelude.{Result, Ok, Err, is_ok}
use Rattle.lemmas.proofs.Lists.{take-replicate}
pub use Rattle.light_table.proofs.LowerBound.{bound_most, bound_cons, place_is, stored_below, stored_index}
pub use Rattle.light_table.proofs.Insertion.{length_inserted}

-- ---- a search, entry by entry

-- a place among the entries behind the first, as one among all
abbrev pub one_later : Result ℕ ℕ → Result ℕ ℕ
one_later (Ok at) = Ok (suc at)
one_later (Err at) = Err (suc at)

later_is : (b : Bool) (at : ℕ) → cond b (Ok (suc at)) (Err (suc at)) ≡ one_later (cond b (Ok at) (Err at))
later_is true at = refl
later_is false at = refl

ok_if : (b : Bool) → is_ok {T = ℕ} {E = ℕ} (cond b (Ok 0) (Err 0)) ≡ b
ok_if true = refl
ok_if false = refl

later_stored : (f : Result ℕ ℕ) → is_ok (one_later f) ≡ is_ok f
later_stored (Ok at) = refl
later_stored (Err at) = refl

module _ (x : OverflowLight) (es : List OverflowLight) (i : ℕ) where
  bound_passed : x.index < i → lower_bound (x ∷ es) i ≡ suc (lower_bound es i)
  bound_passed h = rw (bound_cons x es i, lt-ltb x.index i h)

  bound_stopped : i ≤ x.index → lower_bound (x ∷ es) i ≡ 0
  bound_stopped h = rw (bound_cons x es i, le-ltb x.index i h)

  pub find_passed : x.index < i → find_entry (x ∷ es) i ≡ one_later (find_entry es i)
  unfolding find_entry
  find_passed h = rw (bound_passed h, leb-suc-suc) (later_is (ltb (lower_bound es i) (length es) && eqb (get_or es (lower_bound es i) zero_entry).index i) (lower_bound es i))

  pub find_stopped : i ≤ x.index → find_entry (x ∷ es) i ≡ cond (eqb x.index i) (Ok 0) (Err 0)
  unfolding find_entry
  find_stopped h = rw (bound_stopped h, lt-ltb 0 (suc (length es)) (omega arith))

-- ---- ascending indices

module _ (from : ℕ) (x : OverflowLight) (es : List OverflowLight) where
  pub both : (ascending from (x ∷ es) ≡ true) → (from ≤ x.index) × (ascending (suc x.index) es ≡ true)
  unfolding ascending
  both h =
      let p = (and-eq-true_iff (leb from x.index) (ascending (suc x.index) es)).0 h in
      (leb-true from x.index p.0, p.1)

  ascending_cons : from ≤ x.index → ascending (suc x.index) es ≡ true → ascending from (x ∷ es) ≡ true
  unfolding ascending
  ascending_cons l h = (and-eq-true_iff (leb from x.index) (ascending (suc x.index) es)).1 (le-leb from x.index l, h)

pub from_below : (from : ℕ) (es : List OverflowLight) (k : ℕ) → ascending from es ≡ true → k < length es → from ≤ (get_or es k zero_entry).index
from_below from [] k a h = absurd (not-suc-le-zero h)
from_below from (x ∷ es) zero a h = (both from x es a).0
from_below from (x ∷ es) (suc k) a h =
    let b = both from x es a in
    omega (arith, b.0, from_below (suc x.index) es k b.1 (le_of_suc-le-suc h))

-- the entry of an index is found where it stands. The other way round, what is found stored has the index: `stored_below` and `stored_index` of `overflow.LowerBound`, of any list
pub finds : (from : ℕ) (es : List OverflowLight) (i k : ℕ) → ascending from es ≡ true → k < length es → (get_or es k zero_entry).index ≡ i
    → find_entry es i ≡ Ok k
finds from [] i k a h e = absurd (not-suc-le-zero h)
finds from (x ∷ es) i zero a h e = find_stopped x es i (omega arith) ∙ ap {B = Result ℕ ℕ} (λ (b : Bool). cond b (Ok 0) (Err 0)) (eq-eqb x.index i e)
finds from (x ∷ es) i (suc k) a h e =
    let t = (both from x es a).1 in
    let l : x.index < i = omega (arith, from_below (suc x.index) es k t (le_of_suc-le-suc h)) in
    find_passed x es i l
    ∙ ap one_later (finds (suc x.index) es i k t (le_of_suc-le-suc h) e)

pub absent : (from : ℕ) (es : List OverflowLight) (i k : ℕ) → ascending from es ≡ true → is_ok (find_entry es i) ≡ false → k < length es → (get_or es k zero_entry).index ≡ i → ⊥
absent from es i k a n h e = true≢false (sym (ap (λ (f : Result ℕ ℕ). is_ok f) (finds from es i k a h e)) ∙ n)

-- ---- what keeps them ascending

set_same : (from : ℕ) (es : List OverflowLight) (k : ℕ) (e : OverflowLight) → e.index ≡ (get_or es k zero_entry).index → ascending from (set es k e) ≡ ascending from es
unfolding ascending
set_same from [] k e h = refl
set_same from (x ∷ es) zero e h = ap (λ (n : ℕ). leb from n && ascending (suc n) es) h
set_same from (x ∷ es) (suc k) e h = ap (λ (b : Bool). leb from x.index && b) (set_same (suc x.index) es k e h)

-- an entry in the place of the one found, with its index
pub replaced_ascending : (from : ℕ) (es : List OverflowLight) (i : ℕ) (e : OverflowLight) → e.index ≡ i → is_ok (find_entry es i) ≡ true
    → ascending from (set es (place (find_entry es i)) e) ≡ ascending from es
replaced_ascending from es i e q h = set_same from es (place (find_entry es i)) e (q ∙ sym (stored_index es i h))

-- one entry more before a place
abbrev pub put_in : ℕ → OverflowLight → List OverflowLight → List OverflowLight
put_in at e es = take at es ++ e ∷ drop at es

-- one of an index that is not stored, at the lower bound
pub inserted_ascending : (from : ℕ) (es : List OverflowLight) (i : ℕ) (e : OverflowLight) → e.index ≡ i → from ≤ i → ascending from es ≡ true → is_ok (find_entry es i) ≡ false
    → ascending from (put_in (lower_bound es i) e es) ≡ true
unfolding lower_bound ascending
inserted_ascending from [] i e q l a n = ascending_cons from e [] (omega arith) refl
inserted_ascending from (x ∷ es) i e q l a n =
    let b = both from x es a in
    rw (bound_cons x es i)
    (branch (λ (k : ℕ). ascending from (put_in k e (x ∷ es)) ≡ true) (ltb x.index i) (suc (lower_bound es i)) 0
    (λ (t : ltb x.index i ≡ true).
    let p = ltb-true x.index i t in
    ascending_cons from x (put_in (lower_bound es i) e es) b.0
    (inserted_ascending (suc x.index) es i e q p b.1 (sym (later_stored (find_entry es i)) ∙ sym (ap (λ (f : Result ℕ ℕ). is_ok f) (find_passed x es i p)) ∙ n)))
    (λ (t : ltb x.index i ≡ false).
    let p = ltb-false x.index i t in
    let d = eqb-false x.index i (sym (ok_if (eqb x.index i)) ∙ sym (ap (λ (f : Result ℕ ℕ). is_ok f) (find_stopped x es i p)) ∙ n) in
    ascending_cons from e (x ∷ es) (omega arith) (ascending_cons (suc e.index) x es (omega arith) b.1)))

-- ---- the table after an insertion among its first n entries

module _ (es : List OverflowLight) (n at : ℕ) (e : OverflowLight) (full : length es ≡ 56) (room : n < 56) (within : at ≤ n) where
  length-used : length (take n es) ≡ n
  length-used = length-take-le n es (omega arith)

  parts : inserted_at at e es ≡ put_in at e (take n es) ++ take (55 - n) (drop n es)
  unfolding inserted_at
  parts =
      let rest : drop at es ≡ drop at (take n es) ++ drop n es =
      ap (drop at) (sym (take-append-drop n es)) ∙ drop-append-le at (take n es) (drop n es) (omega (arith, length-used)) in
      let count : 55 - at ≡ length (drop at (take n es)) + (55 - n) = omega (arith, length-drop at (take n es), length-used) in
      ap (λ (l : List OverflowLight). take at es ++ (e ∷ take (55 - at) l)) rest
      ∙ ap (λ (k : ℕ). take at es ++ (e ∷ take k (drop at (take n es) ++ drop n es))) count
      ∙ ap (λ (l : List OverflowLight). take at es ++ (e ∷ l)) (take-append-add (drop at (take n es)) (drop n es) (55 - n))
      ∙ ap (λ (l : List OverflowLight). l ++ (e ∷ (drop at (take n es) ++ take (55 - n) (drop n es)))) (sym (take-take at n es within))
      ∙ sym (append_assoc (take at (take n es)) (e ∷ drop at (take n es)) (take (55 - n) (drop n es)))

  length-put : length (put_in at e (take n es)) ≡ suc n
  length-put = simp (length-append, length-take, length-drop) (omega (arith, length-used))

  -- the first n, with the entry put in
  pub inserted_used : take (suc n) (inserted_at at e es) ≡ put_in at e (take n es)
  inserted_used = ap (take (suc n)) parts ∙ take_at (put_in at e (take n es)) (take (55 - n) (drop n es)) (suc n) length-put

  -- the others move up, and the last is dropped
  pub inserted_rest : drop (suc n) (inserted_at at e es) ≡ take (55 - n) (drop n es)
  inserted_rest = ap (drop (suc n)) parts ∙ drop_at (put_in at e (take n es)) (take (55 - n) (drop n es)) (suc n) length-put

  -- so that unused entries that are zero stay so
  pub inserted_zeros : drop n es ≡ replicate (56 - n) zero_entry → drop (suc n) (inserted_at at e es) ≡ replicate (55 - n) zero_entry
  inserted_zeros z = inserted_rest ∙ ap (take (55 - n)) z ∙ take-replicate (55 - n) (56 - n) zero_entry (omega arith)
