-- The overflow entries as lights of the abstract state: looking one up, and changing one or putting one in. Assumes nothing.
use Rattle.std.specs.Prelude.{Result, Ok, Err, is_ok}
use Prim.Native.Nat.{ℕ, suc, ◌≤◌, ◌<◌}
use native.Mathlib.Omega.{arith}
use mathlib.Core.Path.{◌≡◌, refl, sym, ap, ◌∙◌}
use mathlib.Core.Bool.{Bool, true, false, cond}
use mathlib.Core.Option.{Option, none, some}
use mathlib.Core.List.{List, [], ◌∷◌, map}
use lib.Dec.{ltb, eqb}
use lib.ListN.{get_or, set}
use borrow.Author.Tests.{ltb-true, ltb-false, ne_eqb, eqb-true, eqb-false}
use Rattle.d3d9_model.specs.State.{AbstractLight}
use Rattle.d3d9_model.specs.Lights.{lookup, changed_at}
use Rattle.light_table.specs.Entry.{zero_entry}
use Rattle.light_table.specs.Overflow.{lower_bound, find_entry, place, ascending}
use Rattle.light_table.specs.declared.entry.OverflowLight.{OverflowLight}
use Rattle.light_table.proofs.Sorted.{one_later, find_passed, find_stopped, both, put_in}
use Rattle.agreement.specs.Agrees.{overflow_entry}
use Rattle.agreement.proofs.Indices.{Above, lookup_above}

pub entries_above : (j from : ℕ) (es : List OverflowLight) → ascending from es ≡ true → j < from → Above j (map overflow_entry es)
entries_above j from [] a h = tt
entries_above j from (x ∷ es) a h =
    let b = both from x es a in
    (omega (arith, b.0), entries_above j (suc x.index) es b.1 (omega (arith, b.0)))

find_none : (i : ℕ) → find_entry [] i ≡ Err 0
unfolding find_entry lower_bound
find_none i = refl

module _ (i : ℕ) where
  abbrev entry_found : List OverflowLight → Result ℕ ℕ → Option AbstractLight
  entry_found es f = cond (is_ok f) (some (overflow_entry (get_or es (place f) zero_entry))) none

  later_found : (x : OverflowLight) (es : List OverflowLight) (f : Result ℕ ℕ) → entry_found (x ∷ es) (one_later f) ≡ entry_found es f
  later_found x es (Ok at) = refl
  later_found x es (Err at) = refl

  pub entries_lookup : (from : ℕ) (es : List OverflowLight) → ascending from es ≡ true → lookup i (map overflow_entry es) ≡ entry_found es (find_entry es i)
  unfolding lookup
  entries_lookup from [] a = rw (find_none i)
  entries_lookup from (x ∷ es) a = go (ltb x.index i) refl (entries_lookup (suc x.index) es (both from x es a).1)
    where
      stop : (t : Bool) → eqb x.index i ≡ t → i ≤ x.index
          → cond (eqb x.index i) (some (overflow_entry x)) (lookup i (map overflow_entry es)) ≡ entry_found (x ∷ es) (cond (eqb x.index i) (Ok 0) (Err 0))
      stop true e h = rw e
      stop false e h =
          rw e (lookup_above i (map overflow_entry es) (entries_above i (suc x.index) es (both from x es a).1 (omega (arith, eqb-false x.index i e))))

      go : (t : Bool) → ltb x.index i ≡ t → lookup i (map overflow_entry es) ≡ entry_found es (find_entry es i)
          → cond (eqb x.index i) (some (overflow_entry x)) (lookup i (map overflow_entry es)) ≡ entry_found (x ∷ es) (find_entry (x ∷ es) i)
      go true e ih =
          let h : x.index < i = ltb-true x.index i e in
          rw (find_passed x es i h, ne_eqb x.index i (λ q. omega arith)) (ih ∙ sym (later_found x es (find_entry es i)))
      go false e ih =
          let h : i ≤ x.index = ltb-false x.index i e in
          rw (find_stopped x es i h) (stop (eqb x.index i) refl h)

  -- a change of an entry, and the same change of the light that it is
  module _ (change : OverflowLight → OverflowLight) (made : OverflowLight) (change' : AbstractLight → AbstractLight)
      (alike : (e : OverflowLight) → e.index ≡ i → overflow_entry (change e) ≡ change' (overflow_entry e)) where
    abbrev entry_changed : List OverflowLight → Result ℕ ℕ → List OverflowLight
    entry_changed es f = cond (is_ok f) (set es (place f) (change (get_or es (place f) zero_entry))) (put_in (place f) made es)

    passed : (x : OverflowLight) (es : List OverflowLight) (f : Result ℕ ℕ)
        → map overflow_entry (entry_changed (x ∷ es) (one_later f)) ≡ overflow_entry x ∷ map overflow_entry (entry_changed es f)
    passed x es (Ok at) = refl
    passed x es (Err at) = refl

    pub entries_changed : (es : List OverflowLight) → changed_at i change' (overflow_entry made) (map overflow_entry es) ≡ map overflow_entry (entry_changed es (find_entry es i))
    unfolding changed_at
    entries_changed [] = rw (find_none i)
    entries_changed (x ∷ es) = go (ltb x.index i) refl (entries_changed es)
      where
        stop : (t : Bool) → eqb x.index i ≡ t
            → cond (eqb x.index i) (change' (overflow_entry x) ∷ map overflow_entry es) (overflow_entry made ∷ overflow_entry x ∷ map overflow_entry es)
            ≡ map overflow_entry (entry_changed (x ∷ es) (cond (eqb x.index i) (Ok 0) (Err 0)))
        stop true e = rw e (ap (λ (l : AbstractLight). l ∷ map overflow_entry es) (sym (alike x (eqb-true x.index i e))))
        stop false e = rw e

        go : (t : Bool) → ltb x.index i ≡ t → changed_at i change' (overflow_entry made) (map overflow_entry es) ≡ map overflow_entry (entry_changed es (find_entry es i))
            → changed_at i change' (overflow_entry made) (overflow_entry x ∷ map overflow_entry es) ≡ map overflow_entry (entry_changed (x ∷ es) (find_entry (x ∷ es) i))
        go true e ih =
            let h : x.index < i = ltb-true x.index i e in
            rw (e, find_passed x es i h) (ap (λ (l : List AbstractLight). overflow_entry x ∷ l) ih ∙ sym (passed x es (find_entry es i)))
        go false e ih =
            let h : i ≤ x.index = ltb-false x.index i e in
            rw (e, find_stopped x es i h) (stop (eqb x.index i) refl)
