-- One entry more in a full table of 56: the others move up, and it goes into the place. Assumes nothing.
use Prim.Native.Nat.{ℕ, suc, ◌+◌, ◌-◌, ◌≤◌, ◌<◌}
use native.Mathlib.Omega.{arith}
use mathlib.Core.Path.{◌≡◌, sym, ap, ◌∙◌}
use mathlib.Core.Logic.{inl, inr}
use mathlib.Core.List.{List, ◌∷◌, ◌++◌}
use lib.ListN.{length, get_or, set, take, drop, length-set, length-append, length-take, length-drop, get_or-append}
use lib.Seq.{length-take-le, get_or-take, get_or-append_seam}
use Rattle.std.proofs.lemmas.List.{ext_get_or, get_or-set_other, get_or-append_right, get_or-drop}
use Rattle.std.proofs.lemmas.Grind.{get_or-set_at}
use Rattle.std.proofs.lemmas.Bool.{cases_order}
use Rattle.light_table.specs.Entry.{zero_entry}
use Rattle.light_table.specs.Overflow.{inserted_at}
use Rattle.light_table.specs.declared.entry.OverflowLight.{OverflowLight}

module _ (es : List OverflowLight) (full : length es ≡ 56) where
  pub length_inserted : (at : ℕ) (e : OverflowLight) → at < 56 → length (inserted_at at e es) ≡ 56
  unfolding inserted_at
  length_inserted at e h = simp (length-append, length-take, length-drop) (omega arith)

  -- the entries from a place on moved up by one, and the new one stored there
  module _ (at : ℕ) (e : OverflowLight) (xs : List OverflowLight) (below-56 : at < 56) (long : length xs ≡ length es)
      (moved : (k : ℕ) (d : OverflowLight) → at + 1 ≤ k → k < at + 1 + (55 - at) → get_or xs k d ≡ get_or es (at + (k - (at + 1))) d)
      (same : (k : ℕ) (d : OverflowLight) → k < at + 1 → get_or xs k d ≡ get_or es k d) where
    front : length (take at es) ≡ at
    front = length-take-le at es (omega arith)

    abbrev after : List OverflowLight
    after = take at es ++ (e ∷ take (55 - at) (drop at es))

    -- the entry at a place, before the new one, at it and behind it
    before_it : (d : OverflowLight) (k : ℕ) → k < at → get_or (set xs at e) k d ≡ get_or after k d
    before_it d k l =
        get_or-set_other xs at k e d (λ (q : k ≡ at). omega arith)
        ∙ same k d (omega arith)
        ∙ sym (get_or-append (take at es) (e ∷ take (55 - at) (drop at es)) d k (omega (arith, front)) ∙ get_or-take at es k d l)

    at_it : (d : OverflowLight) (k : ℕ) → k ≡ at → get_or (set xs at e) k d ≡ get_or after k d
    at_it d k q =
        get_or-set_at xs at k e d q (omega arith)
        ∙ sym (ap (λ (n : ℕ). get_or after n d) (q ∙ sym front) ∙ get_or-append_seam (take at es) e (take (55 - at) (drop at es)) d)

    behind_it : (d : OverflowLight) (k : ℕ) → at < k → k < 56 → get_or (set xs at e) k d ≡ get_or after k d
    behind_it d k g h =
        let j : ℕ = k - (at + 1) in
        let next : k - at ≡ suc j = omega arith in
        get_or-set_other xs at k e d (λ (q : k ≡ at). omega arith)
        ∙ moved k d (omega arith) (omega arith)
        ∙ sym
        (get_or-append_right (take at es) (e ∷ take (55 - at) (drop at es)) at k d front (omega arith)
        ∙ ap (λ (n : ℕ). get_or (e ∷ take (55 - at) (drop at es)) n d) next
        ∙ get_or-take (55 - at) (drop at es) j d (omega arith)
        ∙ get_or-drop at es j d)

    each : (d : OverflowLight) (k : ℕ) → k < 56 → get_or (set xs at e) k d ≡ get_or after k d
    each d k h = elim (cases_order k at) [ inl q ↦ at_it d k q | inr r ↦ elim r [ inl l ↦ before_it d k l | inr g ↦ behind_it d k g h ] ]

    pub moved_up : set xs at e ≡ inserted_at at e es
    unfolding inserted_at
    moved_up = ext_get_or zero_entry (set xs at e) after (simp (length-append, length-take, length-drop, length-set) (omega arith)) (λ k h. each zero_entry k (omega (arith, length-set xs at e)))
