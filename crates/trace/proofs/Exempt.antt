-- Which sections are let off: "A section that an overwriting hit is let off, and no other", and none any longer once an accepted operation marks it. An overwriting hits the rows that a section had, and no other.
-- Assumes nothing.
use Prim.Native.Nat.{ℕ, ◌+◌, ◌≤◌, ◌<◌}
use mathlib.Core.Path.{◌≡◌, refl, sym, ◌∙◌}
use mathlib.Core.Logic.{◌⊎◌, inl}
use mathlib.Core.Bool.{true, false, not}
use mathlib.Core.List.{List}
use mathlib.Core.Option.{Option, none, some}
use lib.Dec.{leb, ltb}
use lib.Ieee.{Float}
use borrow.Author.Tests.{ltb-true, leb-true}
use Rattle.lemmas.proofs.Tests.{and_false, both, either}
use Rattle.lemmas.proofs.Branch.{branch}
use Rattle.sections.specs.declared.sections.Section.{Section}
use Rattle.image_reasons.specs.Reasons.{refused}
use Rattle.sections.specs.Sections.{first_row}
use Rattle.sections.specs.declared.key.FfVsKey.{FfVsKey}
use Rattle.d3d9_model.specs.Operations.{Operation}
use Rattle.trace.specs.Calls.{Lent, the_mirror, another, HostCall, operates, refreshes, Call, own, read_in, refresh, overwrite, host, host_on}
use Rattle.call_laws.specs.HostOperations.{HostOperation, operation_of}
use Rattle.trace.specs.Calls as Calls
use Rattle.trace.specs.World.{World, Track, with_mirror, track_marked, track_read_in, track_refreshed, is_row, hits, track_overwritten, fresh_track, start, standing, tracking, marks, operated, operated_if, image_read, refreshed_if}
use Rattle.trace.specs.Step.{Refresher, leaving, host_step, unread, handed, step}
use Rattle.trace.proofs.Tracked.{hits_is}

-- the call is an overwriting that hits the section
abbrev pub Hits : Call → World → Section → Type 0
Hits (own op) w σ = ⊥
Hits (read_in bytes) w σ = ⊥
Hits (refresh k l) w σ = ⊥
Hits (overwrite r x y z t) w σ = hits r w.track σ ≡ true
Hits (host h) w σ = ⊥
Hits (host_on bytes h) w σ = ⊥
Hits Calls.Call.reads w σ = ⊥

module _ (R : Refresher) (σ : Section) where
  -- nothing is let off that was not
  abbrev No : World → World → Type 0
  No w v = v.track.exempt σ ≡ true → w.track.exempt σ ≡ true

  operated_no : (o : Option Operation) (w : World) → No w (operated_if o w)
  unfolding operated_if operated track_marked
  operated_no none w e = e
  operated_no (some op) w e = (both (w.track.exempt σ) (not (marks w.abstract op σ)) e).0

  refreshed_no : (o : Option FfVsKey) (w : World) → No w (refreshed_if o w)
  unfolding refreshed_if tracking track_refreshed
  refreshed_no none w e = e
  refreshed_no (some k) w e = e

  leaving_no : {A : Type 0} (l : Lent A) (m : List Float) (w : World) → No w (leaving l m w)
  unfolding leaving tracking with_mirror
  leaving_no (the_mirror x) m w e = e
  leaving_no (another x) m w e = e

  host_no : (h : HostCall) (w : World) → No w (host_step R h w)
  unfolding host_step standing
  host_no (operates h) w e = operated_no (operation_of h) w e
  host_no (refreshes k l) w e = leaving_no l _ w (refreshed_no _ (leaving l _ w) e)
  host_no Calls.HostCall.reads w e = e

  unread_no : (bytes : List ℕ) (h : HostCall) (w : World) → No w (unread R bytes h w)
  unfolding unread
  unread_no bytes (operates h) w e = e
  unread_no bytes (refreshes k l) w e = leaving_no l _ w e
  unread_no bytes Calls.HostCall.reads w e = e

  pub only_hit : (c : Call) (w : World) → (step R c w).track.exempt σ ≡ true → (w.track.exempt σ ≡ true) ⊎ Hits c w σ
  unfolding step standing operated_if image_read track_read_in tracking track_overwritten
  only_hit (own op) w e = inl (operated_no (some op) w e)
  only_hit (read_in bytes) w e = inl (branch (No w) (refused bytes) _ _ (λ q x. x) (λ q x. x) e)
  only_hit (refresh k l) w e = inl (leaving_no l _ w (refreshed_no _ (leaving l _ w) e))
  only_hit (overwrite r x y z t) w e = either (w.track.exempt σ) (hits r w.track σ) e
  only_hit (host h) w e = inl (host_no h w e)
  only_hit (host_on bytes h) w e = inl (branch (No w) (refused bytes) _ _ (λ q x. unread_no bytes h w x) (λ q x. host_no h (handed bytes w) x) e)
  only_hit Calls.Call.reads w e = inl e

  pub none_first : (m : List Float) → (start m).track.exempt σ ≡ false
  unfolding start fresh_track
  none_first m = refl

  -- "its count is zero again from the first accepted refresh after its next marking"
  pub marking_ends : (op : Operation) (w : World) → marks w.abstract op σ ≡ true → (step R (own op) w).track.exempt σ ≡ false
  unfolding step standing operated track_marked
  marking_ends op w e = rw e (and_false (w.track.exempt σ))

  pub host_marking_ends : (h : HostOperation) (op : Operation) (w : World) → operation_of h ≡ some op → marks w.abstract op σ ≡ true → (step R (host (operates h)) w).track.exempt σ ≡ false
  unfolding step host_step standing operated_if operated track_marked
  host_marking_ends h op w o e = rw (o, e) (and_false (w.track.exempt σ))

-- ---- what an overwriting hits

-- "before the first it hits none"
pub none_before_first : (r : ℕ) (t : Track) (σ : Section) → t.last_key ≡ none → hits r t σ ≡ false
unfolding hits
none_before_first r t σ e = rw e

-- a row that the section had at the last accepted refresh
pub hit_inside : (r : ℕ) (t : Track) (σ : Section) (k : FfVsKey) → t.last_key ≡ some k → hits r t σ ≡ true
    → (first_row σ ≤ r) × (r < first_row σ + t.rows_at_last_refresh σ)
unfolding is_row
hit_inside r t σ k last e =
    let f = first_row σ in
    let n = t.rows_at_last_refresh σ in
    let inside = sym (hits_is r t σ k last) ∙ e in
    let parts = both (leb f r) (ltb r (f + n)) inside in
    (leb-true f r parts.0, ltb-true r (f + n) parts.1)
