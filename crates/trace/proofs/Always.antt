-- Demand 3: each call of an admissible list keeps the invariant, and right after each accepted refresh every section that is not exempt has the count 0.
-- Assumes nothing.
use Prim.Native.Nat.{ℕ}
use mathlib.Core.Path.{◌≡◌, refl, sym, ap, subst, ◌∙◌}
use mathlib.Core.Logic.{◌⊎◌, inl, inr, ⊎_elim}
use mathlib.Core.Bool.{Bool, true, false}
use mathlib.Core.List.{List, [], ◌∷◌, ◌++◌}
use mathlib.Core.Option.{Option, none, some}
use lib.Dec.{eqb}
use lib.Ieee.{Float}
use lib.ListN.{length}
use borrow.Author.Tests.{eqb-true, eqb-false}
use Rattle.lemmas.proofs.Branch.{branch}
use Rattle.lemmas.proofs.Options.{some_is, not_some}
use Rattle.codec.specs.Little.{Bytes}
use Rattle.ff_state.specs.Dirty.{take_ff_vs_dirty}
use Rattle.sections.specs.Sections.{sections}
use Rattle.ff_state.specs.State.{fresh_state, dirty_word}
use Rattle.ff_state.specs.Valid.{Valid}
use Rattle.sections.specs.declared.sections.Section.{Section}
use Rattle.ff_state.specs.declared.state.FfState.{FfState}
use Rattle.image_reasons.specs.Reasons.{refused}
use Rattle.image.specs.Format.{image_bytes}
use Rattle.image.specs.Read.{state_of, read_image}
use Rattle.image_laws.specs.Exactly.{IsAccepted}
use Rattle.sections.specs.declared.key.FfVsKey.{FfVsKey}
use Rattle.d3d9_model.specs.State.{AbstractState}
use Rattle.d3d9_model.specs.Operations.{Operation}
use Rattle.ff_state.specs.Operate.{operate}
use Rattle.agreement.proofs.Dirty.{taken_valid}
use Rattle.refresh.specs.Answer.{refresh_answer, refresh_number}
use Rattle.refresh.specs.Mirror.{RefreshOutcome, refresh_mirror}
use Rattle.refresh.specs.Written.{written}
use Rattle.std.specs.Prelude.{Ok}
use Rattle.refresh.proofs.Answers.{accepted_fits}
use Rattle.refresh.proofs.Laws as Laws
use Rattle.refresh.proofs.Packed.{Ready}
use Rattle.refresh_calls.specs.Written.{mirror_floats}
use Rattle.refresh_calls.specs.Mirror.{HostRefreshed, ff_refresh_number, ff_refresh}
use Rattle.call_laws.specs.HostOperations.{HostOperation, operation_of, ItemFits}
use Rattle.call_laws.proofs.HostOperations.{operation_fits, host_accepted_kept, host_unsaid, host_state}
use Rattle.trace.specs.Calls.{Lent, the_mirror, another, slice, HostCall, operates, refreshes, Call, own, read_in, refresh, overwrite, host, host_on}
use Rattle.trace.specs.Calls as Calls
use Rattle.trace.specs.World.{World, Track, Stored, value, in_image, as_state, as_image, held, track_read_in, start, standing, operated_if, image_read, refreshed_if, wrong_rows}
use Rattle.trace.specs.Step.{refresh_refusal, accepts, host_key, accepted_key, ours, leaving, host_step, unread, handed, step, run}
use Rattle.trace.specs.Claim.{KeyFits, HostTyped, of_mirror, host_mirror, lent_mirror, Keeps, Admits, Admissible, AlwaysRight}
use Rattle.trace.proofs.HostCalls.{host_refresh_old, host_refresh_new}
use Rattle.trace.proofs.Invariant.{Stands, Invariant, writing_stands, by-value, image_accepted, by-host, begins, after_image, after_operated, after_standing, after_overwrite, after_left, after_refresh, refresh_right}
use Rattle.refresh_calls.proofs.MirrorBytes.{written-floats}
use Rattle.trace.proofs.Refusals.{number_accepted, answer_number, host_refresh_number, passes}
use Rattle.trace.proofs.Tracked.{Marked}
use Rattle.calls.specs.Answer.{Answer}
use Rattle.refresh_calls.proofs.Outcomes.{refresh_nine}

abbrev pub Good : World → Type 0
Good w = (s : FfState) × Invariant w s

-- each section that is not exempt has the count 0
abbrev Right : World → FfVsKey → Type 0
Right w k = (σ : Section) → w.track.exempt σ ≡ false → wrong_rows w k σ ≡ 0

-- ---- a refresh, by value or by the host, on a slice that reads as these floats

-- by document 01's rule: accepted, it leaves the sections written in the slice and the bits taken in the state; refused, both as they were
pub data Leaves (s : FfState) (k : FfVsKey) (o : Option FfVsKey) (lent left : List Float) (h : Stored) : Type 0 where
  writes : o ≡ some k → Ready s k → left ≡ written sections (dirty_word s) s k lent → Stands h (take_ff_vs_dirty s).state → Leaves s k o lent left h
  refuses : o ≡ none → left ≡ lent → Stands h s → Leaves s k o lent left h

-- the conditions of demand 3, of a slice by its floats
pub record Lends {A : Type 0} (floatsOf : List A → List Float) (t : Track) (k : FfVsKey) (o : Option FfVsKey) (l : Lent A) : Type 0 where
  pub mirror : (m : List Float) → of_mirror floatsOf l ≡ some m → m ≡ t.mirror
  pub lent : o ≡ some k → of_mirror floatsOf l ≡ none → ⊥
  pub marked : o ≡ some k → Marked t k

module _ {A : Type 0} (floatsOf : List A → List Float) {w : World} {s : FfState} (inv : Invariant w s) {k : FfVsKey} {o : Option FfVsKey} {left : List Float} {h : Stored} where
  refresh_good : (l : Lent A) → Lends floatsOf w.track k o l → Leaves s k o (floatsOf (slice l)) left h → Good (standing h (refreshed_if o (leaving l left w)))
  unfolding slice leaving of_mirror refreshed_if
  refresh_good (the_mirror m) c (writes e ready is st) =
      rw e ((take_ff_vs_dirty s).state, after_refresh inv k ready (c.marked e) h left (is ∙ ap (written sections (dirty_word s) s k) (c.mirror (floatsOf m) refl)) st)
  refresh_good (the_mirror m) c (refuses e is st) = rw e (s, after_standing (after_left inv left (is ∙ c.mirror (floatsOf m) refl)) h st)
  refresh_good (another m) c (writes e ready is st) = absurd (c.lent e refl)
  refresh_good (another m) c (refuses e is st) = rw e (s, after_standing inv h st)

  refreshed_right : (l : Lent A) → Lends floatsOf w.track k o l → Leaves s k o (floatsOf (slice l)) left h → o ≡ some k → Right (standing h (refreshed_if o (leaving l left w))) k
  unfolding slice leaving of_mirror refreshed_if
  refreshed_right (the_mirror m) c (writes e ready is st) q =
      rw e (refresh_right inv k ready (c.marked e) h left (is ∙ ap (written sections (dirty_word s) s k) (c.mirror (floatsOf m) refl)))
  refreshed_right (another m) c (writes e ready is st) q = absurd (c.lent e refl)
  refreshed_right l c (refuses e is st) q = not_some (sym e ∙ q)

-- ---- a refresh by value

-- accepted by document 01's rule or not
accepts_is : (a : AbstractState) (k : FfVsKey) (whole : Bool) → ((refresh_refusal a k whole ≡ 0) × (accepts a k whole ≡ some k)) ⊎ ((refresh_refusal a k whole ≡ 0 → ⊥) × (accepts a k whole ≡ none))
unfolding accepts
accepts_is a k whole = go (eqb (refresh_refusal a k whole) 0) refl
  where
    go : (t : Bool) → eqb (refresh_refusal a k whole) 0 ≡ t → ((refresh_refusal a k whole ≡ 0) × (accepts a k whole ≡ some k)) ⊎ ((refresh_refusal a k whole ≡ 0 → ⊥) × (accepts a k whole ≡ none))
    go true q = inl (eqb-true (refresh_refusal a k whole) 0 q, rw q)
    go false q = inr (eqb-false (refresh_refusal a k whole) 0 q, rw q)

accepts_same : (a : AbstractState) (j k : FfVsKey) (whole : Bool) → accepts a j whole ≡ some k → j ≡ k
accepts_same a j k whole e = ⊎_elim (λ y. some_is (sym y.1 ∙ e)) (λ n. not_some (sym n.1 ∙ e)) (accepts_is a j whole)

ready_for : {w : World} {s : FfState} → Invariant w s → (k : FfVsKey) → KeyFits k → (n : ℕ) → refresh_answer s k n ≡ Ok tt → Ready s k
ready_for {s = s} inv k fit n e = record { count = fit.count; palette = inv.valid.palette_length; textures = inv.valid.texture_length; mask = (accepted_fits s k n e).mask }

module _ {w : World} {s : FfState} (inv : Invariant w s) (k : FfVsKey) (fit : KeyFits k) (lent : List Float) where
  value_leaves : Leaves s k (accepts w.abstract k (eqb (length lent) 4460)) lent (refresh_mirror s k lent).floats (value (refresh_mirror s k lent).result.state)
  unfolding refresh_number
  value_leaves = ⊎_elim yes no (accepts_is w.abstract k (eqb (length lent) 4460))
    where
      number : refresh_number (refresh_answer s k (length lent)) ≡ refresh_refusal w.abstract k (eqb (length lent) 4460)
      number = answer_number inv.valid inv.agrees k (length lent)

      yes : (refresh_refusal w.abstract k (eqb (length lent) 4460) ≡ 0) × (accepts w.abstract k (eqb (length lent) 4460) ≡ some k)
          → Leaves s k (accepts w.abstract k (eqb (length lent) 4460)) lent (refresh_mirror s k lent).floats (value (refresh_mirror s k lent).result.state)
      yes y =
          let taken = number_accepted (refresh_answer s k (length lent)) (number ∙ y.0) in
          let is = Laws.accepted_is s k lent fit.count inv.valid.palette_length inv.valid.texture_length taken in
          writes y.1 (ready_for inv k fit (length lent) taken) (ap (λ (o : RefreshOutcome). o.floats) is) (ap (λ (o : RefreshOutcome). o.result.state) is)

      no : (refresh_refusal w.abstract k (eqb (length lent) 4460) ≡ 0 → ⊥) × (accepts w.abstract k (eqb (length lent) 4460) ≡ none)
          → Leaves s k (accepts w.abstract k (eqb (length lent) 4460)) lent (refresh_mirror s k lent).floats (value (refresh_mirror s k lent).result.state)
      no n =
          let is = Laws.refused_same s k lent (λ (e : refresh_answer s k (length lent) ≡ Ok tt). n.0 (sym number ∙ ap refresh_number e)) in
          refuses n.1 (ap (λ (o : RefreshOutcome). o.floats) is) (ap (λ (o : RefreshOutcome). o.result.state) is)

-- ---- a host's calls

module _ {w : World} (a : IsAccepted (as_image w.stored)) (inv : Invariant w (state_of (as_image w.stored))) where
  abbrev image : List ℕ
  image = as_image w.stored

  abbrev old : FfState
  old = held w.stored

  -- an image left as found
  stays : (bytes : List ℕ) → bytes ≡ image → Stands (in_image old bytes) (state_of image)
  stays bytes e = subst (λ (b : List ℕ). Stands (in_image old b) (state_of image)) (sym e) (a, refl)

  -- an image written from a state
  written_stands : (bytes : List ℕ) (s : FfState) → bytes ≡ image_bytes s → Valid s → Stands (in_image old bytes) s
  written_stands bytes s e v = subst (λ (b : List ℕ). Stands (in_image old b) s) (sym e) (writing_stands old s v)

  operation_good : (h : HostOperation) → ItemFits h → Good (host_step ours (operates h) w)
  unfolding host_step operated_if
  operation_good h fit = go (operation_of h) refl
    where
      go : (o : Option Operation) → operation_of h ≡ o → Good (host_step ours (operates h) w)
      go none e = rw e (state_of image, after_standing inv _ (stays _ (host_unsaid h image a e)))
      go (some op) e =
          rw e (
            (operate (state_of image) op).state,
            after_operated inv op (operation_fits h op e fit) _ (host_accepted_kept h image a fit, host_state h image a op e fit),
          )

  host_refresh_leaves : (k : FfVsKey) → KeyFits k → (lent : List ℕ)
      → Leaves (state_of image) k (accepts w.abstract k (eqb (length lent) 17_840)) (mirror_floats lent) (mirror_floats (ff_refresh image k lent 0).out.mirror) (in_image old (ff_refresh image k lent 0).out.image)
  unfolding take_ff_vs_dirty
  host_refresh_leaves k fit lent = ⊎_elim yes no (accepts_is w.abstract k (eqb (length lent) 17_840))
    where
      number : ff_refresh_number k lent (state_of image) ≡ refresh_refusal w.abstract k (eqb (length lent) 17_840)
      number = host_refresh_number inv.valid inv.agrees k lent

      yes : (refresh_refusal w.abstract k (eqb (length lent) 17_840) ≡ 0) × (accepts w.abstract k (eqb (length lent) 17_840) ≡ some k)
          → Leaves (state_of image) k (accepts w.abstract k (eqb (length lent) 17_840)) (mirror_floats lent) (mirror_floats (ff_refresh image k lent 0).out.mirror) (in_image old (ff_refresh image k lent 0).out.image)
      yes y =
          let is = host_refresh_new image k lent a.taken (number ∙ y.0) in
          let passed = passes w.abstract k lent y.0 in
          let taken = number_accepted (refresh_answer (state_of image) k 4460) (answer_number inv.valid inv.agrees k 4460 ∙ passed.1) in
          let ready = ready_for inv k fit 4460 taken in
          writes y.1 ready
          (ap (λ (r : HostRefreshed). mirror_floats r.mirror) is ∙ written-floats ready inv.valid (dirty_word (state_of image)) sections lent passed.0)
          (written_stands _ _ (ap (λ (r : HostRefreshed). r.image) is) (taken_valid inv.valid))

      no : (refresh_refusal w.abstract k (eqb (length lent) 17_840) ≡ 0 → ⊥) × (accepts w.abstract k (eqb (length lent) 17_840) ≡ none)
          → Leaves (state_of image) k (accepts w.abstract k (eqb (length lent) 17_840)) (mirror_floats lent) (mirror_floats (ff_refresh image k lent 0).out.mirror) (in_image old (ff_refresh image k lent 0).out.image)
      no n =
          let is = host_refresh_old image k lent a.taken (λ (e : ff_refresh_number k lent (state_of image) ≡ 0). n.0 (sym number ∙ e)) in
          refuses n.1 (ap (λ (r : HostRefreshed). mirror_floats r.mirror) is) (stays _ (ap (λ (r : HostRefreshed). r.image) is))

  -- what demand 3 asks of a host's call on this image
  pub record HostKeeps (h : HostCall) : Type 0 where
    pub mirror : (m : List Float) → host_mirror h ≡ some m → m ≡ w.track.mirror
    pub lent : (k : FfVsKey) → host_key w.abstract h ≡ some k → host_mirror h ≡ none → ⊥
    pub marked : (k : FfVsKey) → host_key w.abstract h ≡ some k → Marked w.track k

  lends : (k : FfVsKey) (l : Lent ℕ) → HostKeeps (refreshes k l) → Lends mirror_floats w.track k (accepts w.abstract k (eqb (length (slice l)) 17_840)) l
  unfolding host_mirror host_key
  lends k l c = record { mirror = c.mirror; lent = c.lent k; marked = c.marked k }

  host_good : (h : HostCall) → HostTyped h → HostKeeps h → Good (host_step ours h w)
  unfolding host_step host_key
  host_good (operates h) fit c = operation_good h fit
  host_good (refreshes k l) fit c = refresh_good mirror_floats inv l (lends k l c) (host_refresh_leaves k fit.0 (slice l))
  host_good Calls.HostCall.reads fit c = (state_of image, after_standing inv _ (stays image refl))

  host_right : (h : HostCall) → HostTyped h → HostKeeps h → (k : FfVsKey) → host_key w.abstract h ≡ some k → Right (host_step ours h w) k
  unfolding host_step host_key
  host_right (operates h) fit c k e = not_some e
  host_right (refreshes j l) fit c k e =
      let same = accepts_same w.abstract j k (eqb (length (slice l)) 17_840) e in
      subst (Right (host_step ours (refreshes j l) w)) same
      (refreshed_right mirror_floats inv l (lends j l c) (host_refresh_leaves j fit.0 (slice l)) (e ∙ ap some (sym same)))
  host_right Calls.HostCall.reads fit c k e = not_some e

-- ---- every call

-- an image that is read in
handed_good : (w : World) → Good w → (bytes : List ℕ) → Bytes bytes → refused bytes ≡ false → Good (handed bytes w)
handed_good w g bytes b ok =
    let a : IsAccepted bytes = record { each = b; taken = ok } in
    (state_of bytes, after_image g.1 bytes a (in_image (held w.stored) bytes) (a, refl))

read_good : (w : World) → Good w → (bytes : List ℕ) → Bytes bytes → Good (step ours (read_in bytes) w)
unfolding step read_image
read_good w g bytes b = go (refused bytes) refl
  where
    go : (t : Bool) → refused bytes ≡ t → Good (step ours (read_in bytes) w)
    go true q = rw q (as_state w.stored, after_standing (by-value g.1) _ refl)
    go false q =
        let a : IsAccepted bytes = record { each = b; taken = q } in
        rw q (state_of bytes, after_image g.1 bytes a (value (state_of bytes)) refl)

abbrev KeepsTo : World → Call → Type 0
KeepsTo w c = Keeps w.track (accepted_key w c) c

marked_is : {t : Track} {o : Option FfVsKey} {c : Call} → Keeps t o c → (k : FfVsKey) → o ≡ some k → Marked t k
marked_is kept k e = record { shape = λ j q n. kept.shape j k q e n; image = (kept.image k e).1 }

host_keeps : {w : World} (g : Good w) (h : HostCall) → KeepsTo w (host h) → HostKeeps (image_accepted g.1) (by-host g.1) h
unfolding accepted_key lent_mirror
host_keeps g h kept = record { mirror = kept.mirror; lent = kept.lent; marked = marked_is kept }

-- a host's call on another image is no accepted refresh: the image that it reads in would be unmarked
on_another : {w : World} (bytes : List ℕ) (b : Bytes bytes) (ok : refused bytes ≡ false) (g : Good w) (h : HostCall) → KeepsTo w (host_on bytes h)
    → HostKeeps (image_accepted (handed_good w g bytes b ok).1) (by-host (handed_good w g bytes b ok).1) h
unfolding accepted_key lent_mirror image_read track_read_in
on_another bytes b ok g h kept =
    record {
      mirror = kept.mirror;
      lent = λ k e. kept.lent k (rw ok e);
      marked = λ k e. absurd ((kept.image k (rw ok e)).0 tt);
    }

-- on bytes that are no image a refresh leaves the slice that it was lent
unread_good : (bytes : List ℕ) → refused bytes ≡ true → {w : World} → Good w → (h : HostCall) → KeepsTo w (host_on bytes h) → Good (unread ours bytes h w)
unfolding unread leaving slice lent_mirror host_mirror of_mirror
unread_good bytes bad g (operates h) kept = g
unread_good bytes bad g (refreshes k (the_mirror m)) kept =
    (g.0, after_left g.1 _ (ap (λ (r : Answer HostRefreshed). mirror_floats r.out.mirror) (sym (refresh_nine bytes k m 0 bad)) ∙ kept.mirror (mirror_floats m) refl))
unread_good bytes bad g (refreshes k (another m)) kept = g
unread_good bytes bad g Calls.HostCall.reads kept = g

value_lends : (w : World) (k : FfVsKey) (l : Lent Float) → KeepsTo w (refresh k l) → Lends (λ m. m) w.track k (accepts w.abstract k (eqb (length (slice l)) 4460)) l
unfolding accepted_key lent_mirror
value_lends w k l kept = record { mirror = kept.mirror; lent = kept.lent k; marked = marked_is kept k }

pub step_good : (c : Call) (w : World) → Admits w c → Good w → Good (step ours c w)
unfolding step accepted_key
step_good (own op) w (fit, kept) g = ((operate (as_state w.stored) op).state, after_operated (by-value g.1) op fit _ refl)
step_good (read_in bytes) w (fit, kept) g = read_good w g bytes fit
step_good (refresh k l) w (fit, kept) g = refresh_good (λ m. m) (by-value g.1) l (value_lends w k l kept) (value_leaves (by-value g.1) k fit (slice l))
step_good (overwrite r x y z t) w (fit, kept) g = (g.0, after_overwrite g.1 r x y z t)
step_good (host h) w (fit, kept) g = host_good (image_accepted g.1) (by-host g.1) h fit (host_keeps g h kept)
step_good (host_on bytes h) w (fit, kept) g =
    branch Good (refused bytes) _ _ (λ q. unread_good bytes q g h kept)
    (λ ok.
    let there = handed_good w g bytes fit.0 ok in
    host_good (image_accepted there.1) (by-host there.1) h fit.1 (on_another bytes fit.0 ok g h kept))
step_good Calls.Call.reads w (fit, kept) g = g

-- right after an accepted refresh
step_right : (c : Call) (w : World) → Admits w c → Good w → (k : FfVsKey) → accepted_key w c ≡ some k → Right (step ours c w) k
unfolding step accepted_key
step_right (own op) w (fit, kept) g k e = not_some e
step_right (read_in bytes) w (fit, kept) g k e = not_some e
step_right (refresh j l) w (fit, kept) g k e =
    let same = accepts_same w.abstract j k (eqb (length (slice l)) 4460) e in
    subst (Right (step ours (refresh j l) w)) same
    (refreshed_right (λ m. m) (by-value g.1) l (value_lends w j l kept) (value_leaves (by-value g.1) j fit (slice l)) (e ∙ ap some (sym same)))
step_right (overwrite r x y z t) w (fit, kept) g k e = not_some e
step_right (host h) w (fit, kept) g k e = host_right (image_accepted g.1) (by-host g.1) h fit (host_keeps g h kept) k e
step_right (host_on bytes h) w (fit, kept) g k e = absurd ((kept.image k e).0 tt)
step_right Calls.Call.reads w (fit, kept) g k e = not_some e

-- ---- every list

after_all : (calls : List Call) (w : World) → Good w → (c : Call) → Admissible ours w (calls ++ c ∷ []) → Good (run ours calls w) × Admits (run ours calls w) c
unfolding run
after_all [] w g c admissible = (g, admissible.0)
after_all (b ∷ calls) w g c admissible = after_all calls (step ours b w) (step_good b w admissible.0 g) c admissible.1

-- what holds before the last call of an admissible list
pub before_last : (m : List Float) → length m ≡ 4460 → (calls : List Call) (c : Call) → Admissible ours (start m) (calls ++ c ∷ [])
    → Good (run ours calls (start m)) × Admits (run ours calls (start m)) c
before_last m long calls c admissible = after_all calls (start m) (fresh_state, begins m long) c admissible

pub always_right : AlwaysRight ours
always_right m long calls c k admissible e =
    let there = before_last m long calls c admissible in
    step_right c (run ours calls (start m)) there.1 there.0 k e
