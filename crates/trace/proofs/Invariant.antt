-- What holds between two calls: the state that is stored is valid, agrees with the abstract one and, in an image, is accepted; the mirror has its length, and each section is tracked.
-- Assumes nothing.
use Prim.Native.Nat.{ℕ, ◌+◌, ◌*◌}
use mathlib.Core.Path.{◌≡◌, refl, sym, ap, subst, ◌∙◌}
use mathlib.Core.Logic.{⊎_elim}
use mathlib.Core.Bool.{true, false}
use mathlib.Core.List.{List}
use mathlib.Core.Option.{some}
use lib.Ieee.{Float}
use lib.ListN.{length, set, length-set}
use Rattle.lemmas.proofs.Tests.{never}
use Rattle.ff_state.specs.Dirty.{take_ff_vs_dirty}
use Rattle.sections.specs.Sections.{sections}
use Rattle.ff_state.specs.State.{fresh_state, dirty_word}
use Rattle.ff_state.specs.Valid.{Valid}
use Rattle.sections.specs.declared.sections.Section.{Section}
use Rattle.ff_state.specs.declared.state.FfState.{FfState}
use Rattle.image_reasons.specs.Reasons.{refused}
use Rattle.image.specs.Format.{image_bytes}
use Rattle.image.specs.Read.{state_of, read_image}
use Rattle.image_laws.specs.Exactly.{IsAccepted}
use Rattle.image_laws.proofs.AcceptedValid.{accepted_valid}
use Rattle.image_laws.proofs.Exactly.{image-bytes}
use Rattle.image_laws.proofs.ReadWritten.{read_written}
use Rattle.image_laws.proofs.ValidAccepted.{valid_accepted}
use Rattle.sections.specs.declared.key.FfVsKey.{FfVsKey}
use Rattle.d3d9_model.specs.Operations.{Operation}
use Rattle.agreement.specs.Agrees.{Agrees}
use Rattle.ff_state.specs.Operate.{operate, OperationFits}
use Rattle.agreement.proofs.Marks.{fresh_dirty}
use Rattle.agreement.proofs.Dirty.{taken_valid, taken_agrees}
use Rattle.agreement.proofs.Fresh.{fresh_valid, fresh_agrees}
use Rattle.agreement.proofs.Kept.{valid_kept, agrees_kept}
use Rattle.image_agreement.proofs.ImageAgrees.{image_agrees}
use Rattle.refresh.specs.Written.{written}
use Rattle.refresh.proofs.Holding.{written-length}
use Rattle.refresh.proofs.Packed.{Ready}
use Rattle.trace.specs.World.{World, Stored, value, in_image, as_state, as_image, fresh_track, with_mirror, start, standing, tracking, operated, image_read, refreshed_if, row_set, track_marked, track_read_in, track_refreshed, track_overwritten, wrong_rows}
use Rattle.trace.proofs.Counted.{holds_count}
use Rattle.trace.proofs.Tracked.{Tracked, dirty, Marked, operation_tracked, image_tracked, overwrite_tracked, refresh_rights, refresh_tracked}

-- the state s is what is stored
abbrev pub Stands : Stored → FfState → Type 0
Stands (value t) s = t ≡ s
Stands (in_image t bytes) s = IsAccepted bytes × (state_of bytes ≡ s)

pub record Invariant (w : World) (s : FfState) : Type 0 where
  pub stands : Stands w.stored s
  pub agrees : Agrees s w.abstract
  pub valid : Valid s
  pub whole : length w.track.mirror ≡ 4460
  pub tracked : (σ : Section) → Tracked s w.abstract w.track σ

-- ---- the state as a call by value gets it, and as a host's call gets it

read_is : (t : FfState) (bytes : List ℕ) → refused bytes ≡ false → (read_image t bytes).state ≡ state_of bytes
unfolding read_image
read_is t bytes ok = rw ok

as-state : (h : Stored) (s : FfState) → Stands h s → s ≡ as_state h
unfolding as_state
as-state (value t) s e = sym e
as-state (in_image t bytes) s e = sym (read_is t bytes e.0.taken ∙ e.1)

-- a valid state is written as an image that reads as it
pub writing_stands : (t s : FfState) → Valid s → Stands (in_image t (image_bytes s)) s
writing_stands t s v = (record { each = image-bytes s; taken = valid_accepted s v }, read_written s v)

as-image : (h : Stored) (t s : FfState) → Valid s → Stands h s → Stands (in_image t (as_image h)) s
unfolding as_image
as-image (value u) t s v e = subst (λ (x : FfState). Stands (in_image t (image_bytes x)) s) (sym e) (writing_stands t s v)
as-image (in_image u bytes) t s v e = e

pub by-value : {w : World} {s : FfState} → Invariant w s → Invariant w (as_state w.stored)
by-value {w} {s} inv = subst (Invariant w) (as-state w.stored s inv.stands) inv

module _ {w : World} {s : FfState} (inv : Invariant w s) where
  pub image_accepted : IsAccepted (as_image w.stored)
  image_accepted = (as-image w.stored s s inv.valid inv.stands).0

  pub by-host : Invariant w (state_of (as_image w.stored))
  by-host = subst (Invariant w) (sym (as-image w.stored s s inv.valid inv.stands).1) inv

-- ---- the start

pub begins : (m : List Float) → length m ≡ 4460 → Invariant (start m) fresh_state
unfolding start fresh_track
begins m long = record { stands = refl; agrees = fresh_agrees; valid = fresh_valid; whole = long; tracked = λ σ. dirty (fresh_dirty.1 σ) }

-- ---- each change of the world

pub after_image : {w : World} {s : FfState} → Invariant w s → (bytes : List ℕ) → IsAccepted bytes → (h : Stored) → Stands h (state_of bytes)
    → Invariant (image_read h bytes w) (state_of bytes)
unfolding image_read track_read_in
after_image {w} inv bytes a h st =
    record {
      stands = st;
      agrees = image_agrees bytes a.taken;
      valid = accepted_valid bytes a.each a.taken;
      whole = inv.whole;
      tracked = λ σ. image_tracked (state_of bytes) _ w.track σ;
    }

module _ {w : World} {s : FfState} (inv : Invariant w s) where
  pub after_operated : (op : Operation) → OperationFits op → (h : Stored) → Stands h (operate s op).state → Invariant (standing h (operated op w)) (operate s op).state
  unfolding standing operated track_marked
  after_operated op fit h st =
      record {
        stands = st;
        agrees = agrees_kept inv.valid inv.agrees op fit;
        valid = valid_kept inv.valid op fit;
        whole = inv.whole;
        tracked = λ σ. operation_tracked inv.valid inv.agrees op fit w.track σ (inv.tracked σ);
      }

  pub after_standing : (h : Stored) → Stands h s → Invariant (standing h w) s
  unfolding standing
  after_standing h st = record { stands = st; agrees = inv.agrees; valid = inv.valid; whole = inv.whole; tracked = inv.tracked }

  row_long : (r : ℕ) (x y z t : Float) (m : List Float) → length (row_set r x y z t m) ≡ length m
  unfolding row_set
  row_long r x y z t m =
      let a = set m (4 * r) x in
      let b = set a (4 * r + 1) y in
      let d = set b (4 * r + 2) z in
      length-set d (4 * r + 3) t ∙ length-set b (4 * r + 2) z ∙ length-set a (4 * r + 1) y ∙ length-set m (4 * r) x

  pub after_overwrite : (r : ℕ) (x y z t : Float) → Invariant (tracking (track_overwritten r x y z t w.track) w) s
  unfolding tracking track_overwritten
  after_overwrite r x y z t =
      record {
        stands = inv.stands;
        agrees = inv.agrees;
        valid = inv.valid;
        whole = row_long r x y z t w.track.mirror ∙ inv.whole;
        tracked = λ σ. overwrite_tracked s w.abstract w.track r x y z t σ (inv.tracked σ);
      }

  -- a refused refresh that was lent the mirror leaves it as it was
  pub after_left : (m : List Float) → m ≡ w.track.mirror → Invariant (tracking (with_mirror m w.track) w) s
  unfolding tracking with_mirror
  after_left m e = subst (λ (x : List Float). Invariant (tracking (with_mirror x w.track) w) s) (sym e) same
    where
      same : Invariant (tracking (with_mirror w.track.mirror w.track) w) s
      same = record { stands = inv.stands; agrees = inv.agrees; valid = inv.valid; whole = inv.whole; tracked = inv.tracked }

  -- a refresh that is accepted and was lent the mirror, the list having marked what it has to
  module _ (k : FfVsKey) (ready : Ready s k) (kept : Marked w.track k) (h : Stored) where
    abbrev after : List Float
    after = written sections (dirty_word s) s k w.track.mirror

    abbrev refreshed : List Float → World
    refreshed m = standing h (refreshed_if (some k) (tracking (with_mirror m w.track) w))

    refreshed_so : Stands h (take_ff_vs_dirty s).state → Invariant (refreshed after) (take_ff_vs_dirty s).state
    unfolding standing refreshed_if tracking with_mirror track_refreshed
    refreshed_so st =
        record {
          stands = st;
          agrees = taken_agrees inv.agrees;
          valid = taken_valid inv.valid;
          whole = written-length ready (dirty_word s) sections w.track.mirror inv.whole;
          tracked = λ σ. refresh_tracked inv.valid inv.agrees w.track k ready inv.whole kept σ (inv.tracked σ) (take_ff_vs_dirty s).state;
        }

    pub after_refresh : (m : List Float) → m ≡ after → Stands h (take_ff_vs_dirty s).state → Invariant (refreshed m) (take_ff_vs_dirty s).state
    after_refresh m is st = subst (λ (x : List Float). Invariant (refreshed x) (take_ff_vs_dirty s).state) (sym is) (refreshed_so st)

    -- every section that is not exempt has the count 0
    pub refresh_right : (m : List Float) → m ≡ after → (σ : Section) → (refreshed m).track.exempt σ ≡ false → wrong_rows (refreshed m) k σ ≡ 0
    unfolding standing refreshed_if tracking with_mirror track_refreshed
    refresh_right m is σ off =
        ap (λ (x : List Float). wrong_rows (refreshed x) k σ) is
        ∙ ⊎_elim
        (λ (on : w.track.exempt σ ≡ true). never (sym on ∙ off))
        (holds_count after k w.abstract σ)
        (refresh_rights inv.valid inv.agrees w.track k ready inv.whole kept σ (inv.tracked σ))
