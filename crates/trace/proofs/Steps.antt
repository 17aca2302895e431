-- What a refresh leaves of the track, whatever the refresh is: accepted, its key, the rows under it, nothing marked and nothing to mark, exemptions as they were; the mirror as it left its slice, refused too.
-- Assumes nothing.
use Prim.Native.Nat.{ℕ}
use mathlib.Core.Path.{◌≡◌, refl}
use mathlib.Core.Bool.{false}
use mathlib.Core.List.{List}
use mathlib.Core.Option.{Option, none, some}
use lib.Ieee.{Float}
use Rattle.sections.specs.declared.sections.Section.{Section}
use Rattle.sections.specs.declared.key.FfVsKey.{FfVsKey}
use Rattle.d3d9_model.specs.Operations.{Operation, abstract_step}
use Rattle.ff_state.specs.Operate.{operate}
use Rattle.refresh_calls.specs.Written.{mirror_floats}
use Rattle.trace.specs.Calls.{Lent, the_mirror, another, slice, refreshes, own, refresh, host}
use Rattle.trace.specs.Count.{rows_under}
use Rattle.trace.specs.World.{World, Stored, value, as_state, as_image, with_mirror, track_marked, track_refreshed, standing, tracking, marks, operated, refreshed_if}
use Rattle.trace.specs.Step.{Refresher, accepted_key, leaving, host_step, step, unread}

-- between the worlds before and after
pub record AfterRefresh (w v : World) (k : FfVsKey) : Type 0 where
  pub last : v.track.last_key ≡ some k
  pub rows : (σ : Section) → v.track.rows_at_last_refresh σ ≡ rows_under k w.abstract σ
  pub exempt : (σ : Section) → v.track.exempt σ ≡ w.track.exempt σ
  pub marked : (σ : Section) → v.track.marked σ ≡ false
  pub needs : (σ : Section) → v.track.needs_marking σ ≡ false
  pub abstract : v.abstract ≡ w.abstract

after : {A : Type 0} (w : World) (k : FfVsKey) (l : Lent A) (m : List Float) (h : Stored) → AfterRefresh w (standing h (refreshed_if (some k) (leaving l m w))) k
unfolding standing refreshed_if leaving tracking with_mirror track_refreshed
after w k (the_mirror x) m h = record { last = refl; rows = λ σ. refl; exempt = λ σ. refl; marked = λ σ. refl; needs = λ σ. refl; abstract = refl }
after w k (another x) m h = record { last = refl; rows = λ σ. refl; exempt = λ σ. refl; marked = λ σ. refl; needs = λ σ. refl; abstract = refl }

pub refresh_after : (R : Refresher) (w : World) (k : FfVsKey) (l : Lent Float) → accepted_key w (refresh k l) ≡ some k → AfterRefresh w (step R (refresh k l) w) k
unfolding step
refresh_after R w k l e = rw e (after w k l _ _)

pub host_refresh_after : (R : Refresher) (w : World) (k : FfVsKey) (l : Lent ℕ) → accepted_key w (host (refreshes k l)) ≡ some k → AfterRefresh w (step R (host (refreshes k l)) w) k
unfolding step host_step accepted_key
host_refresh_after R w k l e = rw e (after w k l _ _)

-- "as the last one returned or left it": lent the mirror, a refresh leaves there what it left in the slice, accepted or refused
left_there : {A : Type 0} (o : Option FfVsKey) (l : List A) (m : List Float) (h : Stored) (w : World) → (standing h (refreshed_if o (leaving (the_mirror l) m w))).track.mirror ≡ m
unfolding standing refreshed_if leaving tracking with_mirror track_refreshed
left_there none l m h w = refl
left_there (some k) l m h w = refl

module _ (R : Refresher) (w : World) (k : FfVsKey) where
  pub refresh-mirror : (m : List Float) → (step R (refresh k (the_mirror m)) w).track.mirror ≡ (R.by_value (as_state w.stored) k m).floats
  unfolding step slice
  refresh-mirror m = left_there _ m _ _ w

  pub host_refresh_mirror : (m : List ℕ) → (step R (host (refreshes k (the_mirror m))) w).track.mirror ≡ mirror_floats (R.by_host (as_image w.stored) k m 0).out.mirror
  unfolding step host_step slice
  host_refresh_mirror m = left_there _ m _ _ w

-- on bytes that are no image too
pub unread_mirror : (R : Refresher) (bytes : List ℕ) (w : World) (k : FfVsKey) (m : List ℕ) → (unread R bytes (refreshes k (the_mirror m)) w).track.mirror ≡ mirror_floats (R.by_host bytes k m 0).out.mirror
unfolding unread leaving tracking with_mirror slice
unread_mirror R bytes w k m = refl

-- where the state stands afterwards, accepted or not
pub refresh_stored : (R : Refresher) (w : World) (k : FfVsKey) (l : Lent Float) → (step R (refresh k l) w).stored ≡ value (R.by_value (as_state w.stored) k (slice l)).result.state
unfolding step standing
refresh_stored R w k l = refl

-- ---- an operation by value

pub own_stored : (R : Refresher) (w : World) (op : Operation) → (step R (own op) w).stored ≡ value (operate (as_state w.stored) op).state
unfolding step standing
own_stored R w op = refl

pub own_abstract : (R : Refresher) (w : World) (op : Operation) → (step R (own op) w).abstract ≡ abstract_step w.abstract op
unfolding step standing operated
own_abstract R w op = refl

pub own_track : (R : Refresher) (w : World) (op : Operation) → (step R (own op) w).track ≡ track_marked (marks w.abstract op) w.track
unfolding step standing operated
own_track R w op = refl
