-- What is known of each section between two calls, and that each call keeps it: it is to be written by the next refresh, or the list still has to mark it, or it was hit, or it is right.
-- Assumes nothing.
use Prim.Native.Nat.{ℕ, ◌+◌, ◌*◌, ◌≤◌, ◌<◌}
use native.Mathlib.Omega.{arith}
use mathlib.Core.Path.{◌≡◌, refl, sym, ap, subst, ◌∙◌}
use mathlib.Core.Logic.{◌⊎◌, inl, inr, ⊎_elim}
use mathlib.Core.Bool.{Bool, true, false, or-true}
use mathlib.Core.List.{List}
use mathlib.Core.Option.{some}
use lib.Dec.{leb}
use lib.Ieee.{Float, nan}
use lib.ListN.{length, set}
use lib.Seq.{get_or-set_other}
use borrow.Author.Tests.{ltb-false, leb-false}
use Rattle.lemmas.proofs.Tests.{never, test}
use Rattle.d3d9_types.specs.declared.matrix.Row.{Row}
use Rattle.ff_state.specs.State.{dirty_word}
use Rattle.ff_state.specs.Inputs.{same_inputs}
use Rattle.sections.specs.Sections.{sections, has_section}
use Rattle.ff_state.specs.Valid.{Valid}
use Rattle.sections.specs.declared.sections.Section.{Section}
use Rattle.ff_state.specs.declared.state.FfState.{FfState}
use Rattle.rows.specs.Rows.{floats}
use Rattle.rows.proofs.Floats.{length-floats}
use Rattle.sections.specs.Key.{SameShape}
use Rattle.sections.specs.Sections.{first_row}
use Rattle.sections.specs.declared.key.FfVsKey.{FfVsKey}
use Rattle.packing.specs.Inputs.{packed_rows}
use Rattle.packing.proofs.Depends.{same_rows, same_count, shape_rows, shape_count}
use Rattle.d3d9_model.specs.State.{AbstractState}
use Rattle.d3d9_model.specs.Operations.{Operation, abstract_step}
use Rattle.agreement.specs.Agrees.{Agrees}
use Rattle.ff_state.specs.Operate.{operate, OperationFits}
use Rattle.agreement.proofs.Kept.{valid_kept, agrees_kept}
use Rattle.packing_agreement.specs.Abstract.{abstract_inputs, abstract_rows}
use Rattle.packing_agreement.proofs.Agreement.{inputs_agree, rows_agree}
use Rattle.refresh.specs.Written.{first_float, written}
use Rattle.refresh.proofs.Packed.{Ready, rows-length}
use Rattle.refresh.proofs.Parts.{Holds}
use Rattle.refresh.proofs.Holding.{every_in, written_off, written_on}
use Rattle.trace.specs.Count.{rows_under}
use Rattle.trace.specs.World.{Track, with_mirror, track_marked, track_read_in, track_refreshed, is_row, hits, row_set, track_overwritten, marks}
use Rattle.trace.proofs.Marks.{Unmarked, left_clean}
use Rattle.trace.proofs.Shapes.{same_shape}
use Rattle.packing.specs.Pack.{input_rows, state_count}

-- the floats of a section's packing of the abstract state
abbrev pub abstract_floats : Section → AbstractState → FfVsKey → List Float
abstract_floats σ a k = floats (abstract_rows σ a k)

-- the section is right under a key
pub record Right (a : AbstractState) (t : Track) (σ : Section) (k : FfVsKey) : Type 0 where
  pub last : t.last_key ≡ some k
  pub rows : t.rows_at_last_refresh σ ≡ rows_under k a σ
  pub whole : rows_under k a σ ≡ input_rows σ k (abstract_inputs a)
  pub holds : Holds t.mirror (first_float σ) (abstract_floats σ a k)

-- of a state, the abstract one and what is kept of a mirror
pub data Tracked (s : FfState) (a : AbstractState) (t : Track) (σ : Section) : Type 0 where
  dirty : has_section (dirty_word s) σ ≡ true → Tracked s a t σ
  unread : t.needs_marking σ ≡ true → Tracked s a t σ
  hit : t.marked σ ≡ false → t.exempt σ ≡ true → Tracked s a t σ
  right : t.marked σ ≡ false → (k : FfVsKey) → Right a t σ k → Tracked s a t σ

-- ---- an operation

module _ {s : FfState} {a : AbstractState} (v : Valid s) (g : Agrees s a) (op : Operation) (fit : OperationFits op) (t : Track) (σ : Section) where
  rows_stay : same_inputs σ s (operate s op).state → (k : FfVsKey) → abstract_rows σ a k ≡ abstract_rows σ (abstract_step a op) k
  unfolding abstract_rows
  rows_stay e k =
      sym (ap (packed_rows σ k) (inputs_agree v g))
      ∙ same_rows s (operate s op).state k σ e
      ∙ ap (packed_rows σ k) (inputs_agree (valid_kept v op fit) (agrees_kept v g op fit))

  counts_stay : same_inputs σ s (operate s op).state → (k : FfVsKey) → input_rows σ k (abstract_inputs a) ≡ input_rows σ k (abstract_inputs (abstract_step a op))
  counts_stay e k =
      sym (ap (input_rows σ k) (inputs_agree v g))
      ∙ same_count s (operate s op).state k σ e
      ∙ ap (input_rows σ k) (inputs_agree (valid_kept v op fit) (agrees_kept v g op fit))

  pub operation_tracked : Tracked s a t σ → Tracked (operate s op).state (abstract_step a op) (track_marked (marks a op) t) σ
  unfolding track_marked
  operation_tracked was = go (test (has_section (dirty_word (operate s op).state) σ))
    where
      pass : Unmarked s a op σ → Tracked s a t σ → Tracked (operate s op).state (abstract_step a op) (track_marked (marks a op) t) σ
      pass u (dirty e) = never (sym e ∙ u.clean)
      pass u (unread e) = unread (rw (e, u.unmarked))
      pass u (hit m e) = hit (rw (m, u.unmarked)) (rw (e, u.unmarked))
      pass u (right m k r) =
          let e : abstract_rows σ a k ≡ abstract_rows σ (abstract_step a op) k = rows_stay u.inputs k in
          right (rw (m, u.unmarked)) k
          (record {
            last = r.last;
            rows = r.rows ∙ ap (λ (x : List Row). length x) e;
            whole = ap (λ (x : List Row). length x) (sym e) ∙ r.whole ∙ counts_stay u.inputs k;
            holds = subst (λ (x : List Row). Holds t.mirror (first_float σ) (floats x)) e r.holds;
          })

      go : (has_section (dirty_word (operate s op).state) σ ≡ true) ⊎ (has_section (dirty_word (operate s op).state) σ ≡ false)
          → Tracked (operate s op).state (abstract_step a op) (track_marked (marks a op) t) σ
      go (inl on) = dirty on
      go (inr off) = pass (left_clean v g op σ off) was

-- ---- an image that is read in

pub image_tracked : (s : FfState) (a : AbstractState) (t : Track) (σ : Section) → Tracked s a (track_read_in t) σ
unfolding track_read_in
image_tracked s a t σ = unread refl

-- ---- a row that is overwritten

-- a row that a section did not have is before or behind it
missed : (r : ℕ) (σ : Section) (n : ℕ) → is_row r σ n ≡ false → (r < first_row σ) ⊎ (first_row σ + n ≤ r)
unfolding is_row
missed r σ n e = go (leb (first_row σ) r) refl
  where
    go : (t : Bool) → leb (first_row σ) r ≡ t → (r < first_row σ) ⊎ (first_row σ + n ≤ r)
    go true q = inr (ltb-false r (first_row σ + n) (rw q at e))
    go false q = inl (leb-false (first_row σ) r q)

module _ (m p : List Float) (r f n : ℕ) (x y z u : Float) (full : length p ≡ 4 * n) (c : (r < f) ⊎ (f + n ≤ r)) where
  other : (j i : ℕ) → j < length p → i < 4 → 4 * f + j ≡ 4 * r + i → ⊥
  other j i small few e = ⊎_elim (λ (q : r < f). omega (arith, q, e, few)) (λ (q : f + n ≤ r). omega (arith, q, e, full, small)) c

  overwrite_holds : Holds m (4 * f) p → Holds (row_set r x y z u m) (4 * f) p
  unfolding row_set
  overwrite_holds h j small =
      let a = set m (4 * r) x in
      let b = set a (4 * r + 1) y in
      let d = set b (4 * r + 2) z in
      get_or-set_other d (4 * r + 3) (4 * f + j) u nan (other j 3 small (omega arith))
      ∙ get_or-set_other b (4 * r + 2) (4 * f + j) z nan (other j 2 small (omega arith))
      ∙ get_or-set_other a (4 * r + 1) (4 * f + j) y nan (other j 1 small (omega arith))
      ∙ get_or-set_other m (4 * r) (4 * f + j) x nan (λ (e : 4 * f + j ≡ 4 * r). other j 0 small (omega arith) (omega (arith, e)))
      ∙ h j small

pub hits_is : (r : ℕ) (t : Track) (σ : Section) (k : FfVsKey) → t.last_key ≡ some k → hits r t σ ≡ is_row r σ (t.rows_at_last_refresh σ)
unfolding hits
hits_is r t σ k e = rw e

pub overwrite_tracked : (s : FfState) (a : AbstractState) (t : Track) (r : ℕ) (x y z u : Float) (σ : Section) → Tracked s a t σ → Tracked s a (track_overwritten r x y z u t) σ
unfolding track_overwritten
overwrite_tracked s a t r x y z u σ (dirty e) = dirty e
overwrite_tracked s a t r x y z u σ (unread e) = unread e
overwrite_tracked s a t r x y z u σ (hit m e) = hit m (rw e)
overwrite_tracked s a t r x y z u σ (right m k h) = go (test (is_row r σ (t.rows_at_last_refresh σ)))
  where
    go : (is_row r σ (t.rows_at_last_refresh σ) ≡ true) ⊎ (is_row r σ (t.rows_at_last_refresh σ) ≡ false) → Tracked s a (track_overwritten r x y z u t) σ
    go (inl q) = hit m (rw (hits_is r t σ k h.last ∙ q) (or-true (t.exempt σ)))
    go (inr q) =
        right m k
        (record {
          last = h.last;
          rows = h.rows;
          whole = h.whole;
          holds =
              overwrite_holds t.mirror (abstract_floats σ a k) r (first_row σ) (t.rows_at_last_refresh σ) x y z u
              (length-floats (abstract_rows σ a k) ∙ ap (λ (n : ℕ). 4 * n) (sym h.rows))
              (missed r σ (t.rows_at_last_refresh σ) q) h.holds;
        })

-- ---- a refresh that is accepted

-- the list has marked what it has to before a refresh under the key
pub record Marked (t : Track) (k : FfVsKey) : Type 0 where
  pub shape : (j : FfVsKey) → t.last_key ≡ some j → (SameShape j k → ⊥) → (σ : Section) → t.marked σ ≡ true
  pub image : (σ : Section) → t.needs_marking σ ≡ false

module _ {s : FfState} {a : AbstractState} (v : Valid s) (g : Agrees s a) (t : Track) (k : FfVsKey) (ready : Ready s k) (long : length t.mirror ≡ 4460) (kept : Marked t k) (σ : Section) where
  abbrev after : List Float
  after = written sections (dirty_word s) s k t.mirror

  shape_floats : (j : FfVsKey) → SameShape j k → abstract_floats σ a j ≡ abstract_floats σ a k
  unfolding abstract_rows
  shape_floats j e = ap floats (shape_rows e (abstract_inputs a) σ)

  same_holds : (j : FfVsKey) → SameShape j k → has_section (dirty_word s) σ ≡ false → Right a t σ j → Holds after (first_float σ) (abstract_floats σ a k)
  same_holds j e off r =
      let full : length (abstract_floats σ a j) ≡ 4 * state_count σ s k =
      length-floats (abstract_rows σ a j) ∙ ap (λ (n : ℕ). 4 * n) (r.whole ∙ shape_count e σ (abstract_inputs a).texture_mask ∙ sym (ap (input_rows σ k) (inputs_agree v g))) in
      subst (λ (p : List Float). Holds after (first_float σ) p) (shape_floats j e)
      (written_off ready (dirty_word s) sections σ off t.mirror (abstract_floats σ a j) long full
      r.holds)

  -- a section is then right, unless it is exempt
  pub refresh_rights : Tracked s a t σ → (t.exempt σ ≡ true) ⊎ Holds after (first_float σ) (abstract_floats σ a k)
  refresh_rights was = go (test (has_section (dirty_word s) σ)) was
    where
      go : (has_section (dirty_word s) σ ≡ true) ⊎ (has_section (dirty_word s) σ ≡ false) → Tracked s a t σ
          → (t.exempt σ ≡ true) ⊎ Holds after (first_float σ) (abstract_floats σ a k)
      go (inl on) was =
          inr (subst (λ (p : List Float). Holds after (first_float σ) p) (rows_agree v g σ k) (written_on ready (dirty_word s) sections σ (every_in σ) on t.mirror long))
      go (inr off) (dirty e) = never (sym e ∙ off)
      go (inr off) (unread e) = never (sym e ∙ kept.image σ)
      go (inr off) (hit m e) = inl e
      go (inr off) (right m j r) =
          ⊎_elim
          (λ (e : SameShape j k). inr (same_holds j e off r))
          (λ (n : SameShape j k → ⊥). never (sym (kept.shape j r.last n σ) ∙ m))
          (same_shape j k)

  rows_whole : rows_under k a σ ≡ input_rows σ k (abstract_inputs a)
  rows_whole =
      let p = rows-length ready σ in
      let e = ap (λ (x : List Float). length x) (rows_agree v g σ k) in
      let n = length-floats (abstract_rows σ a k) in
      let q = ap (input_rows σ k) (inputs_agree v g) in
      omega (arith, p, e, n, q)

  pub refresh_tracked : Tracked s a t σ → (u : FfState) → Tracked u a (track_refreshed k (rows_under k a) (with_mirror after t)) σ
  unfolding track_refreshed with_mirror
  refresh_tracked was u =
      ⊎_elim
      (λ (e : t.exempt σ ≡ true). hit refl e)
      (λ (e : Holds after (first_float σ) (abstract_floats σ a k)). right refl k (record { last = refl; rows = refl; whole = rows_whole; holds = e }))
      (refresh_rights was)
