-- The claim is false of a refresh that takes the bits and writes nothing, by value or by the host, and of one that is right while all is dirty and later only reports bits.
-- Assumes nothing.
use Prim.Native.Nat.{ℕ, zero, suc}
use native.Mathlib.Omega.{arith}
use mathlib.Core.Path.{◌≡◌, refl, sym, ap, subst, ◌∙◌}
use mathlib.Core.Bool.{Bool, true, false, cond, not, ◌&&◌}
use mathlib.Core.List.{List, [], ◌∷◌, ◌++◌}
use mathlib.Core.Option.{some}
use lib.Dec.{eqb}
use lib.IntN.{pos}
use lib.Ieee.{Float, nan, binary32, of_int, of_bits, is_nan, to_bits}
use lib.ListN.{length, get_or, replicate, length-replicate}
use borrow.Author.Tests.{eqb-true, eq-eqb}
use lib.Ieee.Fits.{of_int-fits}
use Rattle.d3d9_types.proofs.Fits.{identity_fits}
use Rattle.lemmas.proofs.Tests.{never, and_false}
use Rattle.d3d9_types.specs.Matrix.{identity, matrixFits}
use Rattle.d3d9_types.specs.declared.matrix.D3DMATRIX.{D3DMATRIX}
use Rattle.codec.specs.Little.{Bytes, little_number}
use Rattle.codec.specs.Float.{float_at}
use Rattle.image_lists.specs.Lists.{list_at}
use Rattle.matrix.specs.Entry.{column, row}
use Rattle.matrix.specs.Transposition.{transposed}
use Rattle.ff_state.specs.Dirty.{dirtied, take_ff_vs_dirty}
use Rattle.ff_state.specs.State.{fresh_state, dirty_word}
use Rattle.ff_state.specs.Transforms.{slot_of, place_sections, placed, change_at}
use Rattle.ff_state.specs.Transforms as Transforms
use Rattle.sections.specs.Sections.{all_bits}
use Rattle.sections.specs.declared.sections.Section.TheVariants.{Proj}
use Rattle.ff_state.specs.declared.state.FfState.{FfState}
use Rattle.rows.specs.Rows.{floats, rows_of}
use Rattle.rows.specs.Matrices.{projection_rows}
use Rattle.sections.specs.declared.key.FfVsKey.{FfVsKey}
use Rattle.packing.specs.Inputs.{packed_rows, mask_accepted}
use Rattle.d3d9_model.specs.State.{AbstractState, fresh_abstract}
use Rattle.d3d9_model.specs.Operations.{Operation, set_transform, known, abstract_refusal, abstract_change, abstract_step}
use Rattle.packing_agreement.specs.Abstract.{abstract_inputs, abstract_rows}
use Rattle.ff_state.specs.Operate.{operate}
use Rattle.agreement.proofs.Fresh.{fresh_valid}
use Rattle.refresh.specs.Answer.{refresh_answer}
use Rattle.refresh.specs.Mirror.{RefreshOutcome, refreshed, refresh_mirror}
use Rattle.std.specs.Prelude.{Ok}
use Rattle.refresh.proofs.Laws as Laws
use Rattle.calls.specs.Answer.{Answer, answer}
use Rattle.refresh_calls.specs.Written.{mirror_floats}
use Rattle.refresh_calls.specs.Mirror.{HostRefreshed, left, ff_refresh}
use Rattle.trace.specs.Calls.{Call, the_mirror, slice, refreshes, own, refresh, host}
use Rattle.trace.specs.Count.{alike, alike_at, row_differs, count_below, differing}
use Rattle.trace.specs.World.{World, Track, Stored, as_state, fresh_track, with_mirror, track_marked, track_refreshed, start, standing, tracking, marks, refreshed_if, wrong_rows}
use Rattle.trace.specs.Step.{Refresher, refresh_refusal, accepts, accepted_key, ours, leaving, step, run}
use Rattle.trace.specs.Claim.{Admits, Admissible, AlwaysRight}
use Rattle.trace.proofs.Examples.{none_differs}
use Rattle.trace.proofs.Allowed.{accepted_is, host_accepted_is, refresh_may, host_refresh_may, first_marked, again_marked, set_transform_may}
use Rattle.trace.proofs.Always.{step_good, always_right}
use Rattle.trace.proofs.Invariant.{begins}
use Rattle.refresh_calls.proofs.MirrorBytes.{mirror_long}
use Rattle.trace.proofs.Steps.{AfterRefresh, refresh_after, host_refresh_after, refresh-mirror, host_refresh_mirror, refresh_stored, own_stored, own_abstract, own_track}
use Rattle.trace.proofs.Tracked.{Marked}

abbrev key : FfVsKey
key =
    record {
      has_rhw = false;
      lighting_enabled = false;
      specular_enable = false;
      vertex_blend_indexed = false;
      preview = false;
      light_active_mask = 0;
      fog_mode = 0;
      vertex_blend_count = 0;
    }

-- whatever the lights are
accepts_key : (a : AbstractState) → refresh_refusal a key true ≡ 0
unfolding refresh_refusal mask_accepted
accepts_key a = refl

-- ---- it answers as ours does and leaves the mirror as it was

abbrev untouched : FfState → FfVsKey → List Float → RefreshOutcome
untouched s k m = refreshed (refresh_mirror s k m).result m

abbrev writes_nothing : Refresher
writes_nothing = record { by_value = untouched; by_host = ff_refresh }

abbrev nans : List Float
nans = replicate 4460 nan

first_admissible : (R : Refresher) → Admissible R (start nans) ([] ++ refresh key (the_mirror nans) ∷ [])
unfolding start fresh_track
first_admissible R = (refresh_may (start nans) key (omega arith) (omega arith) (omega arith) (first_marked nans key), tt)

pub writes_nothing_refuted : AlwaysRight writes_nothing → ⊥
unfolding run step slice standing refreshed_if leaving tracking with_mirror track_refreshed start fresh_track accepted_key accepts refresh_refusal mask_accepted differing row_differs count_below alike_at alike abstract_rows abstract_inputs packed_rows fresh_abstract projection_rows transposed column row floats rows_of identity to_bits is_nan
writes_nothing_refuted claim =
    let none : ◌≡◌ {A = ℕ} 4 0 = claim nans refl [] (refresh key (the_mirror nans)) key (first_admissible writes_nothing) refl Proj refl in
    omega (arith, none)

-- the same by the host
abbrev host_untouched : List ℕ → FfVsKey → List ℕ → ℕ → Answer HostRefreshed
host_untouched image k bytes out = let r = ff_refresh image k bytes out in answer r.code (left r.out.image bytes r.out.bits)

abbrev host_writes_nothing : Refresher
host_writes_nothing = record { by_value = refresh_mirror; by_host = host_untouched }

abbrev zeros : List ℕ
zeros = replicate 17_840 0

abbrev zero_call : Call
zero_call = host (refreshes key (the_mirror zeros))

each_zero : (n i : ℕ) → ◌≡◌ {A = ℕ} (get_or (replicate n 0) i 0) 0
each_zero zero i = refl
each_zero (suc n) zero = refl
each_zero (suc n) (suc i) = each_zero n i

zeros_bytes : Bytes zeros
zeros_bytes i = omega (arith, each_zero 17_840 i)

zero_admissible : Admissible host_writes_nothing (start (mirror_floats zeros)) ([] ++ zero_call ∷ [])
unfolding start fresh_track
zero_admissible =
    (host_refresh_may (start (mirror_floats zeros)) key (omega arith) (omega arith) (omega arith) (first_marked (mirror_floats zeros) key) zeros zeros_bytes refl, tt)

zeros_differ : differing (mirror_floats zeros) key fresh_abstract Proj ≡ 4
unfolding differing row_differs count_below alike_at alike abstract_rows abstract_inputs packed_rows fresh_abstract projection_rows transposed column row floats rows_of identity to_bits is_nan float_at list_at little_number of_bits
zeros_differ = refl

pub host_writes_nothing_refuted : AlwaysRight host_writes_nothing → ⊥
unfolding run start fresh_track slice
host_writes_nothing_refuted claim =
    let m = mirror_floats zeros in
    let accepted = host_accepted_is (start m) key (the_mirror zeros) (length-replicate {A = ℕ} 17_840 0) (accepts_key fresh_abstract) in
    let after = host_refresh_after host_writes_nothing (start m) key (the_mirror zeros) accepted in
    let none = claim m (mirror_long zeros) [] zero_call key zero_admissible accepted Proj (after.exempt Proj) in
    let same : differing m key fresh_abstract Proj ≡ 0 =
    ap (λ (x : List Float). differing x key fresh_abstract Proj) (sym (host_refresh_mirror host_writes_nothing (start m) key zeros))
    ∙ ap (λ (a : AbstractState). differing (step host_writes_nothing zero_call (start m)).track.mirror key a Proj) (sym after.abstract) ∙ none in
    omega (arith, zeros_differ, same)

-- ---- it is right while all is dirty, and later only reports bits

abbrev later : FfState → FfVsKey → List Float → RefreshOutcome
later s k m = cond (eqb (dirty_word s) all_bits) (refresh_mirror s k m) (untouched s k m)

abbrev right_first : Refresher
right_first = record { by_value = later; by_host = ff_refresh }

-- a projection whose first number is 2
abbrev two : Float
two = of_int binary32 (pos 2)

abbrev turned : D3DMATRIX
turned =
    record {
      r0 = record { x = two; y = identity.r0.y; z = identity.r0.z; w = identity.r0.w };
      r1 = identity.r1;
      r2 = identity.r2;
      r3 = identity.r3;
    }

abbrev turned_abstract : AbstractState
turned_abstract = abstract_step fresh_abstract (set_transform 3 turned)

alike_bits : (x y : Float) → is_nan y ≡ false → alike x y ≡ true → to_bits binary32 x ≡ to_bits binary32 y
unfolding alike
alike_bits x y number e = eqb-true (to_bits binary32 x) (to_bits binary32 y) (rw (number, and_false (is_nan x)) at e)

-- no float is alike to 1 and to 2
one_or_two : (x : Float) → alike x identity.r0.x ≡ true → alike x two ≡ true → ⊥
unfolding identity is_nan to_bits of_int
one_or_two x p q =
    let z : ◌≡◌ {A = ℕ} 0x3F800000 0x40000000 = sym (alike_bits x identity.r0.x refl p) ∙ alike_bits x two refl q in
    omega (arith, z)

first-float : (m p : List Float) → row_differs m 4 p 0 ≡ false → alike (get_or m 16 nan) (get_or p 0 nan) ≡ true
unfolding row_differs alike_at
first-float m p e = go (alike (get_or m 16 nan) (get_or p 0 nan)) refl
  where
    go : (t : Bool) → alike (get_or m 16 nan) (get_or p 0 nan) ≡ t → alike (get_or m 16 nan) (get_or p 0 nan) ≡ true
    go true q = q
    go false q = never (rw q at e)

-- no mirror has both projections in its rows 4 to 7
not_both : (m : List Float) → differing m key fresh_abstract Proj ≡ 0 → differing m key turned_abstract Proj ≡ 0 → ⊥
unfolding differing abstract_rows abstract_inputs packed_rows abstract_step abstract_refusal abstract_change known fresh_abstract projection_rows transposed column row floats rows_of identity
not_both m p q =
    one_or_two (get_or m 16 nan)
    (first-float m (floats (abstract_rows Proj fresh_abstract key)) (none_differs _ 4 p 0 (omega arith)))
    (first-float m (floats (abstract_rows Proj turned_abstract key)) (none_differs _ 4 q 0 (omega arith)))

-- ---- the list that shows it: a refresh, another projection, a refresh

abbrev turning : Operation
turning = set_transform 3 turned

turned_fits : matrixFits turned
turned_fits =
    record {
      r0 = record { x = of_int-fits binary32 (pos 2); y = identity_fits.r0.y; z = identity_fits.r0.z; w = identity_fits.r0.w };
      r1 = identity_fits.r1;
      r2 = identity_fits.r2;
      r3 = identity_fits.r3;
    }

-- it makes PROJ dirty and no other section
only_projection : eqb (dirty_word (operate (take_ff_vs_dirty fresh_state).state turning).state) all_bits ≡ false
unfolding operate Transforms.set_transform change_at slot_of placed place_sections dirtied take_ff_vs_dirty fresh_state
only_projection = refl

module _ (m : List Float) (long : length m ≡ 4460) where
  abbrev first_call : Call
  first_call = refresh key (the_mirror m)

  accepted : accepted_key (start m) first_call ≡ some key
  unfolding slice
  accepted = accepted_is (start m) key (the_mirror m) long (accepts_key (start m).abstract)

  first_may : Admits (start m) first_call
  unfolding start fresh_track
  first_may = refresh_may (start m) key (omega arith) (omega arith) (omega arith) (first_marked m key)

  abbrev first : World
  first = step ours first_call (start m)

  -- the first refresh is ours, so that the mirror then has the fresh projection
  same_first : step right_first first_call (start m) ≡ first
  unfolding step start as_state fresh_state
  same_first = refl

  abstract_first : first.abstract ≡ fresh_abstract
  unfolding start
  abstract_first = (refresh_after ours (start m) key (the_mirror m) accepted).abstract

  first_right : differing first.track.mirror key fresh_abstract Proj ≡ 0
  unfolding run start fresh_track
  first_right =
      subst (λ (a : AbstractState). differing first.track.mirror key a Proj ≡ 0) abstract_first
      (always_right m long [] first_call key (first_may, tt) accepted Proj ((refresh_after ours (start m) key (the_mirror m) accepted).exempt Proj))

  first_long : length first.track.mirror ≡ 4460
  first_long = (step_good first_call (start m) first_may (fresh_state, begins m long)).1.whole

  abbrev second : World
  second = step right_first (own turning) first

  abbrev last_call : Call
  last_call = refresh key (the_mirror second.track.mirror)

  second_mirror : second.track.mirror ≡ first.track.mirror
  unfolding track_marked
  second_mirror = ap (λ (t : Track). t.mirror) (own_track right_first first turning)

  second_abstract : second.abstract ≡ turned_abstract
  second_abstract = own_abstract right_first first turning ∙ ap (λ (a : AbstractState). abstract_step a turning) abstract_first

  second_marked : Marked second.track key
  unfolding track_marked
  second_marked =
      let was = refresh_after ours (start m) key (the_mirror m) accepted in
      subst (λ (t : Track). Marked t key) (sym (own_track right_first first turning))
      (again_marked (track_marked (marks first.abstract turning) first.track) key key was.last
      (record { lighting_enabled = refl; specular_enable = refl; vertex_blend_indexed = refl; preview = refl; light-active-mask = refl; fog_mode = refl; vertex_blend_count = refl })
      (λ σ. ap (λ (t : Bool). t && not (marks first.abstract turning σ)) (was.needs σ)))

  last_admissible : Admissible right_first (start m) ((first_call ∷ own turning ∷ []) ++ last_call ∷ [])
  last_admissible = (
    first_may,
    subst (λ (w : World). Admits w (own turning) × (Admits (step right_first (own turning) w) last_call × Unit {0})) (sym same_first)
        (set_transform_may first 3 turned turned_fits, (refresh_may second key (omega arith) (omega arith) (omega arith) second_marked, tt)),
  )

  -- the second time not all is dirty
  first-answer : refresh_answer fresh_state key (length m) ≡ Ok tt
  unfolding refresh_answer mask_accepted
  first-answer = rw (eq-eqb (length m) 4460 long)

  first_state : as_state first.stored ≡ (take_ff_vs_dirty fresh_state).state
  unfolding as_state start slice
  first_state =
      ap as_state (refresh_stored ours (start m) key (the_mirror m))
      ∙ ap (λ (o : RefreshOutcome). o.result.state) (Laws.accepted_is fresh_state key m (omega arith) fresh_valid.palette_length fresh_valid.texture_length first-answer)

  second_dirty : eqb (dirty_word (as_state second.stored)) all_bits ≡ false
  unfolding as_state
  second_dirty =
      ap (λ (h : Stored). eqb (dirty_word (as_state h)) all_bits) (own_stored right_first first turning)
      ∙ ap (λ (s : FfState). eqb (dirty_word (operate s turning).state) all_bits) first_state
      ∙ only_projection

  last_accepted : accepted_key second last_call ≡ some key
  unfolding slice
  last_accepted = accepted_is second key (the_mirror second.track.mirror) (ap length second_mirror ∙ first_long) (accepts_key second.abstract)

  last_mirror : (step right_first last_call second).track.mirror ≡ first.track.mirror
  last_mirror = refresh-mirror right_first second key second.track.mirror ∙ rw second_dirty second_mirror

  abbrev last_after : AfterRefresh second (step right_first last_call second) key
  last_after = refresh_after right_first second key (the_mirror second.track.mirror) last_accepted

  there : run right_first (first_call ∷ own turning ∷ []) (start m) ≡ second
  unfolding run
  there = ap (step right_first (own turning)) same_first

  last_exempt : (step right_first last_call second).track.exempt Proj ≡ false
  unfolding track_marked start fresh_track
  last_exempt =
      last_after.exempt Proj
      ∙ ap (λ (t : Track). t.exempt Proj) (own_track right_first first turning)
      ∙ ap (λ (t : Bool). t && not (marks first.abstract turning Proj)) ((refresh_after ours (start m) key (the_mirror m) accepted).exempt Proj)

  pub right_first_wrong : AlwaysRight right_first → ⊥
  right_first_wrong claim = not_both first.track.mirror first_right turned_right
    where
      last_right : wrong_rows (step right_first last_call second) key Proj ≡ 0
      last_right =
          subst (λ (w : World). accepted_key w last_call ≡ some key → (step right_first last_call w).track.exempt Proj ≡ false → wrong_rows (step right_first last_call w) key Proj ≡ 0) there
          (λ a e. claim m long (first_call ∷ own turning ∷ []) last_call key last_admissible a Proj e) last_accepted last_exempt

      turned_right : differing first.track.mirror key turned_abstract Proj ≡ 0
      turned_right =
          subst (λ (x : List Float). differing x key turned_abstract Proj ≡ 0) last_mirror
          (subst (λ (a : AbstractState). differing (step right_first last_call second).track.mirror key a Proj ≡ 0)
          (last_after.abstract ∙ second_abstract) last_right)

pub right_first_refuted : AlwaysRight right_first → ⊥
right_first_refuted = right_first_wrong nans refl
