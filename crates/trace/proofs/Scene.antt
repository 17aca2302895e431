-- One list, step by step: a refresh, another view, row 4 overwritten, a refresh, a marking of PROJ, a refresh. Row 4 is PROJ's; PROJ alone is let off until it is marked and written again.
-- One on the texture mask: TT's rows are those of the last accepted refresh. And one that is not admissible: a refresh under another shape with nothing marked. Assumes nothing.
use Prim.Native.Nat.{ℕ}
use native.Mathlib.Omega.{arith}
use mathlib.Core.Path.{◌≡◌, refl, sym, ap, ◌∙◌}
use mathlib.Core.Bool.{Bool, true, false, not, ◌&&◌, ◌||◌}
use mathlib.Core.List.{List, [], ◌∷◌, ◌++◌, map}
use mathlib.Core.Option.{some}
use lib.Count.{count_leading_zeros}
use lib.Dec.{eqb}
use lib.Ieee.{Float}
use lib.ListN.{length}
use Rattle.lemmas.proofs.Tests.{never}
use Rattle.d3d9_types.specs.Matrix.{matrixFits}
use Rattle.d3d9_types.specs.declared.matrix.D3DMATRIX.{D3DMATRIX}
use Rattle.words.specs.Bits.{has_bit}
use Rattle.sections.specs.Sections.{sections, bit_place}
use Rattle.ff_state.specs.State.{fresh_state}
use Rattle.sections.proofs.Every.{same_sections}
use Rattle.sections.specs.declared.sections.Section.{Section}
use Rattle.sections.specs.declared.sections.Section.TheVariants.{Wv, Proj, Tt}
use Rattle.sections.specs.Counts.{places, material_count, light_count, palette_matrices, palette_count, texture_count, section_rows}
use Rattle.sections.specs.Key.{SameShape}
use Rattle.sections.specs.declared.key.FfVsKey.{FfVsKey}
use Rattle.packing.specs.Inputs.{Inputs, mask_accepted}
use Rattle.d3d9_model.specs.State.{AbstractState, fresh_abstract}
use Rattle.d3d9_model.specs.Operations.{Operation, set_transform, set_texture_mask, mark, known, abstract_refusal, abstract_change, abstract_step}
use Rattle.d3d9_model.specs.Marks.{marks_section}
use Rattle.packing_agreement.specs.Abstract.{abstract_inputs}
use Rattle.packing_agreement.proofs.Agreement.{abstract_length}
use Rattle.trace.specs.Calls.{the_mirror, slice, Call, own, refresh, overwrite}
use Rattle.trace.specs.Count.{rows_under}
use Rattle.trace.specs.World.{World, Track, fresh_track, track_marked, is_row, hits, track_overwritten, start, tracking, marks, wrong_rows}
use Rattle.trace.specs.Step.{refresh_refusal, accepted_key, ours, step, run}
use Rattle.trace.specs.Claim.{Admits, Admissible}
use Rattle.trace.proofs.Allowed.{accepted_is, refresh_may, first_marked, again_marked, set_transform_may, set_texture_mask_may, mark_may, overwrite_may}
use Rattle.trace.proofs.Always.{Good, step_good, always_right}
use Rattle.trace.proofs.Invariant.{begins}
use Rattle.trace.proofs.Steps.{refresh_after, own_abstract, own_track}
use Rattle.trace.proofs.Tracked.{hits_is}

-- lit or not; nothing else is set
abbrev key_of : Bool → FfVsKey
key_of lit =
    record {
      has_rhw = false;
      lighting_enabled = lit;
      specular_enable = false;
      vertex_blend_indexed = false;
      preview = false;
      light_active_mask = 0;
      fog_mode = 0;
      vertex_blend_count = 0;
    }

abbrev key : FfVsKey
key = key_of false

-- the rows of each section under this key and a texture mask
abbrev key_rows : ℕ → Section → ℕ
key_rows mask σ = section_rows σ key mask

accepts_all : (i : Inputs) (σ : Section) → mask_accepted σ key i ≡ true
unfolding mask_accepted
accepts_all i = same_sections (λ σ. mask_accepted σ key i) (λ σ. true) refl

rows_are : (a : AbstractState) (σ : Section) → rows_under key a σ ≡ key_rows a.texture_mask σ
unfolding abstract_inputs
rows_are a σ = abstract_length a key (omega arith) σ (accepts_all (abstract_inputs a) σ)

-- whatever the lights are, a mask of 0 is accepted
accepts_key : (lit : Bool) (a : AbstractState) → refresh_refusal a (key_of lit) true ≡ 0
unfolding refresh_refusal mask_accepted
accepts_key lit a = refl

-- ---- what is known behind each call of the list

-- the texture mask at the last accepted refresh and now, and the sections that are let off
pub record Facts (w : World) (then mask : ℕ) (letOff : Section → Bool) : Type 0 where
  pub good : Good w
  pub last : w.track.last_key ≡ some key
  pub rows : (σ : Section) → w.track.rows_at_last_refresh σ ≡ key_rows then σ
  pub now : w.abstract.texture_mask ≡ mask
  pub exempt : (σ : Section) → w.track.exempt σ ≡ letOff σ
  pub needs : (σ : Section) → w.track.needs_marking σ ≡ false

abbrev refreshing : World → Call
refreshing w = refresh key (the_mirror w.track.mirror)

accepted : (w : World) → Good w → accepted_key w (refreshing w) ≡ some key
unfolding slice
accepted w good = accepted_is w key (the_mirror w.track.mirror) good.1.whole (accepts_key false w.abstract)

module _ {w : World} {then mask : ℕ} {letOff : Section → Bool} (f : Facts w then mask letOff) where
  refresh_admits : Admits w (refreshing w)
  refresh_admits =
      refresh_may w key (omega arith) (omega arith) (omega arith)
      (again_marked w.track key key f.last
      (record { lighting_enabled = refl; specular_enable = refl; vertex_blend_indexed = refl; preview = refl; light-active-mask = refl; fog_mode = refl; vertex_blend_count = refl })
      f.needs)

  after_refresh : Facts (step ours (refreshing w) w) mask mask letOff
  after_refresh =
      let is = refresh_after ours w key (the_mirror w.track.mirror) (accepted w f.good) in
      record {
        good = step_good (refreshing w) w refresh_admits f.good;
        last = is.last;
        rows = λ σ. is.rows σ ∙ rows_are w.abstract σ ∙ ap (λ (n : ℕ). key_rows n σ) f.now;
        now = ap (λ (a : AbstractState). a.texture_mask) is.abstract ∙ f.now;
        exempt = λ σ. is.exempt σ ∙ f.exempt σ;
        needs = is.needs;
      }

  after_own : (op : Operation) → Admits w (own op) → (next : ℕ) → (abstract_step w.abstract op).texture_mask ≡ next
      → Facts (step ours (own op) w) then next (λ σ. letOff σ && not (marks w.abstract op σ))
  unfolding track_marked
  after_own op may next q =
      let is = own_track ours w op in
      record {
        good = step_good (own op) w may f.good;
        last = ap (λ (t : Track). t.last_key) is ∙ f.last;
        rows = λ σ. ap (λ (t : Track). t.rows_at_last_refresh σ) is ∙ f.rows σ;
        now = ap (λ (a : AbstractState). a.texture_mask) (own_abstract ours w op) ∙ q;
        exempt = λ σ. ap (λ (t : Track). t.exempt σ) is ∙ ap (λ (e : Bool). e && not (marks w.abstract op σ)) (f.exempt σ);
        needs = λ σ. ap (λ (t : Track). t.needs_marking σ) is ∙ ap (λ (e : Bool). e && not (marks w.abstract op σ)) (f.needs σ);
      }

  hit_are : (r : ℕ) (σ : Section) → hits r w.track σ ≡ is_row r σ (key_rows then σ)
  hit_are r σ = hits_is r w.track σ key f.last ∙ ap (is_row r σ) (f.rows σ)

  after_overwrite : (r : ℕ) (x y z t : Float) → Facts (step ours (overwrite r x y z t) w) then mask (λ σ. letOff σ || is_row r σ (key_rows then σ))
  unfolding step tracking track_overwritten
  after_overwrite r x y z t =
      record {
        good = step_good (overwrite r x y z t) w (overwrite_may w r x y z t) f.good;
        last = f.last;
        rows = f.rows;
        now = f.now;
        exempt = λ σ. ap (λ (e : Bool). e || hits r w.track σ) (f.exempt σ) ∙ ap (λ (h : Bool). letOff σ || h) (hit_are r σ);
        needs = f.needs;
      }

-- row 4 is PROJ's first, row 8 FOG's, row 9 AMBIENT's; under the mask 5 rows 63 to 74 are TT's
pub rows_hit : map (λ (r : ℕ). map (λ σ. is_row r σ (key_rows 5 σ)) sections) (4 ∷ 8 ∷ 9 ∷ 63 ∷ 74 ∷ 75 ∷ [])
    ≡ (false ∷ true ∷ false ∷ false ∷ false ∷ false ∷ false ∷ false ∷ [])
    ∷ (false ∷ false ∷ false ∷ false ∷ false ∷ false ∷ true ∷ false ∷ [])
    ∷ (false ∷ false ∷ false ∷ false ∷ false ∷ false ∷ false ∷ true ∷ [])
    ∷ (false ∷ false ∷ false ∷ false ∷ false ∷ true ∷ false ∷ false ∷ [])
    ∷ (false ∷ false ∷ false ∷ false ∷ false ∷ true ∷ false ∷ false ∷ [])
    ∷ (false ∷ false ∷ false ∷ false ∷ false ∷ false ∷ false ∷ false ∷ [])
    ∷ []
unfolding is_row material_count light_count palette_count palette_matrices texture_count places count_leading_zeros
rows_hit = refl

abbrev is_proj : Section → Bool
is_proj σ = eqb (bit_place σ) (bit_place Proj)

row_4_is : (σ : Section) → is_row 4 σ (key_rows 0 σ) ≡ is_proj σ
unfolding is_row material_count light_count palette_count palette_matrices texture_count places count_leading_zeros
row_4_is = same_sections (λ σ. is_row 4 σ (key_rows 0 σ)) is_proj refl

-- bit 2 is PROJ's
marked_again : (a : AbstractState) (σ : Section) → (is_row 4 σ (key_rows 0 σ) && not (marks a (mark 2) σ)) ≡ false
unfolding is_row material_count light_count palette_count palette_matrices texture_count places count_leading_zeros marks abstract_refusal marks_section has_bit
marked_again a = same_sections _ (λ σ. false) refl

-- ---- the list

module _ (m : List Float) (long : length m ≡ 4460) where
  first_admits : Admits (start m) (refreshing (start m))
  unfolding start fresh_track
  first_admits = refresh_may (start m) key (omega arith) (omega arith) (omega arith) (first_marked m key)

  begun : Good (start m)
  begun = (fresh_state, begins m long)

  abbrev w₁ : World
  w₁ = step ours (refreshing (start m)) (start m)

  first : Facts w₁ 0 0 (λ σ. false)
  unfolding start fresh_track fresh_abstract
  first =
      let is = refresh_after ours (start m) key (the_mirror (start m).track.mirror) (accepted (start m) begun) in
      record {
        good = step_good (refreshing (start m)) (start m) first_admits begun;
        last = is.last;
        rows = λ σ. is.rows σ ∙ rows_are (start m).abstract σ;
        now = ap (λ (a : AbstractState). a.texture_mask) is.abstract;
        exempt = is.exempt;
        needs = is.needs;
      }

  module _ (view : D3DMATRIX) (fits : matrixFits view) (x y z t : Float) where
    abbrev w₂ : World
    w₂ = step ours (own (set_transform 2 view)) w₁

    second : Facts w₂ 0 0 (λ σ. false)
    unfolding abstract_step abstract_refusal abstract_change known
    second = after_own first (set_transform 2 view) (set_transform_may w₁ 2 view fits) 0 first.now

    abbrev w₃ : World
    w₃ = step ours (overwrite 4 x y z t) w₂

    third : Facts w₃ 0 0 (λ σ. is_row 4 σ (key_rows 0 σ))
    third = after_overwrite second 4 x y z t

    abbrev w₄ : World
    w₄ = step ours (refreshing w₃) w₃

    fourth : Facts w₄ 0 0 (λ σ. is_row 4 σ (key_rows 0 σ))
    fourth = after_refresh third

    abbrev w₅ : World
    w₅ = step ours (own (mark 2)) w₄

    fifth : Facts w₅ 0 0 (λ σ. is_row 4 σ (key_rows 0 σ) && not (marks w₄.abstract (mark 2) σ))
    unfolding abstract_step abstract_refusal abstract_change
    fifth = after_own fourth (mark 2) (mark_may w₄ 2) 0 fourth.now

    abbrev w₆ : World
    w₆ = step ours (refreshing w₅) w₅

    abbrev calls : List Call
    calls = refreshing (start m) ∷ own (set_transform 2 view) ∷ overwrite 4 x y z t ∷ refreshing w₃ ∷ own (mark 2) ∷ []

    pub admissible : Admissible ours (start m) (calls ++ refreshing w₅ ∷ [])
    admissible = (
      first_admits,
      (set_transform_may w₁ 2 view fits, (overwrite_may w₂ 4 x y z t, (refresh_admits third, (mark_may w₄ 2, (refresh_admits fifth, tt))))),
    )

    -- behind the second refresh PROJ is let off and no other section
    pub let_off : (σ : Section) → w₄.track.exempt σ ≡ is_proj σ
    let_off σ = fourth.exempt σ ∙ row_4_is σ

    pub others_right : (σ : Section) → is_proj σ ≡ false → wrong_rows w₄ key σ ≡ 0
    unfolding run
    others_right σ e =
        always_right m long (refreshing (start m) ∷ own (set_transform 2 view) ∷ overwrite 4 x y z t ∷ []) (refreshing w₃) key
        (first_admits, (set_transform_may w₁ 2 view fits, (overwrite_may w₂ 4 x y z t, (refresh_admits third, tt))))
        (accepted w₃ third.good) σ (let_off σ ∙ e)

    -- and behind the third, with PROJ marked, every section is right
    pub all_right : (σ : Section) → wrong_rows w₆ key σ ≡ 0
    unfolding run
    all_right σ =
        always_right m long calls (refreshing w₅) key admissible (accepted w₅ fifth.good) σ
        ((refresh_after ours w₅ key (the_mirror w₅.track.mirror) (accepted w₅ fifth.good)).exempt σ ∙ fifth.exempt σ ∙ marked_again w₄.abstract σ)

  -- ---- the texture mask: three stages at a refresh, eight from then on

  abbrev u₂ : World
  u₂ = step ours (own (set_texture_mask 5)) w₁

  mask_5 : Facts u₂ 0 5 (λ σ. false)
  unfolding abstract_step abstract_refusal abstract_change
  mask_5 = after_own first (set_texture_mask 5) (set_texture_mask_may w₁ 5 (omega arith)) 5 refl

  abbrev u₃ : World
  u₃ = step ours (refreshing u₂) u₂

  abbrev u₄ : World
  u₄ = step ours (own (set_texture_mask 0x80)) u₃

  mask_128 : Facts u₄ 5 0x80 (λ σ. false)
  unfolding abstract_step abstract_refusal abstract_change
  mask_128 = after_own (after_refresh mask_5) (set_texture_mask 0x80) (set_texture_mask_may u₃ 0x80 (omega arith)) 0x80 refl

  -- row 74 was TT's at the refresh, row 75 was not, though it is under the mask that the book has now
  pub last_mask_hits : (r : ℕ) (x y z t : Float) → (step ours (overwrite r x y z t) u₄).track.exempt Tt ≡ is_row r Tt 12
  unfolding texture_count places count_leading_zeros
  last_mask_hits r x y z t = (after_overwrite mask_128 r x y z t).exempt Tt

  -- ---- a refresh under another shape, with nothing marked since the first

  abbrev lit_call : Call
  lit_call = refresh (key_of true) (the_mirror w₁.track.mirror)

  pub shape_not_admissible : Admissible ours (start m) (refreshing (start m) ∷ lit_call ∷ []) → ⊥
  unfolding slice
  shape_not_admissible (may, (lit, end)) =
      let taken = accepted_is w₁ (key_of true) (the_mirror w₁.track.mirror) first.good.1.whole (accepts_key true w₁.abstract) in
      let is = refresh_after ours (start m) key (the_mirror (start m).track.mirror) (accepted (start m) begun) in
      never (sym (lit.1.shape key (key_of true) is.last taken (λ (e : SameShape key (key_of true)). never (sym e.lighting_enabled)) Wv) ∙ is.marked Wv)
