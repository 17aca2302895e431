-- What the claim is over: every call with arguments of its types may stand in a list, a refused refresh with any slice; the first refresh, the next one under the same shape, and after a marking of the eight sections one under every key need no more.
-- Assumes nothing.
use Prim.Native.Nat.{ℕ, ◌<◌}
use mathlib.Core.Path.{◌≡◌, refl, sym, subst, ◌∙◌}
use mathlib.Core.Bool.{Bool, true, false, or-true}
use mathlib.Core.List.{List}
use mathlib.Core.Option.{Option, none, some}
use lib.Dec.{eqb}
use lib.Ieee.{Float}
use lib.ListN.{length}
use borrow.Author.Tests.{eq-eqb, ne_eqb}
use Rattle.lemmas.proofs.Options.{some_is, not_some}
use Rattle.lemmas.proofs.Tests.{and_false}
use Rattle.codec.specs.Little.{Bytes}
use Rattle.d3d9_types.specs.Numbers.{float_fits}
use Rattle.d3d9_types.specs.Matrix.{matrixFits}
use Rattle.d3d9_types.specs.Material.{materialFits}
use Rattle.d3d9_types.specs.Light.{lightFits}
use Rattle.d3d9_types.specs.declared.matrix.D3DMATRIX.{D3DMATRIX}
use Rattle.d3d9_types.specs.declared.material.D3DMATERIAL9.{D3DMATERIAL9}
use Rattle.d3d9_types.specs.declared.light.D3DLIGHT9.{D3DLIGHT9}
use Rattle.words.specs.Bits.{has_bit}
use Rattle.sections.specs.declared.sections.Section.{Section}
use Rattle.sections.specs.Sections.{all_bits}
use Rattle.sections.proofs.Every.{same_sections}
use Rattle.image_reasons.specs.Reasons.{refused}
use Rattle.sections.specs.Key.{SameShape}
use Rattle.sections.specs.declared.key.FfVsKey.{FfVsKey}
use Rattle.d3d9_model.specs.State.{AbstractState}
use Rattle.d3d9_model.specs.Operations.{set_transform, multiply_transform, set_material, set_light, enable_light, set_fog_start, set_fog_end, set_fog_density, set_ambient, set_texture_mask, mark, abstract_refusal}
use Rattle.d3d9_model.specs.Marks.{marks_section}
use Rattle.refresh_calls.specs.Written.{mirror_floats}
use Rattle.trace.specs.Calls.{the_mirror, another, slice, HostCall, operates, refreshes, Call, own, read_in, refresh, overwrite, host, host_on}
use Rattle.call_laws.specs.HostOperations.{is_whole, said, operation_of}
use Rattle.trace.specs.Calls as Calls
use Rattle.trace.specs.World.{World, Track, track_marked, fresh_track, start, standing, operated, operated_if, marks}
use Rattle.trace.specs.Step.{Refresher, refresh_refusal, accepts, host_key, accepted_key, host_step, step}
use Rattle.trace.specs.Claim.{KeyFits, of_mirror, host_mirror, lent_mirror, Keeps, Admits}
use Rattle.trace.proofs.Tracked.{Marked}

-- a call that is no accepted refresh and lends no mirror
free : {t : Track} {o : Option FfVsKey} {c : Call} → o ≡ none → lent_mirror c ≡ none → Keeps t o c
free e l =
    record {
      mirror = λ m q. not_some (sym l ∙ q);
      lent = λ k q z. not_some (sym e ∙ q);
      shape = λ j k p q. not_some (sym e ∙ q);
      image = λ k q. not_some (sym e ∙ q);
    }

-- ---- each kind of call, in every world

module _ (w : World) where
  pub set_transform_may : (n : ℕ) (m : D3DMATRIX) → matrixFits m → Admits w (own (set_transform n m))
  unfolding accepted_key lent_mirror
  set_transform_may n m f = (f, free refl refl)

  pub multiply_transform_may : (n : ℕ) (m : D3DMATRIX) → matrixFits m → Admits w (own (multiply_transform n m))
  unfolding accepted_key lent_mirror
  multiply_transform_may n m f = (f, free refl refl)

  pub set_material_may : (m : D3DMATERIAL9) → materialFits m → Admits w (own (set_material m))
  unfolding accepted_key lent_mirror
  set_material_may m f = (f, free refl refl)

  pub set_light_may : (i : ℕ) (l : D3DLIGHT9) → i < 0x1_0000_0000 → lightFits l → Admits w (own (set_light i l))
  unfolding accepted_key lent_mirror
  set_light_may i l u f = ((u, f), free refl refl)

  pub enable_light_may : (i : ℕ) (on : Bool) → i < 0x1_0000_0000 → Admits w (own (enable_light i on))
  unfolding accepted_key lent_mirror
  enable_light_may i on u = (u, free refl refl)

  pub set_fog_start_may : (x : Float) → float_fits x → Admits w (own (set_fog_start x))
  unfolding accepted_key lent_mirror
  set_fog_start_may x f = (f, free refl refl)

  pub set_fog_end_may : (x : Float) → float_fits x → Admits w (own (set_fog_end x))
  unfolding accepted_key lent_mirror
  set_fog_end_may x f = (f, free refl refl)

  pub set_fog_density_may : (x : Float) → float_fits x → Admits w (own (set_fog_density x))
  unfolding accepted_key lent_mirror
  set_fog_density_may x f = (f, free refl refl)

  pub set_ambient_may : (c : ℕ) → c < 0x1_0000_0000 → Admits w (own (set_ambient c))
  unfolding accepted_key lent_mirror
  set_ambient_may c u = (u, free refl refl)

  pub set_texture_mask_may : (t : ℕ) → t < 256 → Admits w (own (set_texture_mask t))
  unfolding accepted_key lent_mirror
  set_texture_mask_may t u = (u, free refl refl)

  pub mark_may : (bits : ℕ) → Admits w (own (mark bits))
  unfolding accepted_key lent_mirror
  mark_may bits = (tt, free refl refl)

  pub read_in_may : (bytes : List ℕ) → Bytes bytes → Admits w (read_in bytes)
  unfolding accepted_key lent_mirror
  read_in_may bytes b = (b, free refl refl)

  pub overwrite_may : (r : ℕ) (x y z t : Float) → Admits w (overwrite r x y z t)
  unfolding accepted_key lent_mirror
  overwrite_may r x y z t = (tt, free refl refl)

  pub reads_may : Admits w Calls.Call.reads
  unfolding accepted_key lent_mirror
  reads_may = (tt, free refl refl)

  pub host_set_transform_may : (n : ℕ) (m : List ℕ) → Bytes m → Admits w (host (operates (set_transform n m)))
  unfolding accepted_key host_key lent_mirror host_mirror
  host_set_transform_may n m b = (b, free refl refl)

  pub host_multiply_transform_may : (n : ℕ) (m : List ℕ) → Bytes m → Admits w (host (operates (multiply_transform n m)))
  unfolding accepted_key host_key lent_mirror host_mirror
  host_multiply_transform_may n m b = (b, free refl refl)

  pub host_set_material_may : (m : List ℕ) → Bytes m → Admits w (host (operates (set_material m)))
  unfolding accepted_key host_key lent_mirror host_mirror
  host_set_material_may m b = (b, free refl refl)

  pub host_set_light_may : (i : ℕ) (l : List ℕ) → i < 0x1_0000_0000 → Bytes l → Admits w (host (operates (set_light i l)))
  unfolding accepted_key host_key lent_mirror host_mirror
  host_set_light_may i l u b = ((u, b), free refl refl)

  pub host_enable_light_may : (i on : ℕ) → i < 0x1_0000_0000 → Admits w (host (operates (enable_light i on)))
  unfolding accepted_key host_key lent_mirror host_mirror
  host_enable_light_may i on u = (u, free refl refl)

  pub host_set_fog_start_may : (bits : ℕ) → bits < 0x1_0000_0000 → Admits w (host (operates (set_fog_start bits)))
  unfolding accepted_key host_key lent_mirror host_mirror
  host_set_fog_start_may bits u = (u, free refl refl)

  pub host_set_fog_end_may : (bits : ℕ) → bits < 0x1_0000_0000 → Admits w (host (operates (set_fog_end bits)))
  unfolding accepted_key host_key lent_mirror host_mirror
  host_set_fog_end_may bits u = (u, free refl refl)

  pub host_set_fog_density_may : (bits : ℕ) → bits < 0x1_0000_0000 → Admits w (host (operates (set_fog_density bits)))
  unfolding accepted_key host_key lent_mirror host_mirror
  host_set_fog_density_may bits u = (u, free refl refl)

  pub host_set_ambient_may : (c : ℕ) → c < 0x1_0000_0000 → Admits w (host (operates (set_ambient c)))
  unfolding accepted_key host_key lent_mirror host_mirror
  host_set_ambient_may c u = (u, free refl refl)

  pub host_set_texture_mask_may : (t : ℕ) → t < 256 → Admits w (host (operates (set_texture_mask t)))
  unfolding accepted_key host_key lent_mirror host_mirror
  host_set_texture_mask_may t u = (u, free refl refl)

  pub host_mark_may : (bits : ℕ) → Admits w (host (operates (mark bits)))
  unfolding accepted_key host_key lent_mirror host_mirror
  host_mark_may bits = (tt, free refl refl)

  pub host_reads_may : Admits w (host Calls.HostCall.reads)
  unfolding accepted_key host_key lent_mirror host_mirror
  host_reads_may = (tt, free refl refl)

  -- on another image: whatever may be done on the one that stands for the state, but for a refresh that the image would have accepted
  pub on_another_may : (bytes : List ℕ) (h : HostCall) → Bytes bytes → Admits w (host h) → accepted_key w (host_on bytes h) ≡ none → Admits w (host_on bytes h)
  unfolding lent_mirror
  on_another_may bytes h b (fit, kept) e = (
    (b, fit),
    record {
      mirror = kept.mirror;
      lent = λ k q z. not_some (sym e ∙ q);
      shape = λ j k p q. not_some (sym e ∙ q);
      image = λ k q. not_some (sym e ∙ q);
    },
  )

-- ---- refreshes

module _ (w : World) (k : FfVsKey) (mask : k.light_active_mask < 256) (fog : k.fog_mode < 256) (count : k.vertex_blend_count < 256) where
  fits : KeyFits k
  fits = record { mask = mask; fog = fog; count = count }

  accepts_only : (a : AbstractState) (j : FfVsKey) (whole : Bool) → accepts a k whole ≡ some j → k ≡ j
  unfolding accepts
  accepts_only a j whole e = go (eqb (refresh_refusal a k whole) 0) refl
    where
      go : (t : Bool) → eqb (refresh_refusal a k whole) 0 ≡ t → k ≡ j
      go true q = cc (rw q at e)
      go false q = not_some (rw q at e)

  -- "Only a refused refresh may be lent another slice."
  pub refused_may : (m : List Float) → accepted_key w (refresh k (another m)) ≡ none → Admits w (refresh k (another m))
  unfolding lent_mirror of_mirror
  refused_may m e = (fits, free e refl)

  pub host_refused_may : (bytes : List ℕ) → Bytes bytes → accepted_key w (host (refreshes k (another bytes))) ≡ none → Admits w (host (refreshes k (another bytes)))
  unfolding slice lent_mirror host_mirror of_mirror
  host_refused_may bytes b e = ((fits, b), free e refl)

  module _ (kept : Marked w.track k) where
    pub refresh_may : Admits w (refresh k (the_mirror w.track.mirror))
    unfolding accepted_key lent_mirror of_mirror
    refresh_may = (
      fits,
      record {
        mirror = λ m q. cc;
        lent = λ j q z. not_some (sym z);
        shape = λ i j p q n. kept.shape i p (subst (λ (x : FfVsKey). SameShape i x → ⊥) (sym (accepts_only _ j _ q)) n);
        image = λ j q. ((λ x. x), kept.image);
      },
    )

    pub host_refresh_may : (bytes : List ℕ) → Bytes bytes → mirror_floats bytes ≡ w.track.mirror → Admits w (host (refreshes k (the_mirror bytes)))
    unfolding accepted_key host_key slice lent_mirror host_mirror of_mirror
    host_refresh_may bytes b same = (
      (fits, b),
      record {
        mirror = λ m q. cc;
        lent = λ j q z. not_some (sym z);
        shape = λ i j p q n. kept.shape i p (subst (λ (x : FfVsKey). SameShape i x → ⊥) (sym (accepts_only _ j _ q)) n);
        image = λ j q. ((λ x. x), kept.image);
      },
    )

-- nothing need be marked before the first refresh, nor under the shape of the last one
pub first_marked : (m : List Float) (k : FfVsKey) → Marked (start m).track k
unfolding start fresh_track
first_marked m k = record { shape = λ j q. not_some q; image = λ σ. refl }

pub again_marked : (t : Track) (j k : FfVsKey) → t.last_key ≡ some j → SameShape j k → ((σ : Section) → t.needs_marking σ ≡ false) → Marked t k
again_marked t j k last same ends = record { shape = λ i q n. absurd (n (subst (λ (x : FfVsKey). SameShape x k) (some_is (sym last ∙ q)) same)); image = ends }

-- and whatever needed marking, none after all are marked, by value or by the host
pub marks_all : (a : AbstractState) (σ : Section) → marks a (mark all_bits) σ ≡ true
unfolding marks abstract_refusal marks_section has_bit
marks_all a = same_sections (marks a (mark all_bits)) (λ σ. true) refl

module _ (R : Refresher) (w : World) (k : FfVsKey) where
  all_marked : Marked (track_marked (marks w.abstract (mark all_bits)) w.track) k
  unfolding track_marked
  all_marked =
      record {
        shape = λ j q n σ. rw (marks_all w.abstract σ) (or-true (w.track.marked σ));
        image = λ σ. rw (marks_all w.abstract σ) (and_false (w.track.needs_marking σ));
      }

  pub own_marked : Marked (step R (own (mark all_bits)) w).track k
  unfolding step standing operated
  own_marked = all_marked

  pub host_marked : Marked (step R (host (operates (mark all_bits))) w).track k
  unfolding step host_step standing operation_of is_whole said operated_if operated
  host_marked = all_marked

-- ---- which refreshes are accepted: the claim speaks of each that document 01's rule accepts, by value, by the host, and on another image

module _ (w : World) (k : FfVsKey) where
  accepts_is : (a : AbstractState) (t : Bool) → t ≡ true → refresh_refusal a k true ≡ 0 → accepts a k t ≡ some k
  unfolding accepts
  accepts_is a t e z = rw (e, eq-eqb (refresh_refusal a k true) 0 z)

  refuses_is : (a : AbstractState) (t : Bool) → (refresh_refusal a k t ≡ 0 → ⊥) → accepts a k t ≡ none
  unfolding accepts
  refuses_is a t f = rw (ne_eqb (refresh_refusal a k t) 0 f)

  pub accepted_is : (l : Calls.Lent Float) → length (slice l) ≡ 4460 → refresh_refusal w.abstract k true ≡ 0 → accepted_key w (refresh k l) ≡ some k
  unfolding accepted_key
  accepted_is l long z = accepts_is w.abstract (eqb (length (slice l)) 4460) (eq-eqb _ _ long) z

  pub host_accepted_is : (l : Calls.Lent ℕ) → length (slice l) ≡ 17_840 → refresh_refusal w.abstract k true ≡ 0 → accepted_key w (host (refreshes k l)) ≡ some k
  unfolding accepted_key host_key
  host_accepted_is l long z = accepts_is w.abstract (eqb (length (slice l)) 17_840) (eq-eqb _ _ long) z

  pub refused_is : (l : Calls.Lent Float) → (refresh_refusal w.abstract k (eqb (length (slice l)) 4460) ≡ 0 → ⊥) → accepted_key w (refresh k l) ≡ none
  unfolding accepted_key
  refused_is l f = refuses_is w.abstract _ f

  pub host_refused_is : (l : Calls.Lent ℕ) → (refresh_refusal w.abstract k (eqb (length (slice l)) 17_840) ≡ 0 → ⊥) → accepted_key w (host (refreshes k l)) ≡ none
  unfolding accepted_key host_key
  host_refused_is l f = refuses_is w.abstract _ f

  pub no_image_is : (bytes : List ℕ) (h : HostCall) → refused bytes ≡ true → accepted_key w (host_on bytes h) ≡ none
  unfolding accepted_key
  no_image_is bytes h e = rw e
