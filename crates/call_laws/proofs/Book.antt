-- Before and after a host's call the bytes hold one book and its step: said of bytes and books alone, with no state of the code between them.
-- Both agree with the state that is read from the bytes left. Assumes nothing.
use Prim.Native.Nat.{ℕ, ◌+◌}
use native.Mathlib.Omega.{arith}
use mathlib.Core.Path.{◌≡◌, refl, sym, ap, ◌∙◌}
use mathlib.Core.Bool.{Bool, true, false, cond, not, ◌&&◌}
use mathlib.Core.List.{List}
use mathlib.Core.Option.{some}
use lib.Dec.{leb, eqb}
use lib.ListN.{length}
use borrow.Author.Tests.{eqb-true}
use Rattle.lemmas.proofs.Branch.{branch}
use Rattle.lemmas.proofs.Tests.{never}
use Rattle.ff_state.specs.Transforms.{InRange}
use Rattle.ff_state.specs.declared.state.FfState.{FfState}
use Rattle.ff_state.specs.declared.transforms.Place.{Place}
use Rattle.ff_state.specs.declared.transforms.Place.TheVariants.{View, Projection, Texture, Palette}
use Rattle.d3d9_types.specs.Matrix.{identity}
use Rattle.d3d9_types.specs.RenderStates.{with_fog_start, with_fog_end, with_fog_density, with_ambient}
use Rattle.d3d9_types.specs.declared.matrix.D3DMATRIX.{D3DMATRIX}
use Rattle.d3d9_types.specs.declared.render_states.RenderStates.{RenderStates}
use Rattle.matrix.specs.Product.{mat_mul}
use Rattle.d3d9_model.specs.Operations.{Operation, set_transform, multiply_transform, set_material, set_light, enable_light, set_fog_start, set_fog_end, set_fog_density, set_ambient, set_texture_mask, mark, known, full, abstract_refusal, abstract_change, abstract_step}
use Rattle.d3d9_model.specs.State.{AbstractState, AbstractLight, fresh_abstract, raised, replaced_matrix, replaced_lights, replaced_states}
use Rattle.d3d9_model.specs.Lights.{lookup, is_there, count_beyond, active_of, light_set, light_enabled, abstract_light, abstract_active}
use Rattle.d3d9_model.specs.Reads.{abstract_read_matrix, abstract_palette_used}
use Rattle.agreement.specs.Agrees.{Agrees}
use Rattle.agreement.proofs.Numbers.{number, Named, place, no_place, named}
use Rattle.image_reasons.specs.Length.{image_length}
use Rattle.image_model.specs.Abstract.{image_abstract}
use Rattle.image_laws.specs.Exactly.{IsAccepted}
use Rattle.image_agreement.proofs.ImageAgrees.{image_agrees}
use Rattle.calls.specs.Bits.{ff_take_ff_vs_dirty}
use Rattle.calls.specs.Images.{ff_image_fresh}
use Rattle.call_laws.specs.Book.{SameBook}
use Rattle.call_laws.specs.HostOperations.{HostOperation, host_answer, operation_of, ItemFits}
use Rattle.call_laws.proofs.Bits.{take_accepted_kept, take_agrees_kept}
use Rattle.call_laws.proofs.HostOperations.{host_accepted_kept, host_agrees_kept}
use Rattle.call_laws.proofs.Images.{fresh_accepted, fresh_image_agrees}

module _ {s : FfState} {a b : AbstractState} (f : Agrees s a) (g : Agrees s b) where
  at_place : (p : Place) → InRange p → a.matrix (number p) ≡ b.matrix (number p)
  at_place View r = sym f.matrices.view ∙ g.matrices.view
  at_place Projection r = sym f.matrices.projection ∙ g.matrices.projection
  at_place (Texture i) r = sym (f.matrices.texture i r) ∙ g.matrices.texture i r
  at_place (Palette i) r = sym (f.matrices.palette i r) ∙ g.matrices.palette i r

  at_number : (n : ℕ) → known n ≡ true → Named n → a.matrix n ≡ b.matrix n
  at_number n h (place p r e q k) = rw e (at_place p r)
  at_number n h (no_place q k) = never (sym h ∙ k)

  same_book : SameBook a b
  same_book = record { matrix = λ n h. at_number n h (named n); material = sym f.material ∙ g.material; lights = sym f.lights ∙ g.lights; highest = sym f.highest ∙ g.highest; states = sym f.states ∙ g.states; texture-mask = sym f.texture-mask ∙ g.texture-mask }

-- ---- no refusal, read or later operation tells two states of one book apart: so the record leaves out nothing that they have

module _ {a b : AbstractState} (e : SameBook a b) where
  same_full : (i : ℕ) → full a i ≡ full b i
  unfolding full
  same_full i = ap (λ (ls : List AbstractLight). leb 8 i && (not (is_there (lookup i ls)) && eqb (count_beyond ls) 56)) e.lights

  pub same_refusal : (op : Operation) → abstract_refusal a op ≡ abstract_refusal b op
  unfolding abstract_refusal
  same_refusal (set_transform n m) = refl
  same_refusal (multiply_transform n m) = refl
  same_refusal (set_material m) = refl
  same_refusal (set_light i l) = ap (λ (f : Bool). cond f 3 0) (same_full i)
  same_refusal (enable_light i on) = ap (λ (f : Bool). cond f 3 0) (same_full i)
  same_refusal (set_fog_start x) = refl
  same_refusal (set_fog_end x) = refl
  same_refusal (set_fog_density x) = refl
  same_refusal (set_ambient c) = refl
  same_refusal (set_texture_mask t) = refl
  same_refusal (mark bits) = refl

  pub same_matrix : (n : ℕ) → abstract_read_matrix a n ≡ abstract_read_matrix b n
  unfolding abstract_read_matrix
  same_matrix n = go (known n) refl
    where
      go : (t : Bool) → known n ≡ t → cond t (a.matrix n) identity ≡ cond t (b.matrix n) identity
      go true h = e.matrix n h
      go false h = refl

  pub same_light : (i : ℕ) → abstract_light a i ≡ abstract_light b i
  unfolding abstract_light
  same_light i = ap (lookup i) e.lights

  pub same_active : abstract_active a ≡ abstract_active b
  unfolding abstract_active
  same_active = ap active_of e.lights

  pub same_used : abstract_palette_used a ≡ abstract_palette_used b
  unfolding abstract_palette_used
  same_used = ap (λ (n : ℕ). n + 1) e.highest

  stored : (n : ℕ) (m m' : D3DMATRIX) → m ≡ m' → SameBook (replaced_matrix a n m) (replaced_matrix b n m')
  stored n m m' q =
      record {
        matrix = λ k h. rw q (branch (λ (x : D3DMATRIX). x ≡ cond (eqb k n) m' (b.matrix k)) (eqb k n) m' (a.matrix k) (λ t. rw t) (λ t. rw t (e.matrix k h)));
        material = e.material;
        lights = e.lights;
        highest = ap (λ (i : ℕ). raised i n) e.highest;
        states = e.states;
        texture-mask = e.texture-mask;
      }

  with-lights : {ls ls' : List AbstractLight} → ls ≡ ls' → SameBook (replaced_lights a ls) (replaced_lights b ls')
  with-lights q = record { matrix = e.matrix; material = e.material; lights = q; highest = e.highest; states = e.states; texture-mask = e.texture-mask }

  with_states : {r r' : RenderStates} → r ≡ r' → SameBook (replaced_states a r) (replaced_states b r')
  with_states q = record { matrix = e.matrix; material = e.material; lights = e.lights; highest = e.highest; states = q; texture-mask = e.texture-mask }

  taken : (t : Bool) (n : ℕ) → n ≡ cond t 0 1 → n ≡ 0 → t ≡ true
  taken true n q z = refl
  taken false n q z = absurd (omega arith)

  changed : (op : Operation) → abstract_refusal a op ≡ 0 → SameBook (abstract_change a op) (abstract_change b op)
  unfolding abstract_change abstract_refusal
  changed (set_transform n m) z = stored n m m refl
  changed (multiply_transform n m) z = stored n _ _ (ap (mat_mul m) (e.matrix n (taken (known n) _ refl z)))
  changed (set_material m) z = record { matrix = e.matrix; material = refl; lights = e.lights; highest = e.highest; states = e.states; texture-mask = e.texture-mask }
  changed (set_light i l) z = with-lights (ap (light_set i l) e.lights)
  changed (enable_light i on) z = with-lights (ap (light_enabled i on) e.lights)
  changed (set_fog_start x) z = with_states (ap (λ (r : RenderStates). with_fog_start r x) e.states)
  changed (set_fog_end x) z = with_states (ap (λ (r : RenderStates). with_fog_end r x) e.states)
  changed (set_fog_density x) z = with_states (ap (λ (r : RenderStates). with_fog_density r x) e.states)
  changed (set_ambient c) z = with_states (ap (λ (r : RenderStates). with_ambient r c) e.states)
  changed (set_texture_mask t) z = record { matrix = e.matrix; material = e.material; lights = e.lights; highest = e.highest; states = e.states; texture-mask = refl }
  changed (mark bits) z = e

  pub same_step : (op : Operation) → SameBook (abstract_step a op) (abstract_step b op)
  unfolding abstract_step
  same_step op = go (eqb (abstract_refusal a op) 0) refl
    where
      go : (t : Bool) → eqb (abstract_refusal a op) 0 ≡ t → SameBook (cond (eqb (abstract_refusal a op) 0) (abstract_change a op) a) (cond (eqb (abstract_refusal b op) 0) (abstract_change b op) b)
      go true h = rw (← same_refusal op, h) (changed op (eqb-true (abstract_refusal a op) 0 h))
      go false h = rw (← same_refusal op, h) e

module _ (image : List ℕ) where
  module _ (a : IsAccepted image) where
    pub host_book : (h : HostOperation) (op : Operation) → operation_of h ≡ some op → ItemFits h → SameBook (image_abstract (host_answer h image).out) (abstract_step (image_abstract image) op)
    host_book h op e fit = same_book (image_agrees _ (host_accepted_kept h image a fit).taken) (host_agrees_kept h image a op e fit)

    pub take_book : (out : ℕ) → SameBook (image_abstract (ff_take_ff_vs_dirty image out).out.image) (image_abstract image)
    take_book out = same_book (image_agrees _ (take_accepted_kept image out a).taken) (take_agrees_kept image out a)

  pub fresh_book : length image ≡ image_length → SameBook (image_abstract (ff_image_fresh image).out) fresh_abstract
  fresh_book long = same_book (image_agrees _ (fresh_accepted image long).1.taken) (fresh_image_agrees image long)
