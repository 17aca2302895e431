-- A host's call on an accepted image: it is refused as document 01 says of the abstract state that the bytes hold; refused, it leaves the image as found; and what it leaves is accepted and holds what the abstract step gives.
-- It is a call by value between a reading and a writing, which undo each other. Assumes nothing.
use Prim.Native.Nat.{ℕ, zero, suc}
use native.Mathlib.Omega.{arith}
use mathlib.Core.Path.{◌≡◌, refl, sym, ap, subst, ◌∙◌}
use mathlib.Core.Logic.{◌⊎◌, inl, inr, ⊎_elim}
use mathlib.Core.Bool.{Bool, true, false, cond}
use mathlib.Core.List.{List}
use mathlib.Core.Option.{none, some}
use lib.Dec.{eqb}
use lib.Ieee.{binary32}
use lib.Ieee.Bits.{of_bits-fits}
use borrow.Author.Tests.{ne_eqb}
use Rattle.lemmas.proofs.Options.{some_is, not_some}
use Rattle.codec.specs.Little.{Bytes}
use Rattle.codec.proofs.Laws.Matrix.{matrix_at_fits}
use Rattle.codec.proofs.Laws.Material.{material_at_fits}
use Rattle.codec.proofs.Laws.Light.{light_at_fits}
use Rattle.ff_state.specs.Operate.{Operated, operate, OperationFits}
use Rattle.ff_state.specs.Valid.{Valid}
use Rattle.ff_state.specs.declared.state.FfState.{FfState}
use Rattle.d3d9_model.specs.Operations.{Operation, set_transform, multiply_transform, set_material, set_light, enable_light, set_fog_start, set_fog_end, set_fog_density, set_ambient, set_texture_mask, mark, abstract_step}
use Rattle.agreement.specs.Agrees.{Agrees}
use Rattle.agreement.proofs.Kept.{valid_kept, agrees_kept, refused-alike}
use Rattle.agreement.proofs.Refused.{refused_same}
use Rattle.image_reasons.specs.Reasons.{refused}
use Rattle.image_model.specs.Abstract.{image_abstract}
use Rattle.image.specs.Format.{image_bytes}
use Rattle.image.specs.Read.{state_of}
use Rattle.image_laws.specs.Exactly.{IsAccepted}
use Rattle.image_laws.proofs.AcceptedValid.{accepted_valid}
use Rattle.image_laws.proofs.Exactly.{image-bytes}
use Rattle.image_laws.proofs.ReadWritten.{read_written}
use Rattle.image_laws.proofs.ValidAccepted.{valid_accepted}
use Rattle.image_agreement.proofs.ImageAgrees.{image_agrees}
use Rattle.calls.specs.Answer.{Answer, or_next, length_number}
use Rattle.calls.specs.Call.{called, call_code, changing}
use Rattle.calls.proofs.Answers.{answered_code, answered_either, next_zero, next_rest}
use Rattle.calls.proofs.Calls.{code_is, code_nine}
use Rattle.call_laws.specs.HostOperations.{HostOperation, host_answer, is_whole, said, operation_of, host_refusal, ItemFits}

-- ---- what the item says

abbrev item_number : HostOperation → ℕ
item_number h = cond (is_whole h) 0 4

said_is : (h : HostOperation) (op : Operation) → operation_of h ≡ some op → (is_whole h ≡ true) × (said h ≡ op)
unfolding operation_of
said_is h op e = go (is_whole h) refl
  where
    go : (t : Bool) → is_whole h ≡ t → (is_whole h ≡ true) × (said h ≡ op)
    go true q = (q, some_is (rw q at e))
    go false q = not_some (rw q at e)

unsaid_is : (h : HostOperation) → operation_of h ≡ none → is_whole h ≡ false
unfolding operation_of
unsaid_is h e = go (is_whole h) refl
  where
    go : (t : Bool) → is_whole h ≡ t → is_whole h ≡ false
    go true q = not_some (sym (rw q at e))
    go false q = q

said_fits : (h : HostOperation) → ItemFits h → OperationFits (said h)
unfolding said
said_fits (set_transform n m) b = matrix_at_fits m 0
said_fits (multiply_transform n m) b = matrix_at_fits m 0
said_fits (set_material m) b = material_at_fits m 0
said_fits (set_light i l) b = (b.0, light_at_fits l 0 b.1)
said_fits (enable_light i on) b = b
said_fits (set_fog_start bits) b = of_bits-fits binary32 bits
said_fits (set_fog_end bits) b = of_bits-fits binary32 bits
said_fits (set_fog_density bits) b = of_bits-fits binary32 bits
said_fits (set_ambient color) b = b
said_fits (set_texture_mask mask) b = b
said_fits (mark bits) b = tt

pub operation_fits : (h : HostOperation) (op : Operation) → operation_of h ≡ some op → ItemFits h → OperationFits op
operation_fits h op e b = subst OperationFits (said_is h op e).1 (said_fits h b)

-- ---- the call

-- each is a call by value over an image
answer_is : (h : HostOperation) (image : List ℕ)
    → host_answer h image ≡ changing (λ s. called (operate s (said h)).number (operate s (said h)).state) (item_number h) image
unfolding host_answer said is_whole length_number operate
answer_is (set_transform n m) image = refl
answer_is (multiply_transform n m) image = refl
answer_is (set_material m) image = refl
answer_is (set_light i l) image = refl
answer_is (enable_light i on) image = refl
answer_is (set_fog_start bits) image = refl
answer_is (set_fog_end bits) image = refl
answer_is (set_fog_density bits) image = refl
answer_is (set_ambient color) image = refl
answer_is (set_texture_mask mask) image = refl
answer_is (mark bits) image = refl

next_is : (n next : ℕ) → or_next n next ≡ cond (eqb n 0) next n
unfolding or_next
next_is zero next = refl
next_is (suc n) next = rw (ne_eqb (suc n) 0 (λ (e : suc n ≡ 0). absurd (omega arith)))

module _ (h : HostOperation) (image : List ℕ) where
  abbrev own : FfState → ℕ
  own s = (operate s (said h)).number

  abbrev after : Operated
  after = operate (state_of image) (said h)

  code : (host_answer h image).code ≡ call_code own (item_number h) image
  unfolding changing
  code = ap (λ (r : Answer (List ℕ)). r.code) (answer_is h image) ∙ answered_code (call_code own (item_number h) image) _ image

  -- the image written back, or as found
  left : (((host_answer h image).code ≡ 0) × ((host_answer h image).out ≡ image_bytes after.state)) ⊎ (((host_answer h image).code ≡ 0 → ⊥) × ((host_answer h image).out ≡ image))
  unfolding changing
  left =
      let out = ap (λ (r : Answer (List ℕ)). r.out) (answer_is h image) in
      ⊎_elim (λ y. inl (code ∙ y.0, out ∙ y.1)) (λ n. inr ((λ (z : (host_answer h image).code ≡ 0). n.0 (sym code ∙ z)), out ∙ n.1))
      (answered_either (call_code own (item_number h) image) (image_bytes after.state) image)

  -- "a refusal leaves the image as found": of any bytes
  pub host_refused_same : ((host_answer h image).code ≡ 0 → ⊥) → (host_answer h image).out ≡ image
  host_refused_same f = ⊎_elim (λ y. absurd (f y.0)) (λ n. n.1) left

  -- on any bytes the number is document 01's
  pub host_refused-alike : Bytes image → (host_answer h image).code ≡ host_refusal image h
  unfolding host_refusal
  host_refused-alike b = go (refused image) refl
    where
      go : (t : Bool) → refused image ≡ t → (host_answer h image).code ≡ host_refusal image h
      go true q = rw q (code ∙ code_nine own (item_number h) image q)
      go false q =
          rw q
          (code ∙ code_is own (item_number h) image q ∙ next_is after.number (item_number h)
          ∙ ap (λ (n : ℕ). cond (eqb n 0) (item_number h) n) (refused-alike (accepted_valid image b q) (image_agrees image q) (said h)))

  module _ (a : IsAccepted image) where
    valid : Valid (state_of image)
    valid = accepted_valid image a.each a.taken

    code_next : (host_answer h image).code ≡ or_next after.number (item_number h)
    code_next = code ∙ code_is own (item_number h) image a.taken

    pub host_accepted_kept : ItemFits h → IsAccepted (host_answer h image).out
    host_accepted_kept fit =
        ⊎_elim
        (λ y.
        let v = valid_kept valid (said h) (said_fits h fit) in
        subst IsAccepted (sym y.1) (record { each = image-bytes after.state; taken = valid_accepted after.state v }))
        (λ n. subst IsAccepted (sym n.1) a) left

    -- an item of another length leaves the image
    pub host_unsaid : operation_of h ≡ none → (host_answer h image).out ≡ image
    host_unsaid e =
        host_refused_same
        (λ (z : (host_answer h image).code ≡ 0).
        let four : item_number h ≡ 4 = rw (unsaid_is h e) in
        let none : item_number h ≡ 0 = next_rest after.number (item_number h) (sym code_next ∙ z) in
        omega (arith, four, none))

    module _ (op : Operation) (e : operation_of h ≡ some op) where
      -- answered as by value
      pub host_number : (host_answer h image).code ≡ (operate (state_of image) op).number
      host_number =
          let whole : item_number h ≡ 0 = rw (said_is h op e).0 in
          code_next ∙ ap (or_next after.number) whole ∙ next_zero after.number ∙ ap (λ (o : Operation). (operate (state_of image) o).number) (said_is h op e).1

      -- and the image reads as the state by value, refused or not
      pub host_state : ItemFits h → state_of (host_answer h image).out ≡ (operate (state_of image) op).state
      host_state fit =
          let same = (said_is h op e).1 in
          ⊎_elim
          (λ y. ap state_of y.1 ∙ read_written after.state (valid_kept valid (said h) (said_fits h fit)) ∙ ap (λ (o : Operation). (operate (state_of image) o).state) same)
          (λ n. ap state_of n.1 ∙ sym (refused_same (state_of image) op (λ (z : (operate (state_of image) op).number ≡ 0). n.0 (host_number ∙ z)))) left

      -- what the image holds goes on as the abstract state does
      pub host_agrees_kept : ItemFits h → Agrees (state_of (host_answer h image).out) (abstract_step (image_abstract image) op)
      host_agrees_kept fit =
          subst (λ (s : FfState). Agrees s (abstract_step (image_abstract image) op)) (sym (host_state fit))
          (agrees_kept valid (image_agrees image a.taken) op (operation_fits h op e fit))
