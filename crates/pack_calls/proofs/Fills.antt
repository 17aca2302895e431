-- The returns of a fill: 4 for another length, and past it what the section's packing answers.
-- Assumes nothing.
use Prim.Native.Nat.{ℕ, ◌*◌, ◌<◌, ◌≤◌}
use native.Mathlib.Omega.{arith}
use mathlib.Core.Path.{◌≡◌, refl, sym, ap, ◌∙◌}
use mathlib.Core.Bool.{Bool, true, false, cond}
use mathlib.Core.List.{List}
use lib.Dec.{eqb}
use lib.Ieee.{Float}
use lib.ListN.{length, take}
use lib.Seq.{length-take-le}
use borrow.Author.Tests.{eq-eqb, ne_eqb}
use Rattle.std.specs.Prelude.{Ok, Err}
use Rattle.sections.specs.declared.sections.Section.{Section}
use Rattle.ff_state.specs.declared.state.FfState.{FfState}
use Rattle.image.specs.Read.{state_of}
use Rattle.image_reasons.specs.Reasons.{refused}
use Rattle.calls.specs.Answer.{answer, answered}
use Rattle.calls.specs.Call.{call_code, reading}
use Rattle.calls.proofs.Answers.{next_zero}
use Rattle.calls.proofs.Calls.{reading_own}
use Rattle.sections.proofs.Tiles.{fits_mirror}
use Rattle.sections.specs.declared.key.FfVsKey.{FfVsKey}
use Rattle.pack_calls.specs.Fill.{mask_number, fill_bytes, fill_number, ff_fill_section}
use Rattle.packing.specs.Inputs.{mask_accepted, inputs_of}
use Rattle.packing.specs.Pack.{PackOutcome, pack_outcome, pack_inputs, pack_section, state_count, state_rows, pack_number}
use Rattle.packing.specs.declared.answer.PackError.{PackError}
use Rattle.packing.specs.declared.answer.PackError.TheVariants.{WrongLength, WrongMask}

-- document 01: "4, the destination is not 4 times the section's rows; then, for LIGHTS, 5"; a float is 4 bytes
pub fill_refuses : (σ : Section) (k : FfVsKey) (dst : List ℕ) (s : FfState)
    → fill_number σ k dst s ≡ cond (eqb (length dst) (16 * state_count σ s k)) (cond (mask_accepted σ k (inputs_of s)) 0 5) 4
unfolding fill_number pack_number
fill_refuses σ k dst s = go (eqb (length dst) (16 * state_count σ s k)) (mask_accepted σ k (inputs_of s))
  where
    go : (long mask : Bool) → pack_number (cond long (cond mask (Ok tt) (Err WrongMask)) (Err WrongLength)) ≡ cond long (cond mask 0 5) 4
    go true true = refl
    go true false = refl
    go false mask = refl

module _ (σ : Section) (s : FfState) (k : FfVsKey) {rows : ℕ} (is : rows ≡ state_count σ s k) where
  four_rows : 4 * (4 * rows) ≡ 16 * state_count σ s k
  four_rows = omega (arith, is)

  pub fill_fits : k.vertex_blend_count < 256 → 4 * rows ≤ 4460
  fill_fits byte = omega (arith, is, fits_mirror k (inputs_of s).texture_mask byte σ)

  -- a buffer of the mirror's floats has the section's at its front
  pub front : k.vertex_blend_count < 256 → (xs : List Float) → length xs ≡ 4460 → length (take (4 * rows) xs) ≡ 4 * rows
  front byte xs e = length-take-le (4 * rows) xs (omega (arith, e, fill_fits byte))

  pub front_rows : k.vertex_blend_count < 256 → (xs : List Float) → length xs ≡ 4460 → length (take (4 * rows) xs) ≡ 4 * state_count σ s k
  front_rows byte xs e = front byte xs e ∙ ap (λ (n : ℕ). 4 * n) is

  module _ (dst : List ℕ) where
    pub fill_wrong : (length dst ≡ 4 * (4 * rows) → ⊥) → fill_number σ k dst s ≡ 4
    fill_wrong n = fill_refuses σ k dst s ∙ rw (ne_eqb (length dst) (16 * state_count σ s k) (λ e. n (e ∙ sym four_rows)))

    pub fill_four : (image : List ℕ) → s ≡ state_of image → refused image ≡ false → (length dst ≡ 4 * (4 * rows) → ⊥) → answer 4 dst ≡ ff_fill_section σ image k dst
    fill_four image read r n = reading_own _ _ _ _ _ r (ap (fill_number σ k dst) (sym read) ∙ fill_wrong n)

    pub fill_right : length dst ≡ 4 * (4 * rows) → fill_number σ k dst s ≡ mask_number σ k s
    unfolding fill_number
    fill_right e = rw (eq-eqb (length dst) (16 * state_count σ s k) (e ∙ four_rows))

    -- the state is that of the image
    fill_done : (image : List ℕ) → s ≡ state_of image → refused image ≡ false → length dst ≡ 4 * (4 * rows)
        → answered (mask_number σ k s) (fill_bytes σ k s) dst ≡ ff_fill_section σ image k dst
    unfolding reading call_code
    fill_done image read r e = rw (r, ← read, fill_right e, next_zero (mask_number σ k s))

    module _ (image : List ℕ) (read : s ≡ state_of image) (r : refused image ≡ false) (e : length dst ≡ 4 * (4 * rows)) where
      by_mask : (b : Bool) → mask_accepted σ k (inputs_of s) ≡ b
          → answered (pack_number (cond b (Ok tt) (Err WrongMask))) (fill_bytes σ k s) dst ≡ ff_fill_section σ image k dst
      by_mask b m =
          sym (ap (λ (x : Bool). answered (pack_number (cond x (Ok tt) (Err WrongMask))) (fill_bytes σ k s) dst) m) ∙ fill_done image read r e

      pub fill_five : mask_accepted σ k (inputs_of s) ≡ false → answer 5 dst ≡ ff_fill_section σ image k dst
      unfolding pack_number answered
      fill_five = by_mask false

      pub fill_packed : mask_accepted σ k (inputs_of s) ≡ true → answer 0 (fill_bytes σ k s) ≡ ff_fill_section σ image k dst
      unfolding pack_number answered
      fill_packed = by_mask true

-- what packing answers of floats as many as the section's: the rows, or 5
module _ (σ : Section) (s : FfState) (k : FfVsKey) (xs : List Float) (long : length xs ≡ 4 * state_count σ s k) where
  by_mask_is : {b : Bool} → mask_accepted σ k (inputs_of s) ≡ b
      → pack_section σ s k xs ≡ cond b (pack_outcome (Ok tt) (state_rows σ s k)) (pack_outcome (Err WrongMask) xs)
  unfolding pack_section pack_inputs
  by_mask_is m = rw (eq-eqb (length xs) (4 * state_count σ s k) long, m)

  pub packed_is : (u : Unit) (ys : List Float) → pack_outcome (Ok u) ys ≡ pack_section σ s k xs → (mask_accepted σ k (inputs_of s) ≡ true) × (ys ≡ state_rows σ s k)
  packed_is u ys h = go (mask_accepted σ k (inputs_of s)) refl
    where
      go : (b : Bool) → mask_accepted σ k (inputs_of s) ≡ b → (mask_accepted σ k (inputs_of s) ≡ true) × (ys ≡ state_rows σ s k)
      go true q = (q, ap (λ (o : PackOutcome). o.floats) (h ∙ by_mask_is q))
      go false q = let told = ap (λ (o : PackOutcome). o.answer) (h ∙ by_mask_is q) in absurd (cc told)

  pub refused_is : (e : PackError) (ys : List Float) → pack_outcome (Err e) ys ≡ pack_section σ s k xs → (mask_accepted σ k (inputs_of s) ≡ false) × (e ≡ WrongMask)
  refused_is e ys h = go (mask_accepted σ k (inputs_of s)) refl
    where
      go : (b : Bool) → mask_accepted σ k (inputs_of s) ≡ b → (mask_accepted σ k (inputs_of s) ≡ false) × (e ≡ WrongMask)
      go true q = let told = ap (λ (o : PackOutcome). o.answer) (h ∙ by_mask_is q) in absurd (cc told)
      go false q = let told = ap (λ (o : PackOutcome). o.answer) (h ∙ by_mask_is q) in (q, cc told)
