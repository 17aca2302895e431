-- The lights' section by its mask: none, that of the lights that are packed under the key, another. Assumes nothing.
use Prim.Native.Nat.{ℕ, ◌*◌}
use native.Mathlib.Omega.{arith}
use mathlib.Core.Path.{◌≡◌, refl, sym, ap, ◌∙◌}
use mathlib.Core.Bool.{Bool, true, false, cond}
use mathlib.Core.List.{List, [], ◌∷◌}
use lib.Bits.{bit_and}
use lib.Dec.{eqb}
use lib.Ieee.{Float}
use lib.ListN.{length, take}
use lib.Seq.{take-take}
use borrow.Author.Tests.{eq-eqb, ne_eqb, eqb-true, eqb-false}
use Rattle.lemmas.proofs.Tests.{neither}
use Rattle.d3d9_types.specs.declared.light.D3DLIGHT9.{D3DLIGHT9}
use Rattle.light_table.specs.Active.{low_bits, masks_of}
use Rattle.ff_state.specs.Active.{active_lights, compacted_light_masks}
use Rattle.sections.specs.declared.sections.Section.TheVariants.{Lights}
use Rattle.ff_state.specs.declared.state.FfState.{FfState}
use Rattle.rows.specs.Rows.{floats}
use Rattle.light_rows.specs.Light.{lights_rows}
use Rattle.sections.specs.Counts.{places, light_count}
use Rattle.sections.specs.Key.{limit_of, light_limit}
use Rattle.sections.specs.declared.key.FfVsKey.{FfVsKey}
use Rattle.packing.specs.Inputs.{packed_lights, packed_rows, mask_accepted, inputs_of}
use Rattle.packing.specs.Pack.{state_rows}
use Rattle.packing.proofs.Lengths.{places-none, lights_length}

pub empty : (xs : List Float) → length xs ≡ 0 → xs ≡ []
empty [] e = refl
empty (x ∷ xs) e = absurd (omega arith)

-- the mask of the first four lights is the low four bits of that of the first eight
low_four : (ls : List D3DLIGHT9) → low_bits (length (take 4 ls)) ≡ bit_and (low_bits (length (take 8 ls))) 0x0F
unfolding low_bits
low_four [] = refl
low_four (a ∷ []) = refl
low_four (a ∷ b ∷ []) = refl
low_four (a ∷ b ∷ c ∷ []) = refl
low_four (a ∷ b ∷ c ∷ d ∷ []) = refl
low_four (a ∷ b ∷ c ∷ d ∷ e ∷ []) = refl
low_four (a ∷ b ∷ c ∷ d ∷ e ∷ f ∷ []) = refl
low_four (a ∷ b ∷ c ∷ d ∷ e ∷ f ∷ g ∷ []) = refl
low_four (a ∷ b ∷ c ∷ d ∷ e ∷ f ∷ g ∷ h ∷ ls) = refl

module _ (s : FfState) (k : FfVsKey) where
  -- the lights that are packed
  abbrev pub packed : List D3DLIGHT9
  packed = take (light_limit k) (active_lights s)

  pub none_accepted : k.light_active_mask ≡ 0 → mask_accepted Lights k (inputs_of s) ≡ true
  unfolding mask_accepted
  none_accepted e = rw (eq-eqb k.light_active_mask 0 e)

  pub none-packed : (dst : List Float) → length dst ≡ 4 * light_count k → k.light_active_mask ≡ 0 → dst ≡ state_rows Lights s k
  unfolding packed_rows floats light_count
  none-packed dst long e =
      rw (eq-eqb k.light_active_mask 0 e)
      (empty dst (omega (arith, long, ap places e ∙ places-none)))

  -- a mask other than 0 that is accepted is theirs, so the section has six rows for each
  pub some_counted : (k.light_active_mask ≡ 0 → ⊥) → mask_accepted Lights k (inputs_of s) ≡ true → light_count k ≡ 6 * length packed
  unfolding mask_accepted masks_of
  some_counted some m =
      sym (lights_length k (inputs_of s) (eqb-true k.light_active_mask (low_bits (length packed)) (rw (ne_eqb k.light_active_mask 0 some) at m)))

  module _ (n : ℕ) (some : k.light_active_mask ≡ 0 → ⊥) (counted : n ≡ length packed) where
    pub its_accepted : k.light_active_mask ≡ low_bits n → mask_accepted Lights k (inputs_of s) ≡ true
    unfolding mask_accepted masks_of
    its_accepted e =
        rw (ne_eqb k.light_active_mask 0 some, eq-eqb k.light_active_mask (low_bits (length packed)) (e ∙ ap low_bits counted))

    pub another_refused : (k.light_active_mask ≡ low_bits n → ⊥) → mask_accepted Lights k (inputs_of s) ≡ false
    unfolding mask_accepted masks_of
    another_refused f =
        rw (ne_eqb k.light_active_mask 0 some, ne_eqb k.light_active_mask (low_bits (length packed)) (λ e. f (e ∙ ap low_bits (sym counted))))

  pub some_packed : (k.light_active_mask ≡ 0 → ⊥) → floats (lights_rows s.view packed) ≡ state_rows Lights s k
  unfolding packed_rows
  some_packed some = rw (ne_eqb k.light_active_mask 0 some)

  -- ---- the papers' words

  -- the compacted active mask; of the preview its low four bits: "its mask has at most four bits"
  abbrev pub limit_mask : ℕ
  limit_mask = cond k.preview (bit_and (compacted_light_masks s).active 0x0F) (compacted_light_masks s).active

  pub packed_mask : (masks_of (packed_lights k (inputs_of s))).active ≡ limit_mask
  unfolding limit_of compacted_light_masks masks_of
  packed_mask = by k.preview
    where
      by : (b : Bool)
          → low_bits (length (take (limit_of b) (active_lights s))) ≡ cond b (bit_and (low_bits (length (take 8 (active_lights s)))) 0x0F) (low_bits (length (take 8 (active_lights s))))
      by true = low_four (active_lights s)
      by false = refl

  -- "The preview list is the first four of the full one", which has eight
  pub preview_list : k.preview ≡ true → packed_lights k (inputs_of s) ≡ take 4 (take 8 (active_lights s))
  unfolding limit_of
  preview_list e = rw e (sym (take-take 4 8 (active_lights s) (omega arith)))

  pub full_list : k.preview ≡ false → packed_lights k (inputs_of s) ≡ take 8 (active_lights s)
  unfolding limit_of
  full_list e = rw e

  -- "the light mask is not 0 and is not the compacted active mask", under the key's limit
  abbrev Another : Type 0
  Another = (k.light_active_mask ≡ 0 → ⊥) × (k.light_active_mask ≡ limit_mask → ⊥)

  pub refused_another : mask_accepted Lights k (inputs_of s) ≡ false → Another
  unfolding mask_accepted
  refused_another e =
      let own = (masks_of packed).active in
      let n = neither (eqb k.light_active_mask 0) (eqb k.light_active_mask own) e in
      (eqb-false k.light_active_mask 0 n.0, λ q. eqb-false k.light_active_mask own n.1 (q ∙ sym packed_mask))

  pub another_is_refused : Another → mask_accepted Lights k (inputs_of s) ≡ false
  unfolding mask_accepted
  another_is_refused n =
      rw (ne_eqb k.light_active_mask 0 n.0, ne_eqb k.light_active_mask (masks_of packed).active (λ e. n.1 (e ∙ packed_mask)))
