-- A mask made bit by bit: what holds at the head of the loop, and a turn of it.
-- Assumes nothing.
use Prim.Native.Nat.{ℕ, ◌+◌, ◌≤◌, ◌<◌}
use native.Mathlib.Numerals.{add-one}
use native.Mathlib.Omega.{arith}
use mathlib.Core.Path.{◌≡◌, refl, sym, ap, ◌∙◌}
use mathlib.Core.Bool.{Bool}
use mathlib.Core.List.{List, ◌∷◌}
use lib.ListN.{length, get_or, drop}
use Rattle.std.proofs.lemmas.List.{get_or-drop, drop-drop}
use Rattle.words.specs.Bits.{with_bit}
use Rattle.d3d9_types.specs.declared.light.D3DLIGHT9.{D3DLIGHT9}
use Rattle.image_lists.specs.Masks.{mask_of}

pub record Masked (p : ℕ → Bool) (lights : List D3DLIGHT9) (mask i : ℕ) : Type 0 where
  pub most : i ≤ 8
  pub count : length lights ≡ 8
  pub is : mask ≡ mask_of i p

module _ (p : ℕ → Bool) (lights : List D3DLIGHT9) where
  pub begins : length lights ≡ 8 → Masked p lights 0 0
  unfolding mask_of
  begins e = record { most = omega arith; count = e; is = refl }

  pub goes_on : (mask i : ℕ) (on : Bool) (mask' : ℕ) → i < 8 → on ≡ p i → mask' ≡ with_bit mask i on → Masked p lights mask i → Masked p lights mask' (i + 1)
  unfolding mask_of
  goes_on mask i on mask' h e f m =
      record { most = omega arith; count = m.count; is = rw (add-one, ← m.is, ← e) f }

  pub ends : (mask i : ℕ) → 8 ≤ i → Masked p lights mask i → mask ≡ mask_of 8 p
  ends mask i h m = let e : i ≡ 8 = omega (arith, m.most) in m.is ∙ ap (λ (k : ℕ). mask_of k p) e

-- of what is left from place i on, the first item stands at i, and the rest is left from i + 1 on
pub first_left : {A : Type 0} → (xs ys : List A) (i : ℕ) (y d : A) → drop i xs ≡ y ∷ ys → (get_or xs i d ≡ y) × (drop (i + 1) xs ≡ ys)
first_left {A = A} xs ys i y d e =
    let there : i ≡ i + 0 = omega arith in (
      ap (λ (j : ℕ). get_or xs j d) there ∙ sym (get_or-drop i xs 0 d) ∙ ap (λ (zs : List A). get_or zs 0 d) e,
      sym (drop-drop 1 i xs) ∙ ap (λ (zs : List A). drop 1 zs) e,
    )
