-- Two keys have the same shape fields or not: each field is compared. Assumes nothing.
use Prim.Native.Nat.{ℕ}
use mathlib.Core.Path.{◌≡◌, refl, sym}
use mathlib.Core.Logic.{◌⊎◌, inl, inr}
use mathlib.Core.Bool.{Bool, true, false}
use lib.Dec.{eqb}
use borrow.Author.Tests.{eqb-true, eqb-false}
use Rattle.lemmas.proofs.Tests.{never}
use Rattle.sections.specs.Key.{SameShape}
use Rattle.sections.specs.declared.key.FfVsKey.{FfVsKey}

abbrev Either : Type 0 → Type 0
Either A = A ⊎ (A → ⊥)

bools : (a b : Bool) → Either (a ≡ b)
bools true true = inl refl
bools true false = inr (λ (e : true ≡ false). never e)
bools false true = inr (λ (e : false ≡ true). never (sym e))
bools false false = inl refl

numbers : (a b : ℕ) → Either (a ≡ b)
numbers a b = go (eqb a b) refl
  where
    go : (t : Bool) → eqb a b ≡ t → Either (a ≡ b)
    go true q = inl (eqb-true a b q)
    go false q = inr (eqb-false a b q)

pub same_shape : (j k : FfVsKey) → SameShape j k ⊎ (SameShape j k → ⊥)
same_shape j k =
    go (bools j.lighting_enabled k.lighting_enabled) (bools j.specular_enable k.specular_enable)
    (bools j.vertex_blend_indexed k.vertex_blend_indexed) (bools j.preview k.preview) (numbers j.light_active_mask k.light_active_mask) (numbers j.fog_mode k.fog_mode)
    (numbers j.vertex_blend_count k.vertex_blend_count)
  where
    go : Either (j.lighting_enabled ≡ k.lighting_enabled) → Either (j.specular_enable ≡ k.specular_enable)
        → Either (j.vertex_blend_indexed ≡ k.vertex_blend_indexed) → Either (j.preview ≡ k.preview) → Either (j.light_active_mask ≡ k.light_active_mask)
        → Either (j.fog_mode ≡ k.fog_mode)
        → Either (j.vertex_blend_count ≡ k.vertex_blend_count) → Either (SameShape j k)
    go (inl a) (inl b) (inl c) (inl p) (inl d) (inl f) (inl e) =
        inl (record { lighting_enabled = a; specular_enable = b; vertex_blend_indexed = c; preview = p; light-active-mask = d; fog_mode = f; vertex_blend_count = e })
    go (inr n) b c p d f e = inr (λ (x : SameShape j k). n x.lighting_enabled)
    go (inl a) (inr n) c p d f e = inr (λ (x : SameShape j k). n x.specular_enable)
    go (inl a) (inl b) (inr n) p d f e = inr (λ (x : SameShape j k). n x.vertex_blend_indexed)
    go (inl a) (inl b) (inl c) (inr n) d f e = inr (λ (x : SameShape j k). n x.preview)
    go (inl a) (inl b) (inl c) (inl p) (inr n) f e = inr (λ (x : SameShape j k). n x.light-active-mask)
    go (inl a) (inl b) (inl c) (inl p) (inl d) (inr n) e = inr (λ (x : SameShape j k). n x.fog_mode)
    go (inl a) (inl b) (inl c) (inl p) (inl d) (inl f) (inr n) = inr (λ (x : SameShape j k). n x.vertex_blend_count)
