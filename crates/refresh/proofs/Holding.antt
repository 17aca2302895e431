-- Sections written one after another: each that the bits name holds its packing at the end, since no other section lies where it does; every float outside of them stays.
-- Assumes nothing.
use Prim.Native.Nat.{ℕ, zero, suc, ◌+◌, ◌*◌, ◌<◌}
use native.Mathlib.Nat.{le_of_suc-le-suc, not-suc-le-zero}
use native.Mathlib.Omega.{arith}
use mathlib.Core.Path.{◌≡◌, refl, sym, ap, subst, ◌∙◌}
use mathlib.Core.Logic.{◌⊎◌, inl, inr}
use mathlib.Core.Bool.{Bool, true, false}
use mathlib.Core.List.{List, [], ◌∷◌}
use lib.Dec.{ltb}
use lib.Ieee.{Float, nan}
use lib.ListN.{length, get_or}
use borrow.Author.Tests.{ltb-true, ltb-false}
use Rattle.lemmas.proofs.Tests.{never}
use Rattle.lemmas.proofs.Branch.{branch}
use Rattle.codec.specs.Put.{put}
use Rattle.codec.proofs.Put.{Outside, length-put}
use Rattle.sections.specs.Sections.{sections, bit_place, has_section, first_row}
use Rattle.sections.specs.declared.sections.Section.{Section}
use Rattle.sections.specs.declared.sections.Section.TheVariants.{Wv}
use Rattle.ff_state.specs.declared.state.FfState.{FfState}
use Rattle.sections.specs.declared.key.FfVsKey.{FfVsKey}
use Rattle.sections.proofs.Every.{listed}
use Rattle.sections.proofs.Tiles.{apart, same_first}
use Rattle.packing.specs.Pack.{state_rows, state_count}
use Rattle.refresh.specs.Written.{first_float, written_section, written}
use Rattle.refresh.proofs.Packed.{Ready, rows-length, fits}
use Rattle.refresh.proofs.Parts.{Holds, put_holds, put_outside}
use Rattle.packing.specs.Inputs.{inputs_of}

-- one of a list
abbrev pub In : Section → List Section → Type 0
In σ [] = ⊥
In σ (τ ∷ τs) = (σ ≡ τ) ⊎ In σ τs

in_at : (σs : List Section) (i : ℕ) → i < length σs → In (get_or σs i Wv) σs
in_at [] i h = absurd (not-suc-le-zero h)
in_at (σ ∷ σs) zero h = inl refl
in_at (σ ∷ σs) (suc i) h = inr (in_at σs i (le_of_suc-le-suc h))

pub every_in : (σ : Section) → In σ sections
every_in σ = subst (λ (τ : Section). In τ sections) (listed σ).0 (in_at sections (bit_place σ) (listed σ).1)

-- before, behind or the same
three : {A : Type 0} (a b : ℕ) → (a < b → A) → (b < a → A) → (a ≡ b → A) → A
three {A} a b f g h = go (ltb a b) (ltb b a) refl refl
  where
    go : (t u : Bool) → ltb a b ≡ t → ltb b a ≡ u → A
    go true u p q = f (ltb-true a b p)
    go false true p q = g (ltb-true b a q)
    go false false p q = h (omega (arith, ltb-false a b p, ltb-false b a q))

module _ {s : FfState} {k : FfVsKey} (r : Ready s k) (bits : ℕ) where
  -- ---- one section

  section_length : (σ : Section) (m : List Float) → length m ≡ 4460 → length (written_section σ bits s k m) ≡ 4460
  unfolding written_section
  section_length σ m long =
      branch (λ (x : List Float). length x ≡ 4460) (has_section bits σ) (put (first_float σ) (state_rows σ s k) m) m
      (λ on. length-put (first_float σ) (state_rows σ s k) m (omega (arith, long, fits r σ)) ∙ long)
      (λ off. long)

  section_outside : (σ : Section) (m : List Float) → length m ≡ 4460 → (i : ℕ) → (has_section bits σ ≡ true → Outside (first_float σ) (length (state_rows σ s k)) i)
      → get_or (written_section σ bits s k m) i nan ≡ get_or m i nan
  unfolding written_section
  section_outside σ m long i out =
      branch (λ (x : List Float). get_or x i nan ≡ get_or m i nan) (has_section bits σ) (put (first_float σ) (state_rows σ s k) m) m
      (λ on. put_outside (first_float σ) (state_rows σ s k) m (omega (arith, long, fits r σ)) i (out on))
      (λ off. refl)

  section_holds : (σ : Section) (m : List Float) → length m ≡ 4460 → has_section bits σ ≡ true → Holds (written_section σ bits s k m) (first_float σ) (state_rows σ s k)
  unfolding written_section
  section_holds σ m long on = rw on (put_holds (first_float σ) (state_rows σ s k) m (omega (arith, long, fits r σ)))

  -- what lies in another section's place stays
  other_holds : (σ τ : Section) → (has_section bits τ ≡ true → σ ≡ τ → ⊥) → (m p : List Float) → length m ≡ 4460 → length p ≡ 4 * state_count σ s k
      → Holds m (first_float σ) p → Holds (written_section τ bits s k m) (first_float σ) p
  other_holds σ τ another m p long full h j small = section_outside τ m long (first_float σ + j) out ∙ h j small
    where
      out : has_section bits τ ≡ true → Outside (first_float τ) (length (state_rows τ s k)) (first_float σ + j)
      out on =
          three (first_row σ) (first_row τ)
          (λ before. inl (omega (arith, full, small, apart k (inputs_of s).texture_mask r.count σ τ before)))
          (λ behind. inr (omega (arith, rows-length r τ, apart k (inputs_of s).texture_mask r.count τ σ behind)))
          (λ same. absurd (another on (same_first σ τ same)))

  -- ---- a list of them

  pub written-length : (σs : List Section) (m : List Float) → length m ≡ 4460 → length (written σs bits s k m) ≡ 4460
  unfolding written
  written-length [] m long = long
  written-length (σ ∷ σs) m long = written-length σs (written_section σ bits s k m) (section_length σ m long)

  pub written_outside : (σs : List Section) (m : List Float) → length m ≡ 4460 → (i : ℕ) → ((σ : Section) → has_section bits σ ≡ true → Outside (first_float σ) (length (state_rows σ s k)) i)
      → get_or (written σs bits s k m) i nan ≡ get_or m i nan
  unfolding written
  written_outside [] m long i out = refl
  written_outside (σ ∷ σs) m long i out = written_outside σs (written_section σ bits s k m) (section_length σ m long) i out ∙ section_outside σ m long i (out σ)

  -- a section that the bits do not name holds what it held
  pub written_off : (σs : List Section) (σ : Section) → has_section bits σ ≡ false → (m p : List Float) → length m ≡ 4460 → length p ≡ 4 * state_count σ s k
      → Holds m (first_float σ) p → Holds (written σs bits s k m) (first_float σ) p
  unfolding written
  written_off [] σ off m p long full h = h
  written_off (τ ∷ τs) σ off m p long full h =
      written_off τs σ off (written_section τ bits s k m) p (section_length τ m long) full
      (other_holds σ τ (λ on e. never (sym on ∙ ap (has_section bits) (sym e) ∙ off)) m p long full h)

  -- one that they name is not written over by those behind it, nor by itself
  stays : (σs : List Section) (σ : Section) → has_section bits σ ≡ true → (m : List Float) → length m ≡ 4460
      → Holds m (first_float σ) (state_rows σ s k) → Holds (written σs bits s k m) (first_float σ) (state_rows σ s k)
  unfolding written
  stays [] σ on m long h = h
  stays (τ ∷ τs) σ on m long h = stays τs σ on (written_section τ bits s k m) (section_length τ m long) again
    where
      again : Holds (written_section τ bits s k m) (first_float σ) (state_rows σ s k)
      again =
          three (first_row σ) (first_row τ)
          (λ before. other_holds σ τ (λ q e. absurd (omega (arith, before, ap (λ (x : Section). first_row x) e))) m (state_rows σ s k) long (rows-length r σ) h)
          (λ behind. other_holds σ τ (λ q e. absurd (omega (arith, behind, ap (λ (x : Section). first_row x) e))) m (state_rows σ s k) long (rows-length r σ) h)
          (λ same. subst (λ (x : Section). Holds (written_section x bits s k m) (first_float σ) (state_rows σ s k)) (same_first σ τ same) (section_holds σ m long on))

  pub written_on : (σs : List Section) (σ : Section) → In σ σs → has_section bits σ ≡ true → (m : List Float) → length m ≡ 4460
      → Holds (written σs bits s k m) (first_float σ) (state_rows σ s k)
  unfolding written
  written_on [] σ is on m long = absurd is
  written_on (τ ∷ τs) σ (inl e) on m long =
      stays τs σ on (written_section τ bits s k m) (section_length τ m long)
      (subst (λ (x : Section). Holds (written_section x bits s k m) (first_float σ) (state_rows σ s k)) e (section_holds σ m long on))
  written_on (τ ∷ τs) σ (inr is) on m long = written_on τs σ is on (written_section τ bits s k m) (section_length τ m long)
