-- What is computed of all the sections holds of each.
use Prim.Native.Nat.{ℕ, zero, suc, ◌^◌, ◌<◌}
use native.Mathlib.Nat.{le_of_suc-le-suc, not-suc-le-zero}
use native.Mathlib.Omega.{arith}
use mathlib.Core.Path.{◌≡◌, refl, sym, ap, subst, ◌∙◌}
use mathlib.Core.Bool.{Bool, true, ◌&&◌}
use mathlib.Core.List.{List, [], ◌∷◌, map}
use lib.Dec.{T}
use lib.ListN.{length, get_or, drop}
use lib.Ieee.Fits.{and_l, and_r}
use Rattle.sections.specs.Sections.{sections, bit_of, bit_place}
use Rattle.sections.specs.declared.sections.TheConstants.{SECTIONS}
use Rattle.sections.specs.declared.sections.Section.{Section}
use Rattle.sections.specs.declared.sections.Section.TheVariants.{Wv, Proj, Material, Lights, Palette, Tt, Fog, Ambient}

-- the array of the code
pub sections_are : SECTIONS ≡ sections
sections_are = refl

-- a test of every section
abbrev pub every : (Section → Bool) → List Section → Bool
every f [] = true
every f (σ ∷ σs) = f σ && every f σs

at : (f : Section → Bool) (σs : List Section) → T (every f σs) → (i : ℕ) → i < length σs → T (f (get_or σs i Wv))
at f [] all i h = absurd (not-suc-le-zero h)
at f (σ ∷ σs) all zero h = and_l (f σ) (every f σs) all
at f (σ ∷ σs) all (suc i) h = at f σs (and_r (f σ) (every f σs) all) i (le_of_suc-le-suc h)

-- the place of a section's bit is its place in the list
pub listed : (σ : Section) → (get_or sections (bit_place σ) Wv ≡ σ) × (bit_place σ < length sections)
listed Wv = (refl, omega arith)
listed Proj = (refl, omega arith)
listed Material = (refl, omega arith)
listed Lights = (refl, omega arith)
listed Palette = (refl, omega arith)
listed Tt = (refl, omega arith)
listed Fog = (refl, omega arith)
listed Ambient = (refl, omega arith)

pub each : (f : Section → Bool) → T (every f sections) → (σ : Section) → T (f σ)
each f all σ = subst (λ (τ : Section). T (f τ)) (listed σ).0 (at f sections all (bit_place σ) (listed σ).1)

-- two functions that are equal over the list are equal at each section
module _ {A : Type 0} (f g : Section → A) where
  equal_at : (σs : List Section) → map f σs ≡ map g σs → (i : ℕ) → i < length σs → f (get_or σs i Wv) ≡ g (get_or σs i Wv)
  equal_at [] e i h = absurd (not-suc-le-zero h)
  equal_at (σ ∷ σs) e zero h = ap (λ (xs : List A). get_or xs 0 (f σ)) e
  equal_at (σ ∷ σs) e (suc i) h = equal_at σs (ap (λ (xs : List A). drop 1 xs) e) i (le_of_suc-le-suc h)

  pub same_sections : map f sections ≡ map g sections → (σ : Section) → f σ ≡ g σ
  same_sections e σ = subst (λ (τ : Section). f τ ≡ g τ) (listed σ).0 (equal_at sections e (bit_place σ) (listed σ).1)

-- ---- by places

pub same_place : (σ τ : Section) → bit_place σ ≡ bit_place τ → σ ≡ τ
same_place σ τ e = sym (listed σ).0 ∙ ap (λ (i : ℕ). get_or sections i Wv) e ∙ (listed τ).0

-- a section's bit stands at its place
pub bit-place : (σ : Section) → bit_of σ ≡ 2 ^ bit_place σ
bit-place = same_sections bit_of (λ σ. 2 ^ bit_place σ) refl
