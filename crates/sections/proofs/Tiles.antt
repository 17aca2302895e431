-- The sections lie one behind the other and fit document 01's 1,115 rows, whatever the key, and each is told by its first row.
use Prim.Native.Nat.{ℕ, ◌+◌, ◌≤◌, ◌<◌}
use native.Mathlib.Omega.{arith}
use mathlib.Core.Path.{◌≡◌}
use mathlib.Core.Bool.{Bool, not, ◌||◌}
use lib.Dec.{T, eqb, ltb, leb, leb→le, eqb→eq}
use borrow.Author.Tests.{lt-ltb, eq-eqb}
use Rattle.sections.specs.Sections.{sections, bit_place, first_row}
use Rattle.sections.specs.declared.sections.Section.{Section}
use Rattle.sections.specs.declared.sections.Section.TheVariants.{Wv, Proj, Material, Lights, Palette, Tt, Fog, Ambient}
use Rattle.sections.specs.Counts.{section_rows}
use Rattle.sections.specs.declared.key.FfVsKey.{FfVsKey}
use Rattle.sections.proofs.Every.{every, each, same_place}
use Rattle.sections.proofs.Bounds.{material_most, lights_most, palette_most, texture_most}

-- where a section ends at the latest
abbrev end : Section → ℕ
end Wv = 4
end Proj = 8
end Fog = 9
end Ambient = 10
end Material = 15
end Lights = 63
end Tt = 95
end Palette = 1115

follows : (a b e : ℕ) → T (not (ltb a b) || leb e b) → a < b → e ≤ b
follows a b e so h = leb→le e b (rw (lt-ltb a b h) at so)

module _ (k : FfVsKey) (t : ℕ) (byte : k.vertex_blend_count < 256) where
  ends : (σ : Section) → first_row σ + section_rows σ k t ≤ end σ
  ends Wv = omega arith
  ends Proj = omega arith
  ends Fog = omega arith
  ends Ambient = omega arith
  ends Material = omega (arith, material_most k)
  ends Lights = omega (arith, lights_most k)
  ends Tt = omega (arith, texture_most t)
  ends Palette = omega (arith, palette_most k byte)

  pub fits_mirror : (σ : Section) → first_row σ + section_rows σ k t ≤ 1115
  fits_mirror σ = omega (arith, ends σ, leb→le (end σ) 1115 (each (λ τ. leb (end τ) 1115) tt σ))

  -- a section that begins before another ends before it: computed for every two
  abbrev ordered : Section → Section → Bool
  ordered σ τ = not (ltb (first_row σ) (first_row τ)) || leb (end σ) (first_row τ)

  all_ordered : T (every (λ σ. every (ordered σ) sections) sections)
  all_ordered = tt

  pub apart : (σ τ : Section) → first_row σ < first_row τ → first_row σ + section_rows σ k t ≤ first_row τ
  apart σ τ h =
      let so : T (ordered σ τ) = each (ordered σ) (each (λ σ. every (ordered σ) sections) all_ordered σ) τ in
      omega (arith, ends σ, follows (first_row σ) (first_row τ) (end σ) so h)

-- no two begin at one row: computed likewise
abbrev first_tells : Section → Section → Bool
first_tells σ τ = not (eqb (first_row σ) (first_row τ)) || eqb (bit_place σ) (bit_place τ)

all_tell : T (every (λ σ. every (first_tells σ) sections) sections)
all_tell = tt

pub same_first : (σ τ : Section) → first_row σ ≡ first_row τ → σ ≡ τ
same_first σ τ e =
    let so : T (first_tells σ τ) = each (first_tells σ) (each (λ σ. every (first_tells σ) sections) all_tell σ) τ in
    same_place σ τ (eqb→eq (bit_place σ) (bit_place τ) (rw (eq-eqb (first_row σ) (first_row τ) e) at so))
