-- The row count is what the table says: one with HAS_RHW, else the row behind the last of the sections that are read.
use Prim.Native.Nat.{ℕ, zero, suc, ◌+◌, ◌*◌, ◌/◌, ◌≤◌, max, zero-le}
use native.Mathlib.Nat.{zero-mul, mul-suc}
use native.Mathlib.Omega.{arith}
use mathlib.Core.Path.{◌≡◌, refl, sym, ap, ap₂, ◌∙◌}
use mathlib.Core.Bool.{Bool, true, false, cond}
use mathlib.Core.List.{[], ◌∷◌}
use lib.Count.{count_leading_zeros, leading_le}
use lib.Dec.{eqb, eqb-suc-zero}
use borrow.Author.Tests.{ne_eqb}
use Rattle.sections.specs.declared.sections.Section.{Section}
use Rattle.sections.specs.declared.sections.Section.TheVariants.{Wv, Proj, Material, Lights, Palette, Tt, Fog, Ambient}
use Rattle.sections.specs.Counts.{places, material_count, light_count, palette_matrices, palette_count, texture_count}
use Rattle.sections.specs.RowCount.{lighting_reach, texture_reach, palette_reach, ff_vs_row_count, read_sections, reach, greatest_reach}
use Rattle.sections.specs.declared.key.FfVsKey.{FfVsKey}

-- a mask that is not 0 has a place
places_some : (n : ℕ) → 1 ≤ places (suc n)
unfolding places count_leading_zeros
places_some n = omega (arith, leading_le 7 (suc n / 2))

-- a section of some rows for each place has none exactly if the mask is 0
no_rows : (m w : ℕ) → eqb (places m * suc w) 0 ≡ eqb m 0
unfolding places count_leading_zeros
no_rows zero w = rw zero-mul
no_rows (suc n) w =
    ne_eqb (places (suc n) * suc w) 0
    (λ (e : places (suc n) * suc w ≡ 0). let f : places (suc n) * w + places (suc n) ≡ 0 = rw mul-suc at e in omega (arith, f, places_some n))
    ∙ sym (eqb-suc-zero n)

-- the parts of a key by themselves
abbrev matrices : Bool → ℕ → ℕ
matrices i n = cond (eqb n 0) 0 (cond i 40 n)

abbrev colours : Bool → Bool → ℕ
colours l sp = cond l (cond sp 5 4) 1

palette-reach : (i : Bool) (n : ℕ) → cond (eqb n 0) 0 (95 + matrices i n * 4) ≡ cond (eqb (matrices i n * 4) 0) 0 (95 + matrices i n * 4)
palette-reach i zero = refl
palette-reach true (suc n) = rw (eqb-suc-zero n)
palette-reach false (suc n) =
    rw (eqb-suc-zero n) (rw (ne_eqb (suc n * 4) 0 (λ (e : suc n * 4 ≡ 0). omega (arith, e))))

lit-reach : (l sp : Bool) (m : ℕ) → cond l (cond (eqb m 0) (cond sp 15 14) (15 + places m * 6)) 11
    ≡ max (cond l (cond (eqb (places m * 6) 0) 0 (15 + places m * 6)) 0) (cond (eqb (colours l sp) 0) 0 (10 + colours l sp))
lit-reach false sp m = refl
lit-reach true sp m = rw (no_rows m 5) (go sp m)
  where
    go : (sp : Bool) (m : ℕ) → cond (eqb m 0) (cond sp 15 14) (15 + places m * 6)
        ≡ max (cond (eqb m 0) 0 (15 + places m * 6)) (cond (eqb (cond sp 5 4) 0) 0 (10 + cond sp 5 4))
    go true zero = refl
    go false zero = refl
    go true (suc n) = rw (eqb-suc-zero n) (omega arith)
    go false (suc n) = rw (eqb-suc-zero n) (omega arith)

colours_reach : (l sp : Bool) → 11 ≤ cond (eqb (colours l sp) 0) 0 (10 + colours l sp)
colours_reach true true = omega arith
colours_reach true false = omega arith
colours_reach false sp = omega arith

regroup : (l m t p : ℕ) → max (max (max l m) t) p ≡ max l (max m (max t p))
regroup l m t p = omega arith

absorbed : (a m x : ℕ) → a ≤ m → max m x ≡ max a (max m x)
absorbed a m x h = omega arith

module _ (k : FfVsKey) (t : ℕ) where
  abbrev reaches : Section → ℕ
  reaches σ = reach σ k t

  texture : texture_reach t ≡ reaches Tt
  unfolding texture_reach reach texture_count
  texture = rw (no_rows t 3)

  palette : palette_reach k ≡ reaches Palette
  unfolding palette_reach reach palette_count palette_matrices
  palette = palette-reach k.vertex_blend_indexed k.vertex_blend_count

  lighting : lighting_reach k ≡ max (cond k.lighting_enabled (reaches Lights) 0) (reaches Material)
  unfolding lighting_reach reach light_count material_count
  lighting = lit-reach k.lighting_enabled k.specular_enable k.light_active_mask

  -- the first four sections end before the material's
  first_four : (reaches Wv ≤ reaches Proj) × (reaches Proj ≤ reaches Fog) × (reaches Fog ≤ reaches Ambient)
  unfolding reach
  first_four = (omega arith, omega arith, omega arith)

  fourth_too : reaches Ambient ≤ reaches Material
  unfolding reach material_count
  fourth_too = omega (arith, colours_reach k.lighting_enabled k.specular_enable)

  behind : max (reaches Material) (max (reaches Tt) (reaches Palette)) ≡ greatest_reach (Wv ∷ Proj ∷ Fog ∷ Ambient ∷ Material ∷ Tt ∷ Palette ∷ []) k t
  unfolding greatest_reach
  behind =
      let rest : ℕ = max (reaches Tt) (max (reaches Palette) 0) in
      let last : max (reaches Tt) (reaches Palette) ≡ rest = omega arith in
      let third : ℕ = max (reaches Ambient) (max (reaches Material) rest) in
      ap (max (reaches Material)) last
      ∙ absorbed (reaches Ambient) (reaches Material) rest fourth_too
      ∙ absorbed (reaches Fog) (reaches Ambient) (max (reaches Material) rest) first_four.2
      ∙ absorbed (reaches Proj) (reaches Fog) third first_four.1
      ∙ absorbed (reaches Wv) (reaches Proj) (max (reaches Fog) third) first_four.0

  all_read : (l : Bool) → max (max (max (cond l (reaches Lights) 0) (reaches Material)) (reaches Tt)) (reaches Palette)
      ≡ greatest_reach (cond l (Lights ∷ Wv ∷ Proj ∷ Fog ∷ Ambient ∷ Material ∷ Tt ∷ Palette ∷ []) (Wv ∷ Proj ∷ Fog ∷ Ambient ∷ Material ∷ Tt ∷ Palette ∷ [])) k t
  unfolding greatest_reach
  all_read true = regroup (reaches Lights) (reaches Material) (reaches Tt) (reaches Palette) ∙ ap (max (reaches Lights)) behind
  all_read false = regroup 0 (reaches Material) (reaches Tt) (reaches Palette) ∙ sym (absorbed 0 (reaches Material) _ zero-le) ∙ behind

  pub row_count_is : ff_vs_row_count k t ≡ cond k.has_rhw 1 (greatest_reach (read_sections k) k t)
  unfolding ff_vs_row_count read_sections
  row_count_is =
      ap (cond k.has_rhw 1)
      (ap₂ max (ap₂ max lighting texture) palette ∙ all_read k.lighting_enabled)
