-- Document 01's row counts P1 to P6 as the host asks for them, on any image with the case's texture mask, and the limit of lights: computed from the eight numbers, so that no two of them can be exchanged in code and definition alike.
-- Assumes nothing.
use Prim.Native.Nat.{ℕ}
use mathlib.Core.Path.{◌≡◌, refl, sym, ap, ◌∙◌}
use mathlib.Core.Bool.{Bool, true, false, ◌&&◌}
use mathlib.Core.List.{List, [], ◌∷◌}
use lib.Count.{count_leading_zeros}
use lib.Dec.{T, eqb, eqb→eq}
use lib.Ieee.Fits.{and_l, and_r}
use Rattle.image_reasons.specs.Reasons.{refused}
use Rattle.image.specs.Read.{state_of}
use Rattle.calls.specs.Answer.{answer}
use Rattle.calls.proofs.Calls.{reading_done}
use Rattle.sections.specs.Counts.{places, light_count, palette_matrices, palette_count, texture_count}
use Rattle.sections.specs.RowCount as RowCount
use Rattle.sections.specs.RowCount.{lighting_reach, texture_reach, palette_reach}
use Rattle.sections.specs.Key.{limit_of, light_limit}
use Rattle.sections.specs.declared.key.FfVsKey.{FfVsKey}
use Rattle.sections.specs.declared.sections.Section.TheVariants.{Tt}
use Rattle.pack_calls.specs.Key.{key_of}
use Rattle.pack_calls.specs.RowCounts.{ff_section_rows, host_row_count}

record Case : Type 0 where
  key : FfVsKey
  textures : ℕ
  rows : ℕ

abbrev case : FfVsKey → ℕ → ℕ → Case
case k t n = record { key = k; textures = t; rows = n }

-- HAS_RHW, LIGHTING_ENABLED, SPECULAR_ENABLE, VERTEX_BLEND_INDEXED, preview, light_active_mask, fog_mode, vertex_blend_count: P1 to P6, a mask with a gap,
-- a fog mode and a preview of eight places, which no row follows from. A flag is set by any number but 0. Then texture masks: the row behind the last place's matrix, where the lights do not reach it.
cases : List Case
cases =
    case (key_of 0 0 0 0 0 0 0 0) 0 11
    ∷ case (key_of 0 1 0 0 0 0 0 0) 0 14
    ∷ case (key_of 0 2 3 0 0 0 0 0) 0 15
    ∷ case (key_of 0 1 0 0 0 1 0 0) 0 21
    ∷ case (key_of 0 255 0 0 0 0xFF 0 0) 0 63
    ∷ case (key_of 0 0 0 4 0 0 0 1) 0 255
    ∷ case (key_of 0 0 0 0 0 0 0 255) 0 1115
    ∷ case (key_of 2 0 0 0 0 0 0 0) 0 1
    ∷ case (key_of 0 1 0 0 0 4 0 0) 0 33
    ∷ case (key_of 0 1 0 0 0 0 255 0) 0 14
    ∷ case (key_of 0 1 0 0 1 0xFF 0 0) 0 63
    ∷ case (key_of 0 0 0 0 0 0 0 0) 1 67
    ∷ case (key_of 0 0 0 0 0 0 0 0) 4 75
    ∷ case (key_of 0 0 0 0 0 0 0 0) 0x80 95
    ∷ case (key_of 0 1 0 0 0 0xFF 0 0) 1 67
    ∷ []

abbrev right : Case → Bool
right c = eqb (RowCount.ff_vs_row_count c.key c.textures) c.rows

abbrev every : List Case → Bool
every [] = true
every (c ∷ cs) = right c && every cs

counts_right : T (every cases)
unfolding cases RowCount.ff_vs_row_count lighting_reach texture_reach palette_reach light_count palette_count palette_matrices texture_count places count_leading_zeros
counts_right = tt

-- the fifth number alone is the preview's
pub limits_right : (light_limit (key_of 0 0 0 0 2 0 0 0) ≡ 4) × (light_limit (key_of 1 1 1 1 0 0xFF 1 1) ≡ 8)
unfolding limit_of
limits_right = (refl, refl)

-- what the host is answered, whatever the lent number and the rest of the image
module _ (image : List ℕ) (h : refused image ≡ false) (out : ℕ) where
  abbrev Counted : List Case → Type 0
  Counted [] = Unit {0}
  Counted (c ∷ cs) =
      ((state_of image).tt_active_mask ≡ c.textures → host_row_count image c.key out ≡ answer 0 c.rows) × Counted cs

  counted : (cs : List Case) → T (every cs) → Counted cs
  counted [] all = tt
  counted (c ∷ cs) all =
      let rows : RowCount.ff_vs_row_count c.key c.textures ≡ c.rows = eqb→eq (RowCount.ff_vs_row_count c.key c.textures) c.rows (and_l (right c) (every cs) all) in (
        λ e. sym (reading_done _ _ _ _ _ h refl refl (sym (ap (RowCount.ff_vs_row_count c.key) e ∙ rows))),
        counted cs (and_r (right c) (every cs) all),
      )

  host_counts : Counted cases
  host_counts = counted cases counts_right

  -- TT's rows: four for each stage up to the mask's highest bit, under any key
  tt_rows : (state_of image).tt_active_mask ≡ 4 → (k : FfVsKey) → ff_section_rows Tt image k out ≡ answer 0 12
  unfolding texture_count places count_leading_zeros
  tt_rows e k = sym (reading_done _ _ _ _ _ h refl refl (sym (ap texture_count e)))
