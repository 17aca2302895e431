-- A key's shape leaves HAS_RHW alone free and decides how many lights are packed, which are as many as the mask that the key can name.
--
use Prim.Native.Nat.{◌≤◌}
use native.Mathlib.Omega.{arith}
use mathlib.Core.Path.{◌≡◌, refl, ap}
use mathlib.Core.Bool.{Bool, true, false}
use lib.Count.{count_leading_zeros}
use Rattle.sections.specs.Counts.{places}
use Rattle.sections.specs.Key.{SameShape, limit_of, light_limit}
use Rattle.sections.specs.declared.key.FfVsKey.{FfVsKey}

-- "Shape fields: all except HAS_RHW and `fog_mode`"; "`fog_mode` becomes a shape field": HAS_RHW alone is free
pub free_field : (k : FfVsKey) (rhw : Bool) → SameShape k (record k { has_rhw = rhw })
free_field k rhw =
    record { lighting_enabled = refl; specular_enable = refl; vertex_blend_indexed = refl; preview = refl; light-active-mask = refl; fog_mode = refl; vertex_blend_count = refl }

-- .. and every other field is one of the shape
pub no_other_free : (k l : FfVsKey) → SameShape k l → k.has_rhw ≡ l.has_rhw → k ≡ l
no_other_free k l e r = λ i.
    record {
      has_rhw = r i;
      lighting_enabled = e.lighting_enabled i;
      specular_enable = e.specular_enable i;
      vertex_blend_indexed = e.vertex_blend_indexed i;
      preview = e.preview i;
      light_active_mask = e.light-active-mask i;
      fog_mode = e.fog_mode i;
      vertex_blend_count = e.vertex_blend_count i;
    }

-- "The limit joins the shape fields"
pub shape_limit : {k l : FfVsKey} → SameShape k l → light_limit k ≡ light_limit l
shape_limit e = ap limit_of e.preview

-- ---- how many lights are packed

-- "eight at most": the mask of eight lights is the greatest byte
pub eight_at_most : (k : FfVsKey) → k.preview ≡ false → light_limit k ≡ places 0xFF
unfolding limit_of places count_leading_zeros
eight_at_most k e = rw e

-- "The preview list is the first four of the full one, its mask has at most four bits"
pub four_in_the_preview : (k : FfVsKey) → k.preview ≡ true → light_limit k ≡ places 0x0F
unfolding limit_of places count_leading_zeros
four_in_the_preview k e = rw e

pub limit_small : (k : FfVsKey) → light_limit k ≤ 8
unfolding limit_of
limit_small k = small k.preview
  where
    small : (b : Bool) → limit_of b ≤ 8
    small true = omega arith
    small false = omega arith
