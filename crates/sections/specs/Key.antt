-- Keys. Document 01, 'A refresh, from the top': "Shape fields: all except HAS_RHW and `fog_mode`." Document 02, T-01: "The limit joins the shape fields"; T-05: "`fog_mode` becomes a shape field".
use Rattle.std.specs.Prelude.{ℕ, ◌≡◌, Bool, true, false}
use Rattle.sections.specs.declared.key.FfVsKey.{FfVsKey}

pub record SameShape (k l : FfVsKey) : Type 0 where
  pub lighting_enabled : k.lighting_enabled ≡ l.lighting_enabled
  pub specular_enable : k.specular_enable ≡ l.specular_enable
  pub vertex_blend_indexed : k.vertex_blend_indexed ≡ l.vertex_blend_indexed
  pub preview : k.preview ≡ l.preview
  pub light-active-mask : k.light_active_mask ≡ l.light_active_mask
  pub fog_mode : k.fog_mode ≡ l.fog_mode
  pub vertex_blend_count : k.vertex_blend_count ≡ l.vertex_blend_count

-- Document 02, T-01: "The preview pane draws the same scene with at most four lights, while the main screen stays at eight."
unfoldable pub limit_of : Bool → ℕ
limit_of true = 4
limit_of false = 8

-- how many of the active lights are packed under a key, at most
abbrev pub light_limit : FfVsKey → ℕ
light_limit k = limit_of k.preview
