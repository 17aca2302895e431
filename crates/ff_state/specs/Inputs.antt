-- What a section's rows are made from. A section that a call leaves unmarked has to keep its inputs: that is why a refresh of the marked sections is enough.
use Rattle.std.specs.Prelude.{◌≡◌, get_or}
use Rattle.ff_state.specs.State.{no_matrix}
use Rattle.ff_state.specs.Active.{active_lights}
use Rattle.sections.specs.declared.sections.Section.{Section}
use Rattle.sections.specs.declared.sections.Section.TheVariants.{Wv, Proj, Material, Lights, Palette, Tt, Fog, Ambient}
use Rattle.ff_state.specs.declared.state.FfState.{FfState}

-- Document 01, 'Rows of a section': WV from palette[0] and view, PROJ from the projection, MATERIAL from the material, LIGHTS from view and the active lights, PALETTE from the palette and view, TT from the texture matrices and (document 02, T-05) the texture mask, FOG from its three floats, AMBIENT from the colour.
abbrev pub same_inputs : Section → FfState → FfState → Type 0
same_inputs Wv s t = (s.view ≡ t.view) × (get_or s.world_palette 0 no_matrix ≡ get_or t.world_palette 0 no_matrix)
same_inputs Proj s t = s.projection ≡ t.projection
same_inputs Material s t = s.material ≡ t.material
same_inputs Lights s t = (s.view ≡ t.view) × (active_lights s ≡ active_lights t)
same_inputs Palette s t = (s.view ≡ t.view) × (s.world_palette ≡ t.world_palette)
same_inputs Tt s t = (s.texture_transforms ≡ t.texture_transforms) × (s.tt_active_mask ≡ t.tt_active_mask)
same_inputs Fog s t =
    (s.render_states.fog_start ≡ t.render_states.fog_start) × (s.render_states.fog_end ≡ t.render_states.fog_end) × (s.render_states.fog_density ≡ t.render_states.fog_density)
same_inputs Ambient s t = s.render_states.ambient ≡ t.render_states.ambient
