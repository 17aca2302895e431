-- The list has at most eight lights, and those that are packed stand in front.
use Rattle.std.proofs.Common.{◌≡◌, ◌∙◌, ◌*◌, ◌≤◌, sym, ap, subst, List, length, take}
use Rattle.d3d9_types.specs.declared.light.D3DLIGHT9.{D3DLIGHT9}
use Rattle.ff_state.specs.Active.{active_lights, resolve_active_lights}
use Rattle.ff_state.specs.declared.state.FfState.{FfState}
use Rattle.light_table.specs.declared.active.ActiveLights.{ActiveLights}
use Rattle.light_table.proofs.Compaction.{listed_len, listed_front}
use Rattle.sections.specs.Key.{light_limit}
use Rattle.sections.specs.declared.key.FfVsKey.{FfVsKey}
use Rattle.sections.proofs.Shape.{limit_small}
use Rattle.rows.specs.Rows.{floats}
use Rattle.light_rows.specs.Light.{lights_rows}
use Rattle.packing.proofs.LightMask.{packed}
use Rattle.packing.proofs.lights.write_active_lights.Goals as goal

module _ (s : FfState) (key : FfVsKey) (l : ActiveLights) (is : l ≡ resolve_active_lights s (light_limit key)) where
  few : l.len ≤ 8
  unfolding resolve_active_lights
  few = subst (λ (x : ActiveLights). x.len ≤ 8) (sym is) (listed_len _ (limit_small key) _)

  front : take l.len l.lights ≡ packed s key
  unfolding resolve_active_lights
  front = ap (λ (x : ActiveLights). take x.len x.lights) is ∙ listed_front (light_limit key) (active_lights s)

pub shared_ref_as_front-write_lights : goal.shared_ref_as_front-write_lights
shared_ref_as_front-write_lights c = few c.args.s.now c.args.key _ c.active_of-list.ensures

pub write_lights-requires : goal.write_lights-requires
write_lights-requires c =
    c.requires ∙ ap (λ (ls : List D3DLIGHT9). 24 * length ls) (sym (front c.args.s.now c.args.key _ c.active_of-list.ensures))

pub returns : goal.returns
returns c =
    let s = c.args.s.now in
    c.write_lights.ensures ∙ ap (λ (ls : List D3DLIGHT9). floats (lights_rows s.view ls)) (front s c.args.key _ c.active_of-list.ensures)
