-- The eight light slots and their masks (ff_state.rs 508–531, 724–756).
use Rattle.std.specs.Prelude.{ℕ, Bool, true, cond, eqb, set}
use Rattle.d3d9_types.specs.Light.{default_light}
use Rattle.d3d9_types.specs.declared.light.D3DLIGHT9.{D3DLIGHT9}
use Rattle.words.specs.Bits.{has_bit, with_bit}
use Rattle.light_table.specs.Kinds.{contributes}
use Rattle.ff_state.specs.State.{with_lights, with_light_enabled, with_light_set_mask, with_light_defined_mask, with_light_directional_mask, with_light_spot_mask}
use Rattle.ff_state.specs.declared.state.FfState.{FfState}

-- a light in a slot: its masks follow its type, and its enable stays
unfoldable pub set_slot : FfState → ℕ → D3DLIGHT9 → FfState
set_slot s i l =
    with_light_spot_mask
    (with_light_directional_mask
    (with_light_set_mask
    (with_light_defined_mask (with_lights s (set s.lights i l)) (with_bit s.light_defined_mask i true))
    (with_bit s.light_set_mask i (contributes l.type_)))
    (with_bit s.light_directional_mask i (eqb l.type_ 3)))
    (with_bit s.light_spot_mask i (eqb l.type_ 2))

-- "Enabling or disabling an undefined light creates the default one"
unfoldable pub define_slot : FfState → ℕ → FfState
define_slot s i = cond (has_bit s.light_defined_mask i) s (set_slot s i default_light)

unfoldable pub enable_slot : FfState → ℕ → Bool → FfState
enable_slot s i on = let t = define_slot s i in with_light_enabled t (with_bit t.light_enabled i on)
