-- The fresh state is valid, and agrees with the fresh abstract state. Assumes nothing.
use native.Mathlib.Nat.{not-suc-le-zero}
use native.Mathlib.Omega.{arith}
use mathlib.Core.Path.{◌≡◌, refl, sym, subst}
use lib.ListN.{length-replicate, get_or-replicate}
use Rattle.d3d9_types.proofs.Fits.{default_light_fits, identity_fits, default_material_fits, fresh_states_fit}
use Rattle.d3d9_types.specs.Light.{default_light, lightFits}
use Rattle.d3d9_types.specs.Matrix.{identity}
use Rattle.d3d9_model.specs.State.{fresh_abstract}
use Rattle.ff_state.specs.State.{fresh_state, no_matrix}
use Rattle.light_table.specs.Entry.{zero_entry}
use Rattle.light_table.proofs.ZeroLight.{zero_light_fits}
use Rattle.light_table.specs.Overflow.{used_count, ascending}
use Rattle.ff_state.specs.Valid.{Valid, SlotsValid, OverflowValid, FloatsValid}
use Rattle.light_table.specs.declared.entry.OverflowLight.{OverflowLight}
use Rattle.ff_state.proofs.Fresh.{fresh_palette}
use Rattle.words.proofs.Words.{has_none}
use Rattle.agreement.specs.Agrees.{Agrees, defined_from, state_lights}

-- every bit of a mask that is 0 is false
fresh_slots : let s = fresh_state in SlotsValid s.lights s.light_enabled s.light_set_mask s.light_defined_mask s.light_directional_mask s.light_spot_mask
unfolding fresh_state
fresh_slots =
    record {
      enabled_width = omega arith;
      set_width = omega arith;
      defined_width = omega arith;
      directional_width = omega arith;
      spot_width = omega arith;
      enabled_defined = λ i h e. e;
      undefined_default = λ i h e. get_or-replicate 8 i default_light default_light h;
      set-mask = λ i h. rw (has_none i);
      directional_mask = λ i h. rw (has_none i);
      spot_mask = λ i h. rw (has_none i);
    }

fresh_overflow : OverflowValid fresh_state.overflow_lights fresh_state.overflow_count
unfolding fresh_state used_count ascending
fresh_overflow =
    record {
      count = omega arith;
      sorted = refl;
      flags = λ k h. absurd (not-suc-le-zero h);
      indices = λ k h. absurd (not-suc-le-zero h);
      unused = refl;
    }

fresh_floats : let s = fresh_state in FloatsValid s.view s.projection s.world_palette s.texture_transforms s.material s.lights s.overflow_lights
unfolding fresh_state zero_entry
fresh_floats =
    record {
      view = identity_fits;
      projection = identity_fits;
      palette = λ i h. rw (fresh_palette i h) identity_fits;
      texture = λ i h. rw (get_or-replicate 8 i identity no_matrix h) identity_fits;
      material = default_material_fits;
      lights = λ i h. rw (get_or-replicate 8 i default_light default_light h) default_light_fits;
      overflow = λ k h. subst (λ (e : OverflowLight). lightFits e.light) (sym (get_or-replicate 56 k zero_entry zero_entry h)) zero_light_fits;
    }

pub fresh_valid : Valid fresh_state
unfolding fresh_state
fresh_valid =
    record {
      palette_length = length-replicate 256 identity;
      texture_length = length-replicate 8 identity;
      lights_length = length-replicate 8 default_light;
      overflow_length = length-replicate 56 zero_entry;
      high_water = omega arith;
      states = fresh_states_fit;
      texture-mask = omega arith;
      dirty = omega arith;
      slots = fresh_slots;
      overflow = fresh_overflow;
      floats = fresh_floats;
    }

no-lights : state_lights fresh_state ≡ fresh_abstract.lights
unfolding state_lights fresh_state fresh_abstract defined_from used_count
no-lights = simp has_none

pub fresh_agrees : Agrees fresh_state fresh_abstract
unfolding fresh_state fresh_abstract
fresh_agrees =
    record {
      matrices =
          record {
            view = refl;
            projection = refl;
            texture = λ i h. get_or-replicate 8 i identity no_matrix h;
            palette = fresh_palette;
          };
      material = refl;
      lights = no-lights;
      highest = refl;
      states = refl;
      texture-mask = refl;
    }
