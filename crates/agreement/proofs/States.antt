-- Fog, the ambient colour and the texture mask: each setter stores one field and marks its section. Assumes nothing.
use Prim.Native.Nat.{ℕ, ◌≤◌, ◌<◌}
use mathlib.Core.Path.{◌≡◌, refl, ap}
use lib.Dec.{leb, leb→le}
use lib.Ieee.{Float}
use Rattle.d3d9_types.specs.Numbers.{float_fits}
use Rattle.d3d9_types.specs.RenderStates.{with_fog_start, with_fog_end, with_fog_density, with_ambient, statesFit}
use Rattle.d3d9_types.specs.declared.render_states.RenderStates.{RenderStates}
use Rattle.d3d9_model.specs.State.{AbstractState, replaced_states}
use Rattle.d3d9_model.specs.Operations.{abstract_refusal, abstract_change, abstract_step}
use Rattle.d3d9_model.specs.Operations as Operations
use Rattle.sections.specs.Sections.{bit_of, all_bits}
use Rattle.sections.proofs.Every.{each}
use Rattle.sections.specs.declared.sections.Section.{Section}
use Rattle.sections.specs.declared.sections.Section.TheVariants as Sections
use Rattle.ff_state.specs.State.{with_render_states}
use Rattle.ff_state.specs.Dirty.{dirtied}
use Rattle.ff_state.specs.RenderStates.{set_fog_start, set_fog_end, set_fog_density, set_ambient, set_texture_mask}
use Rattle.ff_state.specs.Valid.{Valid}
use Rattle.ff_state.specs.declared.state.FfState.{FfState}
use Rattle.agreement.specs.Agrees.{Agrees, state_lights}
use Rattle.agreement.proofs.Dirty.{dirtied_valid, dirtied_agrees}

-- a section's bit is one of the eight
bit_small : (σ : Section) → bit_of σ ≤ all_bits
bit_small σ = leb→le (bit_of σ) all_bits (each (λ τ. leb (bit_of τ) all_bits) tt σ)

module _ {s : FfState} where
  states_valid : (r : RenderStates) (σ : Section) → statesFit r → Valid s → Valid (dirtied (with_render_states s r) (bit_of σ))
  states_valid r σ h v =
      dirtied_valid (bit_of σ) (bit_small σ)
      (record {
        palette_length = v.palette_length;
        texture_length = v.texture_length;
        lights_length = v.lights_length;
        overflow_length = v.overflow_length;
        high_water = v.high_water;
        states = h;
        texture-mask = v.texture-mask;
        dirty = v.dirty;
        slots = v.slots;
        overflow = v.overflow;
        floats = v.floats;
      })

  states_agree : {a : AbstractState} (r q : RenderStates) (σ : Section) → r ≡ q → Agrees s a → Agrees (dirtied (with_render_states s r) (bit_of σ)) (replaced_states a q)
  unfolding state_lights
  states_agree r q σ e g =
      dirtied_agrees (bit_of σ)
      (record { matrices = g.matrices; material = g.material; lights = g.lights; highest = g.highest; states = e; texture-mask = g.texture-mask })

  pub fog_start_valid : (x : Float) → float_fits x → Valid s → Valid (set_fog_start s x)
  unfolding set_fog_start
  fog_start_valid x h v = states_valid (with_fog_start s.render_states x) Sections.Fog (record { fog_start = h; fog_end = v.states.fog_end; fog_density = v.states.fog_density; ambient = v.states.ambient }) v

  pub fog_start_agrees : {a : AbstractState} (x : Float) → Agrees s a → Agrees (set_fog_start s x) (abstract_step a (Operations.set_fog_start x))
  unfolding set_fog_start abstract_step abstract_refusal abstract_change
  fog_start_agrees x g = states_agree _ _ Sections.Fog (ap (λ (r : RenderStates). with_fog_start r x) g.states) g

  pub fog_end_valid : (x : Float) → float_fits x → Valid s → Valid (set_fog_end s x)
  unfolding set_fog_end
  fog_end_valid x h v = states_valid (with_fog_end s.render_states x) Sections.Fog (record { fog_start = v.states.fog_start; fog_end = h; fog_density = v.states.fog_density; ambient = v.states.ambient }) v

  pub fog_end_agrees : {a : AbstractState} (x : Float) → Agrees s a → Agrees (set_fog_end s x) (abstract_step a (Operations.set_fog_end x))
  unfolding set_fog_end abstract_step abstract_refusal abstract_change
  fog_end_agrees x g = states_agree _ _ Sections.Fog (ap (λ (r : RenderStates). with_fog_end r x) g.states) g

  pub fog_density_valid : (x : Float) → float_fits x → Valid s → Valid (set_fog_density s x)
  unfolding set_fog_density
  fog_density_valid x h v = states_valid (with_fog_density s.render_states x) Sections.Fog (record { fog_start = v.states.fog_start; fog_end = v.states.fog_end; fog_density = h; ambient = v.states.ambient }) v

  pub fog_density_agrees : {a : AbstractState} (x : Float) → Agrees s a → Agrees (set_fog_density s x) (abstract_step a (Operations.set_fog_density x))
  unfolding set_fog_density abstract_step abstract_refusal abstract_change
  fog_density_agrees x g = states_agree _ _ Sections.Fog (ap (λ (r : RenderStates). with_fog_density r x) g.states) g

  pub ambient_valid : (x : ℕ) → x < 0x1_0000_0000 → Valid s → Valid (set_ambient s x)
  unfolding set_ambient
  ambient_valid x h v = states_valid (with_ambient s.render_states x) Sections.Ambient (record { fog_start = v.states.fog_start; fog_end = v.states.fog_end; fog_density = v.states.fog_density; ambient = h }) v

  pub ambient_agrees : {a : AbstractState} (x : ℕ) → Agrees s a → Agrees (set_ambient s x) (abstract_step a (Operations.set_ambient x))
  unfolding set_ambient abstract_step abstract_refusal abstract_change
  ambient_agrees x g = states_agree _ _ Sections.Ambient (ap (λ (r : RenderStates). with_ambient r x) g.states) g

  pub mask_valid : (t : ℕ) → t < 256 → Valid s → Valid (set_texture_mask s t)
  unfolding set_texture_mask
  mask_valid t h v =
      dirtied_valid (bit_of Sections.Tt) (bit_small Sections.Tt)
      (record {
        palette_length = v.palette_length;
        texture_length = v.texture_length;
        lights_length = v.lights_length;
        overflow_length = v.overflow_length;
        high_water = v.high_water;
        states = v.states;
        texture-mask = h;
        dirty = v.dirty;
        slots = v.slots;
        overflow = v.overflow;
        floats = v.floats;
      })

  pub mask_agrees : {a : AbstractState} (t : ℕ) → Agrees s a → Agrees (set_texture_mask s t) (abstract_step a (Operations.set_texture_mask t))
  unfolding set_texture_mask state_lights abstract_step abstract_refusal abstract_change
  mask_agrees t g =
      dirtied_agrees (bit_of Sections.Tt)
      (record { matrices = g.matrices; material = g.material; lights = g.lights; highest = g.highest; states = g.states; texture-mask = refl })
