-- The material. Assumes nothing.
use native.Mathlib.Omega.{arith}
use mathlib.Core.Path.{refl}
use Rattle.d3d9_types.specs.Material.{materialFits}
use Rattle.d3d9_types.specs.declared.material.D3DMATERIAL9.{D3DMATERIAL9}
use Rattle.d3d9_model.specs.State.{AbstractState}
use Rattle.d3d9_model.specs.Operations.{abstract_refusal, abstract_change, abstract_step}
use Rattle.d3d9_model.specs.Operations as Operations
use Rattle.sections.specs.Sections.{bit_of}
use Rattle.ff_state.specs.Material.{set_material}
use Rattle.ff_state.specs.Valid.{Valid}
use Rattle.sections.specs.declared.sections.Section.TheVariants as Sections
use Rattle.ff_state.specs.declared.state.FfState.{FfState}
use Rattle.agreement.specs.Agrees.{Agrees, state_lights}
use Rattle.agreement.proofs.Dirty.{dirtied_valid, dirtied_agrees}

module _ {s : FfState} (m : D3DMATERIAL9) where
  pub material_valid : materialFits m → Valid s → Valid (set_material s m)
  unfolding set_material
  material_valid h v =
      dirtied_valid (bit_of Sections.Material) (omega arith)
      (record {
        palette_length = v.palette_length;
        texture_length = v.texture_length;
        lights_length = v.lights_length;
        overflow_length = v.overflow_length;
        high_water = v.high_water;
        states = v.states;
        texture-mask = v.texture-mask;
        dirty = v.dirty;
        slots = v.slots;
        overflow = v.overflow;
        floats =
            record {
              view = v.floats.view;
              projection = v.floats.projection;
              palette = v.floats.palette;
              texture = v.floats.texture;
              material = h;
              lights = v.floats.lights;
              overflow = v.floats.overflow;
            };
      })

  pub material_agrees : {a : AbstractState} → Agrees s a → Agrees (set_material s m) (abstract_step a (Operations.set_material m))
  unfolding set_material state_lights abstract_step abstract_refusal abstract_change
  material_agrees g =
      dirtied_agrees (bit_of Sections.Material)
      (record { matrices = g.matrices; material = refl; lights = g.lights; highest = g.highest; states = g.states; texture-mask = g.texture-mask })
