-- The calls on a state in memory are calls of a list: each contract asks nothing, and says of number and state what the operation by value gives.
-- So what is proved of lists holds of them. Assumes nothing.
use Prim.Native.Nat.{ℕ}
use mathlib.Core.Path.{◌≡◌, refl}
use seplogic.Ra.Ura.{Ura}
use base.Logic.{SProp}
use contract.Lifetimes.{Lfts}
use contract.Monad.{Fun}
use contract.Notation.{connectives}
use denote.Triple.Clauses.{Ended, AtExit, closing}
use denote.Triple.Entry.{Args, Res}
use denote.Triple.Spec.{Spec}
use types.Logic.{Logic}
use prog.Memory.{Memory}
use prog.Routine.{Routine}
use mathlib.Core.Bool.{not}
use mathlib.Core.List.{List}
use lib.Dec.{eqb}
use Rattle.d3d9_model.specs.Operations.{Operation, set_transform, multiply_transform, set_material, set_light, enable_light, set_fog_start, set_fog_end, set_fog_density, set_ambient, set_texture_mask, mark}
use Rattle.image.specs.Read.{read_image, read_number}
use Rattle.image.specs.Write.{write_image, write_number}
use Rattle.ff_state.specs.State.{fresh_state}
use Rattle.ff_state.specs.Dirty.{take_ff_vs_dirty}
use Rattle.ff_state.specs.Active.{vs_source_light_inputs}
use Rattle.ff_state.specs.Operate.{operate}
use Rattle.ff_state.specs.declared.state.FfState.{FfState}
use Rattle.lent_state.specs.contracts.ff_state_fresh as lent-fresh
use Rattle.lent_state.specs.contracts.ff_state_mark_ff_vs_dirty as lent-mark
use Rattle.lent_state.specs.contracts.ff_state_take_ff_vs_dirty as lent-take
use Rattle.lent_state.specs.contracts.ff_state_set_material as lent-material
use Rattle.lent_state.specs.contracts.ff_state_set_fog_start as lent-fog-start
use Rattle.lent_state.specs.contracts.ff_state_set_fog_end as lent-fog-end
use Rattle.lent_state.specs.contracts.ff_state_set_fog_density as lent-fog-density
use Rattle.lent_state.specs.contracts.ff_state_set_ambient as lent-ambient
use Rattle.lent_state.specs.contracts.ff_state_set_texture_mask as lent-texture-mask
use Rattle.lent_transforms.specs.contracts.ff_state_set_transform as lent-set
use Rattle.lent_transforms.specs.contracts.ff_state_multiply_transform as lent-multiply
use Rattle.lent_lights.specs.contracts.ff_state_set_light_at as lent-light
use Rattle.lent_lights.specs.contracts.ff_state_set_light_enabled_at as lent-enable
use Rattle.lent_lights.specs.contracts.ff_state_vs_source_light_inputs as lent-inputs
use Rattle.lent_images.specs.contracts.ff_state_read_image as lent-read
use Rattle.lent_images.specs.contracts.ff_state_write_image as lent-write
use Rattle.refresh_parts.specs.Mirror.{LentRefreshed, left, told, lent_refresh}
use Rattle.lent_refresh.specs.contracts.ff_state_refresh as lent-refresh
use Rattle.pack_calls.specs.Key.{key_of}
use Rattle.refresh.specs.Answer.{refresh_number}
use Rattle.refresh.specs.Mirror.{RefreshOutcome}
use Rattle.trace.specs.Step.{ours}

-- number and state are those of the operation
abbrev operates : FfState → Operation → ℕ → FfState → Type 0
operates s o n t = ◌≡◌ {A = ℕ × FfState} (n, t) ((operate s o).number, (operate s o).state)

-- what a refresh by value leaves, as a caller in C has it
abbrev as_lent : RefreshOutcome → ℕ → LentRefreshed
as_lent o out = left (refresh_number o.result.answer) o.result.state o.floats (told o.result.answer o.result.bits out)

module _ {M : Type 1} {𝓤 : Ura M} (𝓛 : Logic 𝓤) (mem : Memory → SProp 𝓤) (run : Routine → Fun 𝓤) where
  open connectives 𝓤 use {⌜◌⌝, ⊤ₛ}

  -- a contract that asks nothing and says P of arguments, result and what is lent at exit
  abbrev says : (T : Ended) → ((κs : Lfts T.signature.lifetimes) (a : Args T.signature κs) → Res T.signature κs → AtExit T κs → Type 0) → Spec 𝓤 T.signature
  says T P = closing 𝓛 T (λ κs a. record { ghost = Unit {0}; requires = λ g. ⊤ₛ; ensures = λ g r e. ⌜ P κs a r e ⌝ })

  pub lent_fresh_anchored : lent-fresh.spec 𝓛 mem run ≡ says lent-fresh.ended (λ κs a r e. e.0.now ≡ fresh_state)
  lent_fresh_anchored = refl

  pub lent_mark_anchored : lent-mark.spec 𝓛 mem run ≡ says lent-mark.ended (λ κs a r e. operates a.0.now (mark a.1.0) r e.0.now)
  unfolding operate
  lent_mark_anchored = refl

  -- a take is no operation of a list; it is the take by value
  pub lent_take_anchored : lent-take.spec 𝓛 mem run ≡ says lent-take.ended (λ κs a r e.
      let t = take_ff_vs_dirty a.0.now in
      ◌≡◌ {A = ℕ × ℕ × FfState} (r, e.1.0.now, e.0.now) (0, t.bits, t.state))
  lent_take_anchored = refl

  pub lent_material_anchored : lent-material.spec 𝓛 mem run ≡ says lent-material.ended (λ κs a r e. operates a.0.now (set_material a.1.0.now) r e.0.now)
  unfolding operate
  lent_material_anchored = refl

  pub lent_fog_start_anchored : lent-fog-start.spec 𝓛 mem run ≡ says lent-fog-start.ended (λ κs a r e. operates a.0.now (set_fog_start a.1.0) r e.0.now)
  unfolding operate
  lent_fog_start_anchored = refl

  pub lent_fog_end_anchored : lent-fog-end.spec 𝓛 mem run ≡ says lent-fog-end.ended (λ κs a r e. operates a.0.now (set_fog_end a.1.0) r e.0.now)
  unfolding operate
  lent_fog_end_anchored = refl

  pub lent_fog_density_anchored : lent-fog-density.spec 𝓛 mem run ≡ says lent-fog-density.ended (λ κs a r e. operates a.0.now (set_fog_density a.1.0) r e.0.now)
  unfolding operate
  lent_fog_density_anchored = refl

  pub lent_ambient_anchored : lent-ambient.spec 𝓛 mem run ≡ says lent-ambient.ended (λ κs a r e. operates a.0.now (set_ambient a.1.0) r e.0.now)
  unfolding operate
  lent_ambient_anchored = refl

  pub lent_texture_mask_anchored : lent-texture-mask.spec 𝓛 mem run ≡ says lent-texture-mask.ended (λ κs a r e. operates a.0.now (set_texture_mask a.1.0) r e.0.now)
  unfolding operate
  lent_texture_mask_anchored = refl

  pub lent_set_anchored : lent-set.spec 𝓛 mem run ≡ says lent-set.ended (λ κs a r e. operates a.0.now (set_transform a.1.0 a.1.1.0.now) r e.0.now)
  unfolding operate
  lent_set_anchored = refl

  pub lent_multiply_anchored : lent-multiply.spec 𝓛 mem run ≡ says lent-multiply.ended (λ κs a r e. operates a.0.now (multiply_transform a.1.0 a.1.1.0.now) r e.0.now)
  unfolding operate
  lent_multiply_anchored = refl

  pub lent_light_anchored : lent-light.spec 𝓛 mem run ≡ says lent-light.ended (λ κs a r e. operates a.0.now (set_light a.1.0 a.1.1.0.now) r e.0.now)
  unfolding operate
  lent_light_anchored = refl

  -- any number but 0 enables
  pub lent_enable_anchored : lent-enable.spec 𝓛 mem run ≡ says lent-enable.ended (λ κs a r e. operates a.0.now (enable_light a.1.0 (not (eqb a.1.1.0 0))) r e.0.now)
  unfolding operate
  lent_enable_anchored = refl

  pub lent_inputs_anchored : lent-inputs.spec 𝓛 mem run ≡ says lent-inputs.ended (λ κs a r e. ◌≡◌ {A = ℕ × ℕ} (r, e.1.0.now) (0, vs_source_light_inputs a.0.now))
  lent_inputs_anchored = refl

  -- ---- images

  pub lent_read_anchored : lent-read.spec 𝓛 mem run ≡ says lent-read.ended (λ κs a r e.
      let c = read_image a.0.now a.1.0.now in
      ◌≡◌ {A = ℕ × FfState} (r, e.0.now) (read_number c.answer, c.state))
  lent_read_anchored = refl

  pub lent_write_anchored : lent-write.spec 𝓛 mem run ≡ says lent-write.ended (λ κs a r e.
      let c = write_image a.0.now a.1.0.now in
      ◌≡◌ {A = ℕ × List ℕ} (r, e.1.0.now) (write_number c.answer, c.bytes))
  lent_write_anchored = refl

  -- ---- the refresh of a step by value, under the key of eight numbers

  pub lent_refresh_anchored : lent-refresh.spec 𝓛 mem run ≡ says lent-refresh.ended (λ κs a r e.
      left r e.0.now e.1.1.1.1.1.1.1.1.1.0.now e.1.1.1.1.1.1.1.1.1.1.0.now ≡ as_lent (ours.by_value a.0.now (key_of a.1.0 a.1.1.0 a.1.1.1.0 a.1.1.1.1.0 a.1.1.1.1.1.0 a.1.1.1.1.1.1.0 a.1.1.1.1.1.1.1.0 a.1.1.1.1.1.1.1.1.0) a.1.1.1.1.1.1.1.1.1.0.now) a.1.1.1.1.1.1.1.1.1.1.0.now)
  unfolding lent_refresh
  lent_refresh_anchored = refl
