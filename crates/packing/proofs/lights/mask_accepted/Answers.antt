-- A mask of 0 is accepted, any other compared with that of the lights that are packed; no other section looks at it.
use Rattle.std.proofs.Common.{◌≡◌, ◌∙◌, ◌≤◌, true, refl, sym, ap, subst, eqb, eq-eqb}
use Rattle.ff_state.specs.Active.{resolve_active_lights}
use Rattle.light_table.specs.Active.{low_bits, masks_of, listed}
use Rattle.light_table.specs.declared.active.ActiveLights.{ActiveLights}
use Rattle.light_table.proofs.Compaction.{listed_len}
use Rattle.sections.proofs.Shape.{limit_small}
use borrow.Author.Tests.{ne_eqb}
use Rattle.sections.specs.declared.key.FfVsKey.{FfVsKey}
use Rattle.sections.specs.declared.sections.Section.{Section}
use Rattle.sections.specs.declared.sections.Section.TheVariants.{Wv, Proj, Material, Lights, Palette, Tt, Fog, Ambient}
use Rattle.packing.specs.Inputs.{Inputs, mask_accepted}
use Rattle.packing.proofs.lights.mask_accepted.Goals as goal

others : (σ : Section) (k : FfVsKey) (i : Inputs) → (σ ≡ Lights → ⊥) → mask_accepted σ k i ≡ true
unfolding mask_accepted
others Wv k i n = refl
others Proj k i n = refl
others Material k i n = refl
others Lights k i n = absurd (n refl)
others Palette k i n = refl
others Tt k i n = refl
others Fog k i n = refl
others Ambient k i n = refl

pub returns-in-Lights : goal.returns-in-Lights
unfolding mask_accepted
returns-in-Lights c = rw (c.in-Lights.is, eq-eqb _ _ c.if-key-eq0.true)

pub returns-in-Lights-2 : goal.returns-in-Lights-2
unfolding mask_accepted masks_of resolve_active_lights listed
returns-in-Lights-2 c =
    rw (c.in-Lights-2.is, ne_eqb _ _ c.if-key-eq0.false)
    (ap (eqb c.args.key.light_active_mask) (c.low_bits.ensures ∙ ap (λ (l : ActiveLights). low_bits l.len) c.active_of.ensures))

pub low_bits-requires : goal.low_bits-requires
unfolding resolve_active_lights
low_bits-requires c = subst (λ (l : ActiveLights). l.len ≤ 8) (sym c.active_of.ensures) (listed_len _ (limit_small c.args.key) _)

pub returns-in_default : goal.returns-in_default
returns-in_default c = sym (others c.args.section c.args.key _ c.in_default.not-Lights)
