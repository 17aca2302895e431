-- The bit of slot i is made of the light there, which is the first that the iterator has left.
use Rattle.std.proofs.Common.{rules, ◌≡◌, ◌&&◌, ◌-◌, ◌≤◌, ℕ, Bool, ap, sym, subst, arith, ◌∙◌, drop, length}
use mathlib.Core.Path.{ap₂}
use mathlib.Core.Logic.{⊎_elim}
use Rattle.std.proofs.lemmas.List.{length-drop}
use Rattle.words.specs.Bits.{has_bit, with_bit}
use Rattle.d3d9_types.specs.Light.{default_light}
use Rattle.d3d9_types.specs.declared.light.D3DLIGHT9.{D3DLIGHT9}
use Rattle.image_lists.specs.Masks.{type_at}
use Rattle.image_lists.proofs.Mask.{Masked, begins, goes_on, ends, first_left}
use Rattle.image_lists.proofs.masks.mask.Goals as goal

pub loop-i-init : goal.loop-i-init
loop-i-init g c = (search rules, search rules, λ p same. search (rules, begins (λ (i : ℕ). has_bit c.args.defined i && p (type_at c.args.lights i)) c.args.lights (omega arith)))

pub has_bit-requires : goal.has_bit-requires
has_bit-requires g c = omega (arith, c.loop-i.invariant.0, c.in-Some.ensures.steps.0.1.0, c.in-Some.ensures.steps.0.1.1)

pub with_bit-mask-requires : goal.with_bit-mask-requires
with_bit-mask-requires g c = omega (arith, c.loop-i.invariant.0, c.in-Some.ensures.steps.0.1.0, c.in-Some.ensures.steps.0.1.1)

pub loop-i-preserved : goal.loop-i-preserved
loop-i-preserved g c =
    let a = c.args in
    let inv = c.loop-i.invariant in
    let s = c.in-Some.ensures.steps in
    let i = c.loop-i.i-iterator.a.start in
    let light = c.in-Some.light.now in
    let first = first_left a.lights _ i light default_light (sym inv.1 ∙ s.1) in (
      s.0.0 ∙ inv.0,
      sym first.1 ∙ ap (λ (j : ℕ). drop j a.lights) (sym s.0.1.2),
      λ p same.
          let on = ap₂ (λ (x y : Bool). x && y) (c.has_bit.ensures ∙ ap (has_bit a.defined) s.0.1.1) (same _ _ (search rules) c.passes.ensures ∙ ap (λ (x : D3DLIGHT9). p x.type_) (sym first.0)) in
          let put = c.with_bit-mask.ensures ∙ ap (λ (j : ℕ). with_bit c.loop-i.mask j (c.has_bit.result && c.passes.result)) s.0.1.1 in
          subst (λ (j : ℕ). Masked (λ (k : ℕ). has_bit a.defined k && p (type_at a.lights k)) a.lights c.with_bit-mask.result j) (sym s.0.1.2)
          (goes_on _ _ c.loop-i.mask i _ _ (omega (arith, inv.0, s.0.1.0)) on put (inv.2 p same)),
    )

pub returns : goal.returns
returns g c p same =
    let inv = c.loop-i.invariant in
    let m = inv.2 p same in
    let i = c.loop-i.i-iterator.a.start in
    let left : length c.loop-i.i-iterator.b.rest.now ≡ length c.args.lights - i = ap length inv.1 ∙ length-drop i c.args.lights in
    let all : 8 ≤ i = ⊎_elim (λ v. omega (arith, inv.0, v.1.1.0)) (λ v. omega (arith, left, m.count, v.1.0)) c.in-None.ensures.steps in
    ends _ _ c.loop-i.mask i all m
