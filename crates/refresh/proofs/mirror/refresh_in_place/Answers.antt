-- A refused refresh returns before anything is written; an accepted one writes the sections in the table's order, of a state whose bits are taken:
-- no section's rows depend on them.
use Rattle.std.proofs.Common.{◌≡◌, ◌∙◌, ℕ, ◌+◌, ◌<◌, List, [], ◌∷◌, Float, Ok, cond, refl, sym, ap, subst, arith, add-one, length, get_or, drop, drop-cons}
use Rattle.codec.specs.Put.{put}
use Rattle.ff_state.specs.Active.{light_active_mask, active_lights}
use Rattle.ff_state.specs.Dirty.{taken, take_ff_vs_dirty}
use Rattle.ff_state.specs.declared.dirty.Taken.{Taken}
use Rattle.ff_state.specs.declared.state.FfState.{FfState}
use Rattle.packing.specs.Inputs.{mask_accepted, inputs_of}
use Rattle.packing.specs.Pack.{state_rows}
use Rattle.sections.specs.Sections.{sections, has_section}
use Rattle.sections.specs.declared.key.FfVsKey.{FfVsKey}
use Rattle.sections.specs.declared.sections.Section.{Section}
use Rattle.sections.specs.declared.sections.Section.TheVariants.{Lights}
use Rattle.refresh.specs.Answer.{refresh_answer}
use Rattle.refresh.specs.Mirror.{refreshed, acceptance, refresh_by, refresh_mirror}
use Rattle.refresh.specs.Written.{first_float, written_section, written}
use Rattle.refresh.proofs.Answers.{accepted_fits}
use Rattle.refresh.proofs.mirror.refresh_in_place.Goals as goal

next : (σs : List Section) (i : ℕ) (d : Section) (bits : ℕ) (s : FfState) (k : FfVsKey) (m : List Float) → i < length σs
    → written (drop i σs) bits s k m ≡ written (drop (i + 1) σs) bits s k (written_section (get_or σs i d) bits s k m)
unfolding written
next σs i d bits s k m h = rw add-one (ap (λ (τs : List Section). written τs bits s k m) (drop-cons σs i d h))

inputs_stay : (s : FfState) → inputs_of (take_ff_vs_dirty s).state ≡ inputs_of s
unfolding take_ff_vs_dirty active_lights light_active_mask
inputs_stay s = refl

rows_stay : (s : FfState) (k : FfVsKey) (σ : Section) → state_rows σ (take_ff_vs_dirty s).state k ≡ state_rows σ s k
unfolding take_ff_vs_dirty active_lights light_active_mask
rows_stay s k σ = refl

module _ (s t : FfState) (bits : ℕ) (took : taken bits t ≡ take_ff_vs_dirty s) where
  inputs_same : inputs_of t ≡ inputs_of s
  inputs_same = ap (λ (x : Taken). inputs_of x.state) took ∙ inputs_stay s

  module _ (k : FfVsKey) where
    section_same : (σ : Section) (m : List Float) → written_section σ bits t k m ≡ written_section σ bits s k m
    unfolding written_section
    section_same σ m =
        ap (λ (xs : List Float). cond (has_section bits σ) (put (first_float σ) xs m) m)
        (ap (λ (x : Taken). state_rows σ x.state k) took ∙ rows_stay s k σ)

    written_same : (σs : List Section) (m : List Float) → written σs bits t k m ≡ written σs bits s k m
    unfolding written
    written_same [] m = refl
    written_same (σ ∷ σs) m = written_same σs (written_section σ bits t k m) ∙ ap (written σs bits s k) (section_same σ m)

    refreshed_all : (m : List Float) → refreshed (acceptance (taken bits t)) (written sections bits t k m) ≡ refresh_by (Ok tt) s k m
    unfolding refresh_by
    refreshed_all m =
        ap (refreshed (acceptance (taken bits t))) (written_same sections m)
        ∙ ap (λ (x : Taken). refreshed (acceptance x) (written sections x.bits s k m)) took

pub write_dirty-requires : goal.write_dirty-requires
write_dirty-requires c =
    let a = c.args in
    let t = c.take_in_place-bits in
    let f = accepted_fits a.s.now a.key (length a.mirror.now) (sym c.refresh_answer.ensures ∙ c.in_ok-refresh_answer.was) in (
      c.loop-section.auto.mirror ∙ f.long,
      ap (mask_accepted Lights a.key) (inputs_same a.s.now t.new.self t.result t.ensures) ∙ f.mask,
    )

pub loop-section-preserved : goal.loop-section-preserved
loop-section-preserved c =
    let a = c.args in
    let t = c.take_in_place-bits in
    let i = c.loop-section.section-index in
    ap (written (drop (i + 1) sections) t.result t.new.self a.key) c.write_dirty.ensures
    ∙ sym (next sections i _ t.result t.new.self a.key c.loop-section.mirror c.loop-section-test.true)
    ∙ c.loop-section.invariant

pub returns : goal.returns
unfolding refresh_mirror written
returns c =
    let a = c.args in
    let m = a.mirror.now in
    let t = c.take_in_place-bits in
    let answer : refresh_answer a.s.now a.key (length m) ≡ Ok tt = sym c.refresh_answer.ensures ∙ c.in_ok-refresh_answer.was in
    let end : c.loop-section.section-index ≡ 8 = omega arith in
    let all : c.loop-section.mirror ≡ written sections t.result t.new.self a.key m =
    subst (λ (n : ℕ). written (drop n sections) t.result t.new.self a.key c.loop-section.mirror ≡ written sections t.result t.new.self a.key m) end c.loop-section.invariant in
    rw answer
    (ap (refreshed (acceptance (taken t.result t.new.self))) all
    ∙ refreshed_all a.s.now t.new.self t.result t.ensures a.key m)
