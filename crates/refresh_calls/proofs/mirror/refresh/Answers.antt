-- 9, 4, 8 and 5 in their order, and past them the sections written one after another, the image of the emptied state and the bits.
use Rattle.std.proofs.Common.{◌≡◌, ◌∙◌, ℕ, ◌+◌, List, Result, Ok, Err, refl, sym, ap, subst, arith, drop}
use Rattle.std.proofs.lemmas.Result.{err_from_is_err_and}
use mathlib.Core.Path.{ap₂}
use Rattle.ff_state.specs.Dirty.{take_ff_vs_dirty}
use Rattle.ff_state.specs.declared.dirty.Taken.{Taken}
use Rattle.ff_state.specs.declared.state.FfState.{FfState}
use Rattle.sections.specs.Sections.{sections}
use Rattle.image.specs.Format.{image_bytes}
use Rattle.image.specs.Read.{state_of}
use Rattle.calls.proofs.Answers.{long_refused, long_taken}
use Rattle.calls.proofs.Calls.{image_long}
use Rattle.calls.proofs.Reading.{state_is, state_refused}
use Rattle.refresh.specs.Answer.{refresh_answer, refresh_number}
use Rattle.refresh.proofs.Answers.{accepted_fits}
use Rattle.refresh_calls.specs.Mirror.{left}
use Rattle.refresh_calls.specs.Written.{written_bytes}
use Rattle.refresh_calls.proofs.Outcomes.{refresh_nine, refresh_four, refresh_error, refresh_done}
use Rattle.refresh_calls.proofs.Parts.{next_written}
use Rattle.refresh_calls.proofs.mirror.refresh.Goals as goal

pub returns-in_err-s : goal.returns-in_err-s
returns-in_err-s c out =
    let a = c.args in
    let nine = state_refused _ _ c.in_err-s.ensures in
    let p = err_from_is_err_and c.from_residual.result c.from_residual.ensures.1 in
    rw (p.1, p.2, nine.1) (refresh_nine a.image.now a.key a.mirror.now out nine.0)

pub returns-in_err-of_length : goal.returns-in_err-of_length
returns-in_err-of_length c out =
    let a = c.args in
    let wrong = long_refused _ _ _ c.in_err-of_length.ensures in
    let p = err_from_is_err_and c.from_residual-in_err-of_length.result c.from_residual-in_err-of_length.ensures.1 in
    rw (p.1, p.2, wrong.0) (refresh_four a.image.now a.key a.mirror.now out (state_is _ _ c.in_ok-s.ensures).0 wrong.1)

pub returns-in_err-refresh_answer : goal.returns-in_err-refresh_answer
returns-in_err-refresh_answer c out =
    let a = c.args in
    let read = state_is _ _ c.in_ok-s.ensures in
    let p = err_from_is_err_and c.from_residual-in_err-refresh_answer.result c.from_residual-in_err-refresh_answer.ensures.1 in
    rw (p.1, p.2)
    (refresh_error a.image.now a.key a.mirror.now out read.0 (long_taken _ _ _ c.in_ok-of_length.ensures) c.in_err-refresh_answer.field-0.0
    (sym (c.in_err-refresh_answer.ensures ∙ ap (λ (s : FfState). refresh_answer s a.key 4460) read.1)))

pub write_section_bytes-requires : goal.write_section_bytes-requires
write_section_bytes-requires c =
    (c.loop-section.auto.mirror ∙ long_taken _ _ _ c.in_ok-of_length.ensures, (accepted_fits _ _ _ (sym c.in_ok-refresh_answer.ensures)).mask)

pub loop-section-preserved : goal.loop-section-preserved
loop-section-preserved c =
    let s = c.in_ok-s.s in
    let k = c.args.key in
    let bits = c.take_ff_vs_dirty-taken.result.bits in
    let i = c.loop-section.section-index in
    ap (written_bytes (drop (i + 1) sections) bits s k) c.write_section_bytes.ensures
    ∙ sym (next_written sections i _ bits s k c.loop-section.mirror c.loop-section-test.true)
    ∙ c.loop-section.invariant

pub put_state-requires : goal.put_state-requires
put_state-requires c = image_long _ (state_is _ _ c.in_ok-s.ensures).0

pub returns : goal.returns
unfolding refresh_number written_bytes
returns c out =
    let a = c.args in
    let s = c.in_ok-s.s in
    let read = state_is _ _ c.in_ok-s.ensures in
    let is : s ≡ state_of a.image.now = read.1 in
    let t = c.take_ff_vs_dirty-taken.result in
    let taken : t ≡ take_ff_vs_dirty s = c.take_ff_vs_dirty-taken.ensures in
    let end : c.loop-section.section-index ≡ 8 = omega arith in
    let all : c.loop-section.mirror ≡ written_bytes sections t.bits s a.key a.mirror.now =
    subst (λ (n : ℕ). written_bytes (drop n sections) t.bits s a.key c.loop-section.mirror ≡ written_bytes sections t.bits s a.key a.mirror.now) end c.loop-section.invariant in
    refresh_done _ _ _ out read.0 (long_taken _ _ _ c.in_ok-of_length.ensures)
    (ap refresh_number (sym (c.in_ok-refresh_answer.ensures ∙ ap (λ (x : FfState). refresh_answer x a.key 4460) is)))
    _
    (ap₂ (λ (i m : List ℕ). left i m t.bits) c.put_state.ensures all
    ∙ ap (λ (r : Taken). left (image_bytes r.state) (written_bytes sections r.bits s a.key a.mirror.now) r.bits) taken
    ∙ ap (λ (x : FfState). left (image_bytes (take_ff_vs_dirty x).state) (written_bytes sections (take_ff_vs_dirty x).bits x a.key a.mirror.now) (take_ff_vs_dirty x).bits) is)
