-- Each test decides the code in its order; no section has more floats than the mirror (`fill_fits`).
use Rattle.std.proofs.Common.{◌∙◌, ℕ, ◌*◌, sym, ap, arith}
use Rattle.std.proofs.lemmas.Result.{err_from_is_err_and}
use Rattle.codec.specs.Float.{float_bytes}
use Rattle.codec.specs.Sizes.{length-float_bytes}
use Rattle.codec.proofs.Put.{put_whole}
use Rattle.image_lists.specs.Lists.{list_bytes}
use Rattle.image_lists.proofs.Writing.{length_list_bytes}
use Rattle.calls.specs.Answer.{answer}
use Rattle.calls.proofs.Answers.{long_refused, long_taken}
use Rattle.calls.proofs.Reading.{state_is}
use Rattle.packing.specs.Pack.{pack_number}
use Rattle.pack_calls.proofs.Fills.{fill_four, fill_fits, front, front_rows, fill_five, fill_packed, packed_is, refused_is}
use Rattle.pack_calls.proofs.fill.fill_section.Goals as goal

pub returns-in_err-of_length : goal.returns-in_err-of_length
returns-in_err-of_length c =
    let a = c.args in
    let read = state_is _ _ c.in_ok-s.ensures in
    let wrong = long_refused _ _ _ c.in_err-of_length.ensures in
    let p = err_from_is_err_and c.from_residual-in_err-of_length.result c.from_residual-in_err-of_length.ensures.1 in
    rw (p.1, p.2, wrong.0)
    (fill_four a.section c.in_ok-s.s a.key (c.from-n.ensures ∙ c.section_rows-rows.ensures) a.dst.now a.image.now read.1 read.0 wrong.1)

pub slice_bounds-floats-end : goal.slice_bounds-floats-end
slice_bounds-floats-end c =
    let a = c.args in
    omega (arith, fill_fits a.section c.in_ok-s.s a.key (c.from-n.ensures ∙ c.section_rows-rows.ensures) (omega arith), c.mirror_floats-floats.ensures)

pub slice_bounds-packed-end : goal.slice_bounds-packed-end
slice_bounds-packed-end c =
    sym (front c.args.section c.in_ok-s.s c.args.key (c.from-n.ensures ∙ c.section_rows-rows.ensures) (omega arith) _ c.mirror_floats-floats.ensures)

pub returns-in_err-pack_section : goal.returns-in_err-pack_section
unfolding pack_number
returns-in_err-pack_section c =
    let a = c.args in
    let read = state_is _ _ c.in_ok-s.ensures in
    let is = c.from-n.ensures ∙ c.section_rows-rows.ensures in
    let r = refused_is a.section c.in_ok-s.s a.key _ (front_rows a.section c.in_ok-s.s a.key is (omega arith) _ c.mirror_floats-floats.ensures) _ _ c.in_err-pack_section.ensures in
    let p = err_from_is_err_and c.from_residual-in_err-pack_section.result c.from_residual-in_err-pack_section.ensures.1 in
    rw (p.1, p.2, r.1)
    (fill_five a.section c.in_ok-s.s a.key is _ _ read.1 read.0 (long_taken _ _ _ c.in_ok-of_length.ensures) r.0)

pub returns : goal.returns
returns c =
    let a = c.args in
    let read = state_is _ _ c.in_ok-s.ensures in
    let is = c.from-n.ensures ∙ c.section_rows-rows.ensures in
    let long = long_taken _ _ _ c.in_ok-of_length.ensures in
    let r = packed_is a.section c.in_ok-s.s a.key _ (front_rows a.section c.in_ok-s.s a.key is (omega arith) _ c.mirror_floats-floats.ensures) _ _ c.in_ok-pack_section.ensures in
    ap (answer 0)
    (c.put_list.ensures
    ∙ put_whole _ a.dst.now
    (long ∙ sym (length_list_bytes float_bytes 4 length-float_bytes _ ∙ ap (λ (n : ℕ). 4 * n) (c.pack_section.auto.dst ∙ front a.section c.in_ok-s.s a.key is (omega arith) _ c.mirror_floats-floats.ensures)))
    ∙ ap (list_bytes float_bytes) r.1)
    ∙ fill_packed a.section c.in_ok-s.s a.key is _ _ read.1 read.0 long r.0
