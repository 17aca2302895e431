-- The table says where the section begins and ends, its rows fill the part that is lent, and the part is put back.
use Rattle.std.proofs.Common.{◌∙◌, ℕ, ◌+◌, ◌-◌, ◌*◌, List, Float, sym, ap, arith, length}
use Rattle.codec.proofs.Put.{part_length, put_back}
use Rattle.sections.proofs.Tiles.{fits_mirror}
use Rattle.refresh.specs.Written.{written_section}
use Rattle.refresh.proofs.Packed.{every_accepted}
use Rattle.refresh.proofs.written.write_dirty.Goals as goal

pub slice_bounds-write_section-end : goal.slice_bounds-write_section-end
slice_bounds-write_section-end c =
    let a = c.args in
    omega (arith, c.from-first.ensures, c.first_row-row.ensures, c.from.ensures, c.section_rows-rows.ensures, c.requires.0, fits_mirror a.key a.s.now.tt_active_mask (omega arith) a.section)

pub write_section-requires-clause-long : goal.write_section-requires-clause-long
write_section-requires-clause-long c =
    let a = c.args in
    let f : ℕ = 4 * c.from-first.result in
    let n : ℕ = f + 4 * c.from.result - f in
    let room = fits_mirror a.key a.s.now.tt_active_mask (omega arith) a.section in
    part_length f n a.mirror.now (omega (arith, c.from-first.ensures, c.first_row-row.ensures, c.from.ensures, c.section_rows-rows.ensures, c.requires.0, room))
    ∙ omega (arith, c.from.ensures, c.section_rows-rows.ensures)

pub write_section-requires-clause-mask : goal.write_section-requires-clause-mask
write_section-requires-clause-mask c = every_accepted c.args.s.now c.args.key c.requires.1 c.args.section

pub returns-then-has_section : goal.returns-then-has_section
unfolding written_section
returns-then-has_section c =
    let a = c.args in
    let f : ℕ = 4 * c.from-first.result in
    let n : ℕ = f + 4 * c.from.result - f in
    let room = fits_mirror a.key a.s.now.tt_active_mask (omega arith) a.section in
    rw (sym c.has_section.ensures ∙ c.if-has_section.true)
    (put_back a.mirror.now (ap (λ (r : ℕ). 4 * r) (c.from-first.ensures ∙ c.first_row-row.ensures)) c.write_section.ensures
    (sym (ap (λ (x : List Float). length x) c.write_section.ensures)
    ∙ c.write_section.auto.dst
    ∙ part_length f n a.mirror.now (omega (arith, c.from-first.ensures, c.first_row-row.ensures, c.from.ensures, c.section_rows-rows.ensures, c.requires.0, room))))

pub returns-else-has_section : goal.returns-else-has_section
unfolding written_section
returns-else-has_section c = rw (sym c.has_section.ensures ∙ c.if-has_section.false)
