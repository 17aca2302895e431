-- The table says where the section's bytes begin and end, its rows fill them, and the part is put back.
use Rattle.std.proofs.Common.{◌≡◌, ◌∙◌, ℕ, ◌+◌, ◌-◌, ◌*◌, List, length, sym, ap, arith}
use Rattle.codec.proofs.Put.{part_length, put_back}
use Rattle.sections.specs.Sections.{first_row}
use Rattle.sections.proofs.Tiles.{fits_mirror}
use Rattle.refresh.proofs.Packed.{every_accepted}
use Rattle.pack_calls.proofs.Fills.{fill_fits, front, front_rows}
use Rattle.refresh_calls.specs.Written.{written_section_bytes}
use Rattle.refresh_calls.proofs.written.write_section_bytes.Goals as goal

pub slice_bounds-write_bytes-end : goal.slice_bounds-write_bytes-end
slice_bounds-write_bytes-end c =
    fill_fits c.args.section c.args.s.now c.args.key (c.from-n.ensures ∙ c.section_rows-rows.ensures) (omega arith)

pub slice_bounds-part-end : goal.slice_bounds-part-end
slice_bounds-part-end c =
    let a = c.args in
    omega (arith, c.from-first.ensures, c.first_row-row.ensures, c.from-n.ensures, c.section_rows-rows.ensures, c.requires.0, fits_mirror a.key a.s.now.tt_active_mask (omega arith) a.section)

pub write_bytes-requires-clause-floats : goal.write_bytes-requires-clause-floats
write_bytes-requires-clause-floats c =
    front_rows c.args.section c.args.s.now c.args.key (c.from-n.ensures ∙ c.section_rows-rows.ensures) (omega arith) _ (omega arith)

pub write_bytes-requires-clause-bytes : goal.write_bytes-requires-clause-bytes
write_bytes-requires-clause-bytes c =
    let a = c.args in
    let is = c.from-n.ensures ∙ c.section_rows-rows.ensures in
    let f : ℕ = 16 * c.from-first.result in
    let n : ℕ = f + 4 * (4 * c.from-n.result) - f in
    let whole : n ≡ 4 * (4 * c.from-n.result) = omega arith in
    let room = fits_mirror a.key a.s.now.tt_active_mask (omega arith) a.section in
    part_length f n a.mirror.now (omega (arith, c.from-first.ensures, c.first_row-row.ensures, is, c.requires.0, room))
    ∙ whole
    ∙ ap (λ (x : ℕ). 4 * x) (sym (front a.section a.s.now a.key is (omega arith) _ (omega arith)))

pub write_bytes-requires-clause-mask : goal.write_bytes-requires-clause-mask
write_bytes-requires-clause-mask c = every_accepted c.args.s.now c.args.key c.requires.1 c.args.section

pub returns-then-has_section : goal.returns-then-has_section
unfolding written_section_bytes
returns-then-has_section c =
    let a = c.args in
    let f : ℕ = 16 * c.from-first.result in
    let n : ℕ = f + 4 * (4 * c.from-n.result) - f in
    let room = fits_mirror a.key a.s.now.tt_active_mask (omega arith) a.section in
    let place : f ≡ 4 * (4 * first_row a.section) = omega (arith, c.from-first.ensures, c.first_row-row.ensures) in
    rw (sym c.has_section.ensures ∙ c.if-has_section.true)
    (put_back a.mirror.now place c.write_bytes.ensures
    (sym (ap (λ (x : List ℕ). length x) c.write_bytes.ensures)
    ∙ c.write_bytes.auto.dst
    ∙ part_length f n a.mirror.now (omega (arith, c.from-first.ensures, c.first_row-row.ensures, c.from-n.ensures, c.section_rows-rows.ensures, c.requires.0, room))))

pub returns-else-has_section : goal.returns-else-has_section
unfolding written_section_bytes
returns-else-has_section c = rw (sym c.has_section.ensures ∙ c.if-has_section.false)
