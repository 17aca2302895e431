-- Another length leaves by the first return. Else each field is put at its place, and the fields tile the image (`placed_all`).
use Rattle.std.proofs.Common.{◌≡◌, Ok, ap, length, arith}
use borrow.Author.Tests.{eq-eqb, ne_eqb}
use Rattle.image_reasons.specs.Length.{image_length}
use Rattle.image.specs.Format.{image_table, image_bytes}
use Rattle.image.specs.Write.{write_outcome, write_image}
use Rattle.image.proofs.Table.{placed_all}
use Rattle.image.proofs.Format.{image_tiles}
use Rattle.image.proofs.write.write_image.Goals as goal

pub returns-then-dst-ne-IMAGE_LENGTH : goal.returns-then-dst-ne-IMAGE_LENGTH
unfolding write_image
returns-then-dst-ne-IMAGE_LENGTH c = rw (ne_eqb (length c.args.dst.now) image_length c.if-dst-ne-IMAGE_LENGTH.true)

pub returns : goal.returns
unfolding write_image image_bytes image_table
returns c =
    let state = c.args.s in
    let m = c.args.dst.now in
    let fit : length m ≡ image_length = c.if-dst-ne-IMAGE_LENGTH.false in
    rw (eq-eqb (length m) image_length fit)
    (ap (write_outcome (Ok tt))
    (rw (c.put-11.ensures, c.from.ensures, c.put-10.ensures, c.put_list-4.ensures, c.put-9.ensures, c.put-8.ensures, c.put-7.ensures, c.put-6.ensures, c.put-5.ensures, c.put-4.ensures, c.put_list-3.ensures, c.put-3.ensures, c.put_list-2.ensures, c.put_list.ensures, c.put-2.ensures, c.put.ensures)
    (placed_all image_length (image_table state) m (image_tiles state (record {
      palette = omega arith;
      texture = omega arith;
      lights = omega arith;
      overflow = omega arith;
    })) fit)))
