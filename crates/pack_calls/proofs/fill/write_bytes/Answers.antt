-- Four bytes for each float fill the destination.
use Rattle.std.proofs.Common.{◌∙◌, ℕ, ◌*◌, sym, ap}
use Rattle.codec.specs.Float.{float_bytes}
use Rattle.codec.specs.Sizes.{length-float_bytes}
use Rattle.codec.proofs.Put.{put_whole}
use Rattle.image_lists.specs.Lists.{list_bytes}
use Rattle.image_lists.proofs.Writing.{length_list_bytes}
use Rattle.pack_calls.proofs.fill.write_bytes.Goals as goal

pub returns : goal.returns
returns c =
    c.put_list.ensures
    ∙ put_whole _ c.args.dst.now
    (c.requires.bytes ∙ sym (length_list_bytes float_bytes 4 length-float_bytes _ ∙ ap (λ (n : ℕ). 4 * n) c.write_section.auto.dst))
    ∙ ap (list_bytes float_bytes) c.write_section.ensures
