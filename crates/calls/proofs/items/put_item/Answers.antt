-- Past the test an item fills its slice.
use Rattle.std.proofs.Common.{◌≡◌, ◌∙◌, length, sym}
use Rattle.codec.proofs.Put.{put_whole}
use Rattle.calls.proofs.Answers.{accepted, length_right, long_taken}
use Rattle.calls.proofs.items.put_item.Goals as goal

pub returns : goal.returns
returns g c =
    let a = c.args in
    let long : length a.out.now ≡ g.T.Stored.SIZE = long_taken _ _ _ c.in_ok-of_length.ensures ∙ c.SIZE.ensures in
    accepted _ _ (length_right _ _ long) (c.put.ensures ∙ put_whole (g.T.Stored.bytes a.item) a.out.now (long ∙ sym (g.met.T.Stored.wide a.item)))
