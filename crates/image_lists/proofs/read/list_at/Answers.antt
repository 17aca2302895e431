-- Item i is the one that stands SIZE * i behind the first.
use Rattle.std.proofs.Common.{rules, ◌+◌, ◌*◌, ℕ}
use Rattle.image_lists.proofs.Reading.{made, made_by}
use Rattle.image_lists.proofs.read.list_at.Goals as goal

pub returns : goal.returns
returns g c =
    let items = c.from_fn.ensures.items in
    made g.T.Stored.at g.T.Stored.SIZE g.row.N _ _ _ items.long
    (made_by _ _ (λ (i : ℕ). g.T.Stored.at c.args.s.now (c.args.from + g.T.Stored.SIZE * i)) (λ i y q k. search rules) _ _ items.each)
