-- Item i is put SIZE * i behind the first; each has SIZE bytes (`wide`).
use Rattle.std.proofs.Common.{◌≡◌, ◌+◌, ◌*◌, length, get_or, refl}
use Rattle.codec.specs.Put.{put}
use Rattle.image_lists.proofs.Writing.{begins, goes_on, ends}
use Rattle.image_lists.proofs.write.put_list.Goals as goal

pub loop-i-init : goal.loop-i-init
loop-i-init g c = begins g.T.Stored.bytes (length c.args.xs.now) _ _ _ refl

pub loop-i-preserved : goal.loop-i-preserved
loop-i-preserved g c =
    let xs = c.args.xs.now in
    let i = c.loop-i.i in
    let x = c.index-xs-i.result in
    let e : c.put.new.dst ≡ put (c.args.from + g.T.Stored.SIZE * i) (g.T.Stored.bytes (get_or xs i x)) c.loop-i.dst =
    rw (← c.index-xs-i.is, ← c.SIZE.ensures) c.put.ensures in
    goes_on g.T.Stored.bytes (length xs) _ xs _ g.T.Stored.SIZE g.met.T.Stored.wide i x _ _ c.requires c.loop-i.invariant c.loop-i-test.true c.put.auto.dst e

pub returns : goal.returns
returns g c = ends g.T.Stored.bytes (length c.args.xs.now) _ _ _ c.loop-i.i c.loop-i.dst c.loop-i-test.false c.loop-i.invariant
