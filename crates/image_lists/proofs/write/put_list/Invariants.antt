-- i of the items stand, as `Stands` says.
use Rattle.std.proofs.Common.{length}
use Rattle.image_lists.proofs.Writing.{Stands}
use Rattle.image_lists.proofs.write.put_list.Given as goal

abbrev pub invariant-loop-i : goal.invariant-loop-i
invariant-loop-i g l = Stands g.T.Stored.bytes (length l.fn.xs) l.fn.from l.fn.xs l.fn.dst l.dst l.i
