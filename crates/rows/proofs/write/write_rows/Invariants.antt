-- What is left to write ends in what all the rows end in.
use Rattle.std.proofs.Common.{◌≡◌, ◌+◌, ◌*◌, ◌≤◌, length, drop}
use lib.Seq.{sets}
use Rattle.rows.specs.Rows.{floats}
use Rattle.rows.proofs.write.write_rows.Given as goal

abbrev pub invariant-loop-i : goal.invariant-loop-i
invariant-loop-i l =
    (l.i ≤ length l.rows) × (sets l.dst (l.at + 4 * l.i) (floats (drop l.i l.rows)) ≡ sets l.initial.dst l.at (floats l.rows))
