-- Nine bytes are passed for each word; the iterator has the rest.
use Rattle.std.proofs.Common.{◌≡◌, ◌+◌, ◌*◌, ◌≤◌, length}
use Rattle.replay_input.proofs.read.read_line.Given as goal

abbrev pub invariant-loop-part : goal.invariant-loop-part
invariant-loop-part l = record {
  room : l.count ≤ 32;
  size : l.part-iterator.size ≡ 9;
  passed : length l.text ≡ 9 * l.count + length l.part-iterator.rest.now + 1;
}
