-- What is kept stays within KEPT.
use Rattle.std.proofs.Common.{◌≤◌}
use Rattle.arrayvec.specs.ArrayVec.{array_vec_len}
use Rattle.replay_input.proofs.input.next_line.Given as goal

abbrev pub invariant-loop : goal.invariant-loop
invariant-loop g l = array_vec_len l.line ≤ 1024
