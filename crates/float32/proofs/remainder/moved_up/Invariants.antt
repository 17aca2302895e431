-- After i turns the significand is moved up by i digits, and what is left of it over T's is kept.
use Rattle.std.proofs.Common.{◌≡◌, ◌*◌, ◌%◌, ◌^◌}
use Rattle.float32.proofs.remainder.moved_up.Given as goal

abbrev pub invariant-loop : goal.invariant-loop
invariant-loop l = l.r ≡ l.significand * 2 ^ l.counter % 0xC9_0FDB
