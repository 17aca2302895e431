-- The words passed are written, each behind a space.
use Rattle.std.proofs.Common.{take}
use Rattle.std.specs.List.{flat_map}
use Rattle.std.specs.Fmt.{HasWritten, IsPlainFormatter}
use Rattle.replay_text.specs.Answer.{spaced}
use Rattle.replay_text.proofs.answer.WordsDisplay.fmt.Given as goal

abbrev pub invariant-loop-w : goal.invariant-loop-w
invariant-loop-w g l =
    IsPlainFormatter l.initial.f → HasWritten g.W.Write.write_str_gives l.initial.f (flat_map spaced (take l.w-index l.rest)) l.f
