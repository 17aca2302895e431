-- The bytes passed are the digits of w, which has as many.
use Rattle.std.proofs.Common.{◌≡◌, ◌<◌, ◌^◌, take, length}
use Rattle.io.specs.Digits.{last_digits}
use Rattle.replay_text.proofs.hex.word_of.Given as goal

abbrev pub invariant-loop-b : goal.invariant-loop-b
invariant-loop-b l = record {
  fits : length l.text ≡ 8;
  room : l.w < 16 ^ l.b-index;
  read : take l.b-index l.text ≡ last_digits 16 l.b-index l.w;
}
