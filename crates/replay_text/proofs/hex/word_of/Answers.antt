-- A byte that is no digit is in no word's text, and a digit that is read makes one digit more.
use Rattle.std.proofs.Common.{arith, ◌+◌, ◌*◌, ◌<◌, ◌^◌, ℕ}
use Rattle.replay_text.proofs.hex.Digits.{room_more, room_fits, text_more}
use Rattle.replay_text.proofs.hex.word_of.Goals as goal

-- the word with the digit fits
fits : (i w d : ℕ) → i < 8 → w < 16 ^ i → d < 16 → w * 16 + d < 2 ^ 32
fits i w d l h k = room_fits (i + 1) (w * 16 + d) (omega arith) (room_more i w d h k)

pub overflow_mul-w : goal.overflow_mul-w
overflow_mul-w c =
    omega (arith, fits c.loop-b.b-index c.loop-b.w 0 (omega arith) c.loop-b.invariant.room (omega arith))

pub loop-b-preserved : goal.loop-b-preserved
loop-b-preserved c = record {
  fits = c.if-text-ne8.false;
  room = room_more c.loop-b.b-index c.loop-b.w c.in_ok-w.field-0 c.loop-b.invariant.room c.in_ok-w.ensures.0;
  read =
      text_more c.args.text.now c.if-text-ne8.false c.loop-b.b-index c.loop-b.w c.in_ok-w.field-0 (omega arith) c.in_ok-w.ensures.0 c.loop-b.invariant.read c.in_ok-w.ensures.1;
}
