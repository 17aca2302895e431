-- The calls one after the other, whatever stood in the destination and in the state before: a valid state that is written reads back, and bytes that are accepted are written back.
-- Assumes nothing.
use Prim.Native.Nat.{ℕ}
use mathlib.Core.Path.{◌≡◌, ap, ◌∙◌}
use mathlib.Core.Bool.{false}
use mathlib.Core.List.{List}
use lib.ListN.{length}
use borrow.Author.Tests.{eq-eqb}
use Rattle.std.specs.Prelude.{Ok}
use Rattle.codec.specs.Little.{Bytes}
use Rattle.ff_state.specs.Valid.{Valid}
use Rattle.ff_state.specs.declared.state.FfState.{FfState}
use Rattle.image_reasons.specs.Length.{image_length}
use Rattle.image_reasons.specs.Reasons.{refused}
use Rattle.image.specs.Format.{image_bytes}
use Rattle.image.specs.Read.{ImageRead, state_of, read_image}
use Rattle.image.specs.Write.{WriteOutcome, write_outcome, write_image}
use Rattle.image_laws.proofs.ReadWritten.{read_written}
use Rattle.image_laws.proofs.ValidAccepted.{valid_accepted}
use Rattle.image_laws.proofs.WrittenRead.{written_read}

pub write_writes : (s : FfState) (dst : List ℕ) → length dst ≡ image_length → write_image s dst ≡ write_outcome (Ok tt) (image_bytes s)
unfolding write_image
write_writes s dst h = rw (eq-eqb (length dst) image_length h)

pub read_reads : (t : FfState) (bytes : List ℕ) → refused bytes ≡ false → read_image t bytes ≡ record { answer = Ok tt; state = state_of bytes }
unfolding read_image
read_reads t bytes h = rw h

pub written_then_read : (s t : FfState) (dst : List ℕ) → Valid s → length dst ≡ image_length → read_image t (write_image s dst).bytes ≡ record { answer = Ok tt; state = s }
written_then_read s t dst v h =
    ap (λ (o : WriteOutcome). read_image t o.bytes) (write_writes s dst h)
    ∙ read_reads t (image_bytes s) (valid_accepted s v)
    ∙ ap {B = ImageRead} (λ (u : FfState). record { answer = Ok tt; state = u }) (read_written s v)

pub read_then_written : (bytes : List ℕ) (t : FfState) (dst : List ℕ) → Bytes bytes → refused bytes ≡ false → length dst ≡ image_length
    → write_image (read_image t bytes).state dst ≡ write_outcome (Ok tt) bytes
read_then_written bytes t dst b h l =
    ap (λ (r : ImageRead). write_image r.state dst) (read_reads t bytes h)
    ∙ write_writes (state_of bytes) dst l
    ∙ ap (write_outcome (Ok tt)) (written_read bytes b h)
