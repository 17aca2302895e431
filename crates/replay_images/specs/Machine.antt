-- What the contracts of `machine` cite: what each line of a list leaves of the machine, and what is told of it.
use Rattle.std.specs.Prelude.{ℕ, ◌+◌, ◌*◌, ◌%◌, ◌^◌, List, [], ◌∷◌, Result, Ok, Err, cond, ltb, replicate, slice_set}
use Rattle.std.specs.List.{fold}
use Rattle.codec.specs.Little.{little_bytes}
use Rattle.codec.specs.Put.{put}
use Rattle.image_lists.specs.Lists.{list_bytes}
use Rattle.image_reasons.specs.Length.{image_length}
use Rattle.replay_text.specs.declared.answer.Words.{Words}
use Rattle.replay_text.specs.declared.answer.Words.TheVariants.{Told}
use Rattle.replay_text.specs.declared.answer.Unanswered.{Unanswered}
use Rattle.replay_text.specs.declared.answer.Unanswered.TheVariants.{Refused, BadLine}
use Rattle.replay_images.specs.declared.machine.Machine.{Machine}

-- a machine with another image, item, key or mirror
abbrev pub with_image : Machine → List ℕ → Machine
with_image m bytes = record m { image = bytes }

abbrev pub with_item : Machine → List ℕ → Machine
with_item m bytes = record m { item = bytes }

abbrev pub with_key : Machine → List ℕ → Machine
with_key m bytes = record m { key = bytes }

abbrev pub with_mirror : Machine → List ℕ → Machine
with_mirror m bytes = record m { mirror = bytes }

-- all zeros
abbrev pub first_machine : Machine
first_machine =
    record { image = replicate image_length 0; item = replicate 128 0; key = replicate 8 0; mirror = replicate 17_840 0 }

-- words as bytes, the least byte of each first
abbrev pub words_bytes : List ℕ → List ℕ
words_bytes = list_bytes (little_bytes 4)

abbrev pub put_item : Machine → List ℕ → Machine
put_item m words = with_item m (put 0 (words_bytes words) m.item)

abbrev pub put_key : Machine → ℕ → ℕ → Machine
put_key m low high = with_key m (put 0 (words_bytes (low ∷ high ∷ [])) m.key)

-- what a line leaves: its answer, and the machine
pub record Done (A : Type 0) : Type 0 where
  pub answer : Result A Unanswered
  pub machine : Machine

abbrev pub done : {A : Type 0} → Result A Unanswered → Machine → Done A
done answer machine = record { answer = answer; machine = machine }

-- the mirror has 4,460 words
abbrev pub put_mirror : Machine → ℕ → ℕ → Done Unit
put_mirror m at w = cond (ltb at 4460) (done (Ok tt) (with_mirror m (put (4 * at) (little_bytes 4 w) m.mirror))) (done (Err BadLine) m)

-- past the image's end it is 4, as of a slice that is too short
abbrev pub put_image : Machine → ℕ → ℕ → Done Unit
put_image m at b = cond (ltb at image_length) (done (Ok tt) (with_image m (slice_set m.image at (b % 256)))) (done (Err (Refused 4)) m)

-- from 0, for each byte the sum with the byte and 1, times 0x01000193
abbrev pub digest_step : ℕ → ℕ → ℕ
digest_step h b = (h + b + 1) * 0x0100_0193 % 2 ^ 32

abbrev pub digest : List ℕ → ℕ
digest = fold digest_step 0

abbrev pub told : Machine → ℕ → Words
told m n = Told (n ∷ digest m.item ∷ digest m.image ∷ digest m.mirror ∷ [])
