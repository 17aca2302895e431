-- The calls on dirty bits of docs/INTERFACE.md: 9, then 7 for a mark above 255.
use Rattle.std.specs.Prelude.{ℕ, List}
use Rattle.ff_state.specs.Dirty.{mark_ff_vs_dirty, take_ff_vs_dirty, mark_number}
use Rattle.ff_state.specs.Changed.{Changed}
use Rattle.ff_state.specs.declared.dirty.UnknownBits.{UnknownBits}
use Rattle.image.specs.Format.{image_bytes}
use Rattle.calls.specs.Answer.{Answer}
use Rattle.calls.specs.Call.{Called, called, changing, reading, none}

abbrev pub mark_call : Changed UnknownBits → Called
mark_call c = called (mark_number c.answer) c.state

abbrev pub ff_mark_ff_vs_dirty : List ℕ → ℕ → Answer (List ℕ)
ff_mark_ff_vs_dirty image bits = changing (λ s. mark_call (mark_ff_vs_dirty s bits)) 0 image

-- the image and the number that a take leaves
pub record ImageAndNumber : Type 0 where
  pub image : List ℕ
  pub number : ℕ

abbrev pub image_and_number : List ℕ → ℕ → ImageAndNumber
image_and_number image n = record { image = image; number = n }

abbrev pub ff_take_ff_vs_dirty : List ℕ → ℕ → Answer ImageAndNumber
ff_take_ff_vs_dirty image out =
    reading none (λ s. image_and_number (image_bytes (take_ff_vs_dirty s).state) (take_ff_vs_dirty s).bits) 0 image (image_and_number image out)
