-- The calls on images of a lent state: document 01's number of the answer, beside the state that is left, or the bytes. What is written are the bytes of the state as it is.
use Rattle.std.specs.Prelude.{ℕ, List}
use Rattle.ff_state.specs.declared.state.FfState.{FfState}
use Rattle.image.specs.Read.{read_image, read_number}
use Rattle.image.specs.Write.{write_image, write_number}

abbrev pub ff_state_read_image : FfState → List ℕ → ℕ × FfState
ff_state_read_image s bytes = (read_number (read_image s bytes).answer, (read_image s bytes).state)

abbrev pub ff_state_write_image : FfState → List ℕ → ℕ × List ℕ
ff_state_write_image s bytes = (write_number (write_image s bytes).answer, (write_image s bytes).bytes)
