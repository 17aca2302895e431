-- The calls on transforms of docs/INTERFACE.md: 9, then 1 for an unknown state, then 4.
use Rattle.std.specs.Prelude.{ℕ, List}
use Rattle.codec.specs.Matrix.{matrix_at, matrix_bytes}
use Rattle.ff_state.specs.Transforms.{set_transform, multiply_transform, transform_of, transform_number, transform_read_number, transform_read_matrix, world_palette_used, world_view_projection}
use Rattle.ff_state.specs.Changed.{Changed}
use Rattle.ff_state.specs.declared.transforms.UnknownState.{UnknownState}
use Rattle.calls.specs.Answer.{Answer, matrix_length}
use Rattle.calls.specs.Call.{Called, called, changing, reading, none}

abbrev pub transform_call : Changed UnknownState → Called
transform_call c = called (transform_number c.answer) c.state

abbrev pub ff_set_transform : List ℕ → ℕ → List ℕ → Answer (List ℕ)
ff_set_transform image n m = changing (λ s. transform_call (set_transform s n (matrix_at m 0))) (matrix_length m) image

abbrev pub ff_multiply_transform : List ℕ → ℕ → List ℕ → Answer (List ℕ)
ff_multiply_transform image n m = changing (λ s. transform_call (multiply_transform s n (matrix_at m 0))) (matrix_length m) image

abbrev pub ff_transform : List ℕ → ℕ → List ℕ → Answer (List ℕ)
ff_transform image n out =
    reading (λ s. transform_read_number (transform_of s n)) (λ s. matrix_bytes (transform_read_matrix (transform_of s n))) (matrix_length out) image out

abbrev pub ff_world_palette_used : List ℕ → ℕ → Answer ℕ
ff_world_palette_used = reading none world_palette_used 0

abbrev pub ff_world_view_projection : List ℕ → List ℕ → Answer (List ℕ)
ff_world_view_projection image out = reading none (λ s. matrix_bytes (world_view_projection s)) (matrix_length out) image out
