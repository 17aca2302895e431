-- The calls on the material of docs/INTERFACE.md: 9, then 4. A material is 68 bytes.
use Rattle.std.specs.Prelude.{ℕ, List}
use Rattle.codec.specs.Material.{material_at, material_bytes}
use Rattle.ff_state.specs.Material.{set_material}
use Rattle.calls.specs.Answer.{Answer, length_number}
use Rattle.calls.specs.Call.{called, changing, reading, none}

abbrev pub material_length : List ℕ → ℕ
material_length = length_number 68

abbrev pub ff_set_material : List ℕ → List ℕ → Answer (List ℕ)
ff_set_material image m = changing (λ s. called 0 (set_material s (material_at m 0))) (material_length m) image

abbrev pub ff_material : List ℕ → List ℕ → Answer (List ℕ)
ff_material image out = reading none (λ s. material_bytes s.material) (material_length out) image out
