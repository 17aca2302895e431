-- Vectors of three floats.
use Rattle.std.specs.Prelude.{ℕ, ◌+◌}
use mathlib.Core.List.{List, [], ◌∷◌, flatten}
use Rattle.d3d9_types.specs.declared.vector.D3DVECTOR.{D3DVECTOR}
use Rattle.codec.specs.Float.{float_bytes, float_at}

unfoldable pub vector_bytes : D3DVECTOR → List ℕ
vector_bytes v = flatten (float_bytes v.x ∷ float_bytes v.y ∷ float_bytes v.z ∷ [])

unfoldable pub vector_at : List ℕ → ℕ → D3DVECTOR
vector_at bytes at = record { x = float_at bytes at; y = float_at bytes (at + 4); z = float_at bytes (at + 8) }
