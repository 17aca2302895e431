-- An overflow entry, 112 bytes. Document 01, 'State image': "index u32, enable u32, light".
use Rattle.std.specs.Prelude.{ℕ, ◌+◌, ◌≡◌, length, refl}
use mathlib.Core.List.{List, [], ◌∷◌, flatten}
use Rattle.codec.specs.Color.{color_bytes}
use Rattle.codec.specs.Float.{float_bytes}
use Rattle.codec.specs.Little.{little_bytes, number_at}
use Rattle.codec.specs.Light.{light_bytes, light_at}
use Rattle.codec.specs.Matrix.{row_bytes}
use Rattle.codec.specs.Vector.{vector_bytes}
use Rattle.light_table.specs.declared.entry.OverflowLight.{OverflowLight}

unfoldable pub entry_bytes : OverflowLight → List ℕ
entry_bytes e = flatten (little_bytes 4 e.index ∷ little_bytes 4 e.enabled ∷ light_bytes e.light ∷ [])

unfoldable pub entry_at : List ℕ → ℕ → OverflowLight
entry_at bytes at =
    record { index = number_at 4 bytes at; enabled = number_at 4 bytes (at + 4); light = light_at bytes (at + 8) }

pub length-entry_bytes : (e : OverflowLight) → length (entry_bytes e) ≡ 112
unfolding entry_bytes light_bytes color_bytes row_bytes vector_bytes flatten float_bytes little_bytes
length-entry_bytes e = refl
