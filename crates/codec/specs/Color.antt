-- Colours as the rows that they are: red, green, blue, alpha. Document 01, 'The arithmetic underneath'.
use Rattle.std.specs.Prelude.{ℕ, List}
use Rattle.d3d9_types.specs.Color.{color_row, row_color}
use Rattle.d3d9_types.specs.declared.color.D3DCOLORVALUE.{D3DCOLORVALUE}
use Rattle.codec.specs.Matrix.{row_bytes, row_at}

unfoldable pub color_bytes : D3DCOLORVALUE → List ℕ
color_bytes c = row_bytes (color_row c)

unfoldable pub color_at : List ℕ → ℕ → D3DCOLORVALUE
color_at bytes at = row_color (row_at bytes at)
