-- A colour of f32 values comes back from its bytes, and what is read is one.
use Prim.Native.Nat.{ℕ}
use mathlib.Core.Path.{◌≡◌, ap}
use mathlib.Core.List.{List}
use Rattle.d3d9_types.proofs.Fits.{color_row_fits, row_color_fits}
use Rattle.d3d9_types.specs.Color.{color_row, row_color, colorFits}
use Rattle.d3d9_types.specs.declared.color.D3DCOLORVALUE.{D3DCOLORVALUE}
use Rattle.codec.specs.Color.{color_bytes, color_at}
use Rattle.codec.proofs.Inside.{Skips, Starts}
use Rattle.codec.proofs.Laws.Matrix.{row_again, row_again_is, row_at_skips, row_at_starts, row_at_fits}
pub use Rattle.codec.specs.Sizes.{length-color_bytes}

pub color_at_skips : Skips color_at
unfolding color_at
color_at_skips p q n = ap row_color (row_at_skips p q n)

-- what the bytes of a colour read as
abbrev pub color_again : D3DCOLORVALUE → D3DCOLORVALUE
color_again c = row_color (row_again (color_row c))

pub color_again_is : {c : D3DCOLORVALUE} → colorFits c → color_again c ≡ c
color_again_is h = ap row_color (row_again_is (color_row_fits h))

pub color_at_starts : {c : D3DCOLORVALUE} → colorFits c → Starts color_at (color_bytes c) c
unfolding color_at color_bytes
color_at_starts h rest = ap row_color (row_at_starts (color_row_fits h) rest)

pub color_at_fits : (bytes : List ℕ) (at : ℕ) → colorFits (color_at bytes at)
unfolding color_at
color_at_fits bytes at = row_color_fits (row_at_fits bytes at)
