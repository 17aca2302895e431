-- The row of the ambient colour. Document 02, T-05: "ambient to row 9 through `d3dcolor_to_rgba_f32`"; ff_state.rs 1746–1754, convert.rs 71–80.
use Rattle.std.specs.Prelude.{ℕ, ◌/◌, ◌%◌, List, [], ◌∷◌, pos, Float}
use Rattle.std.specs.Float.{binary32}
use Rattle.std.specs.Float.Ieee.{of_int, div}
use Rattle.d3d9_types.specs.declared.matrix.Row.{Row}

-- a byte over 255: one division
unfoldable pub over_full : ℕ → Float
over_full byte = div binary32 (of_int binary32 (pos byte)) (of_int binary32 (pos 255))

-- red, green, blue and alpha of 0xAARRGGBB
unfoldable pub rgba_of : ℕ → Row
rgba_of color =
    record {
      x = over_full (color / 0x10000 % 256);
      y = over_full (color / 0x100 % 256);
      z = over_full (color % 256);
      w = over_full (color / 0x1000000 % 256);
    }

abbrev pub ambient_rows : ℕ → List Row
ambient_rows color = rgba_of color ∷ []
