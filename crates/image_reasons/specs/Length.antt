-- How long a state image is, and where its entries end. Document 01, 'State image': "24,204 bytes". Document 02, T-05: "The image grows to 24,224 bytes".
use Rattle.std.specs.Prelude.{ℕ, ◌+◌}

abbrev pub entries_end : ℕ
entries_end = 24_204

-- "at its end in this order: three floats, colour u32, mask u32"
abbrev pub tail_length : ℕ
tail_length = 20

abbrev pub image_length : ℕ
image_length = entries_end + tail_length
