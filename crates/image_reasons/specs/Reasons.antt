-- The reasons to refuse an image 9. Document 01, 'State image': "Reading refuses 9 for another length, dirty above 63, zero byte set, palette index above 255, count above 56,
-- entries not strictly ascending from 8, enable not 0 or 1, nonzero unused entries, enabled but undefined, an undefined slot not default bit for bit (each 0 is +0.0), another NaN." Document 02, T-05: "mask u32 of at most 255, else 9; any dirty byte is read".
use Rattle.std.specs.Prelude.{ℕ, ◌+◌, ◌-◌, ◌*◌, Bool, not, ◌&&◌, ◌||◌, List, ltb, eqb, length}
use Rattle.codec.specs.Little.{number_at}
use Rattle.image_reasons.specs.Length.{entries_end, image_length}
use Rattle.image_reasons.specs.Tests.{nan_free, lights_nan_free, entries_nan_free, zeros, ascends, flags, slots_default, bits_defined}

abbrev pub another_length : List ℕ → Bool
another_length bytes = not (eqb (length bytes) image_length)

abbrev pub mask_above_255 : List ℕ → Bool
mask_above_255 bytes = ltb 255 (number_at 4 bytes 24_220)

abbrev pub zero_byte_set : List ℕ → Bool
zero_byte_set bytes = not (eqb (number_at 1 bytes 17_927) 0)

abbrev pub index_above_255 : List ℕ → Bool
index_above_255 bytes = ltb 255 (number_at 2 bytes 17_928)

-- "overflow count u16 17,930"
abbrev pub count_of : List ℕ → ℕ
count_of bytes = number_at 2 bytes 17_930

abbrev pub count_above_56 : List ℕ → Bool
count_above_56 bytes = ltb 56 (count_of bytes)

unfoldable pub numbers_refused : List ℕ → Bool
numbers_refused bytes = mask_above_255 bytes || (zero_byte_set bytes || (index_above_255 bytes || count_above_56 bytes))

-- of the entries in use
abbrev pub not_ascending : List ℕ → Bool
not_ascending bytes = not (ascends (count_of bytes) bytes 17_932)

abbrev pub enable_not_flag : List ℕ → Bool
enable_not_flag bytes = not (flags (count_of bytes) bytes 17_932)

-- what stands behind the entries in use, up to the last entry's end
abbrev pub unused_from : List ℕ → ℕ
unused_from bytes = 17_932 + 112 * count_of bytes

abbrev pub unused_not_zero : List ℕ → Bool
unused_not_zero bytes = not (zeros (entries_end - unused_from bytes) bytes (unused_from bytes))

unfoldable pub entries_refused : List ℕ → Bool
entries_refused bytes = not_ascending bytes || (enable_not_flag bytes || unused_not_zero bytes)

abbrev pub enabled_undefined : List ℕ → Bool
enabled_undefined bytes = not (bits_defined (number_at 1 bytes 17_924) (number_at 1 bytes 17_925))

abbrev pub undefined_not_default : List ℕ → Bool
undefined_not_default bytes = not (slots_default (number_at 1 bytes 17_925) bytes 17_092)

unfoldable pub slots_refused : List ℕ → Bool
slots_refused bytes = enabled_undefined bytes || undefined_not_default bytes

-- matrices and material are 4,273 floats from 0 on; then come the lights', the entries' and the fog's
unfoldable pub another_nan : List ℕ → Bool
another_nan bytes = not (nan_free 4_273 bytes 0 && (lights_nan_free bytes 17_092 && (entries_nan_free bytes 17_932 && nan_free 3 bytes 24_204)))

-- some reason holds
unfoldable pub refused : List ℕ → Bool
refused bytes =
    another_length bytes || (numbers_refused bytes || (entries_refused bytes || (slots_refused bytes || another_nan bytes)))
