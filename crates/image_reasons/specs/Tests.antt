-- Tests of bytes from a place on, of which the reasons for 9 are made. Document 01, 'State image'.
use Rattle.std.specs.Prelude.{ℕ, ◌+◌, ◌-◌, ◌*◌, ◌/◌, ◌%◌, Bool, not, ◌||◌, List, leb, eqb, length, get_or, take, drop}
use Rattle.d3d9_types.specs.Light.{default_light}
use Rattle.codec.specs.Little.{number_at}
use Rattle.codec.specs.Light.{light_bytes}
use Rattle.words.specs.Bits.{has_bit}
use Rattle.light_table.specs.Overflow.{ascending}
use Rattle.codec.specs.Entry.{entry_at}
use Rattle.image_reasons.specs.Every.{every_below}
use Rattle.image_lists.specs.Lists.{list_at}

-- no NaN pattern, or the one that is written: "NaN is 0x7FC00000 only"
unfoldable pub plain_word : ℕ → Bool
plain_word n = leb (n % 0x8000_0000) 0x7F80_0000 || eqb n 0x7FC0_0000

abbrev pub plain_at : List ℕ → ℕ → ℕ → Bool
plain_at bytes at k = plain_word (number_at 4 bytes (at + 4 * k))

-- n floats, each plain
unfoldable pub nan_free : ℕ → List ℕ → ℕ → Bool
nan_free n bytes at = every_below n (plain_at bytes at)

-- the floats of a record of n bytes, behind the first of them
abbrev pub plain_record : ℕ → ℕ → List ℕ → Bool
plain_record from n bytes = nan_free (length (take (n - from) (drop from bytes)) / 4) (take (n - from) (drop from bytes)) 0

-- the 25 floats of a light, behind its type, which is a number
abbrev pub plain_light : List ℕ → ℕ → ℕ → Bool
plain_light bytes at i = nan_free 25 bytes (at + 104 * i + 4)

unfoldable pub lights_nan_free : List ℕ → ℕ → Bool
lights_nan_free bytes at = every_below 8 (plain_light bytes at)

-- the same of an entry, whose index and enable are numbers too
abbrev pub plain_entry : List ℕ → ℕ → ℕ → Bool
plain_entry bytes at i = nan_free 25 bytes (at + 112 * i + 12)

unfoldable pub entries_nan_free : List ℕ → ℕ → Bool
entries_nan_free bytes at = every_below 56 (plain_entry bytes at)

abbrev pub zero_byte : List ℕ → ℕ → ℕ → Bool
zero_byte bytes at k = eqb (get_or bytes (at + k) 0) 0

unfoldable pub zeros : ℕ → List ℕ → ℕ → Bool
zeros n bytes at = every_below n (zero_byte bytes at)

-- "strictly ascending from 8"
unfoldable pub ascends : ℕ → List ℕ → ℕ → Bool
ascends n bytes at = ascending 8 (list_at entry_at 112 n bytes at)

abbrev pub flag_at : List ℕ → ℕ → ℕ → Bool
flag_at bytes at k = leb (entry_at bytes (at + 112 * k)).enabled 1

-- n entries, each with an enable of 0 or 1
unfoldable pub flags : ℕ → List ℕ → ℕ → Bool
flags n bytes at = every_below n (flag_at bytes at)

abbrev pub same_byte : List ℕ → List ℕ → ℕ → ℕ → Bool
same_byte ws bytes at k = eqb (get_or bytes (at + k) 0) (get_or ws k 0)

-- ws stand at the place
unfoldable pub same_bytes : List ℕ → List ℕ → ℕ → Bool
same_bytes ws bytes at = every_below (length ws) (same_byte ws bytes at)

-- "default bit for bit (each 0 is +0.0)"
unfoldable pub default_at : List ℕ → ℕ → Bool
default_at bytes at = same_bytes (light_bytes default_light) bytes at

abbrev pub slot_default : ℕ → List ℕ → ℕ → ℕ → Bool
slot_default defined bytes at i = has_bit defined i || default_at bytes (at + 104 * i)

-- each of eight slots is defined, or holds the default light
unfoldable pub slots_default : ℕ → List ℕ → ℕ → Bool
slots_default defined bytes at = every_below 8 (slot_default defined bytes at)

abbrev pub bit_defined : ℕ → ℕ → ℕ → Bool
bit_defined enabled defined i = not (has_bit enabled i) || has_bit defined i

-- each enabled slot is defined
unfoldable pub bits_defined : ℕ → ℕ → Bool
bits_defined enabled defined = every_below 8 (bit_defined enabled defined)
