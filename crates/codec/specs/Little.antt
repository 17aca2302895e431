-- Numbers as little-endian bytes, over the width: the least byte first. Document 01, 'State image'.
use Rattle.std.specs.Prelude.{ℕ, zero, suc, ◌+◌, ◌*◌, ◌/◌, ◌%◌, ◌<◌, List, [], ◌∷◌, get_or, take, drop}

-- n in k bytes
unfoldable pub little_bytes : ℕ → ℕ → List ℕ
little_bytes zero n = []
little_bytes (suc k) n = n % 256 ∷ little_bytes k (n / 256)

-- the number that some bytes make
unfoldable pub little_number : List ℕ → ℕ
little_number [] = 0
little_number (b ∷ bs) = b + 256 * little_number bs

-- the number in the k bytes from `at` on
abbrev pub number_at : ℕ → List ℕ → ℕ → ℕ
number_at k bytes at = little_number (take k (drop at bytes))

-- each element is a byte
abbrev pub Bytes : List ℕ → Type 0
Bytes bs = (i : ℕ) → get_or bs i 0 < 256
