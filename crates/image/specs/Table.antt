-- A table of fields: each with the place where it begins and the bytes that stand there.
use Rattle.std.specs.Prelude.{ℕ, ◌+◌, ◌≡◌, List, [], ◌∷◌, ◌++◌, length}

pub record Field : Type 0 where
  pub place : ℕ
  pub bytes : List ℕ

abbrev pub field : ℕ → List ℕ → Field
field n bs = record { place = n; bytes = bs }

-- the fields' bytes, one after another
unfoldable pub table_bytes : List Field → List ℕ
table_bytes [] = []
table_bytes (f ∷ fs) = f.bytes ++ table_bytes fs

-- from n to e, each field begins where the one before it ends
abbrev pub Tiles : ℕ → List Field → ℕ → Type 0
Tiles n [] e = n ≡ e
Tiles n (f ∷ fs) e = (f.place ≡ n) × Tiles (n + length f.bytes) fs e
