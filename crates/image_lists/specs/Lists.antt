-- Items of one kind and one size, one after another: their bytes, and the items that bytes hold.
use Rattle.std.specs.Prelude.{ℕ, zero, suc, ◌+◌, List, [], ◌∷◌, ◌++◌}

unfoldable pub list_bytes : {A : Type 0} → (A → List ℕ) → List A → List ℕ
list_bytes f [] = []
list_bytes f (x ∷ xs) = f x ++ list_bytes f xs

-- n items from `at` on
unfoldable pub list_at : {A : Type 0} → (List ℕ → ℕ → A) → ℕ → ℕ → List ℕ → ℕ → List A
list_at read size zero bytes at = []
list_at read size (suc n) bytes at = read bytes at ∷ list_at read size n bytes (at + size)
