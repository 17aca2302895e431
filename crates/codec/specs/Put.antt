-- A part of a list written over.
use Rattle.std.specs.Prelude.{ℕ, List, ◌++◌, length, take, drop}

-- m with vs in the place of what stood from `at` on
unfoldable pub put : {A : Type 0} → ℕ → List A → List A → List A
put at vs m = take at m ++ (vs ++ drop (length vs) (drop at m))
