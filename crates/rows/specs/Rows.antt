-- A section is a list of rows, and a row four floats. Document 01, 'A refresh, from the top': "rows of 4 floats".
use Rattle.std.specs.Prelude.{List, [], ◌∷◌, ◌++◌, Float}
use Rattle.d3d9_types.specs.declared.matrix.Row.{Row}

abbrev pub row_floats : Row → List Float
row_floats r = r.x ∷ r.y ∷ r.z ∷ r.w ∷ []

-- the floats of rows, one row behind the other
unfoldable pub floats : List Row → List Float
floats [] = []
floats (r ∷ rs) = row_floats r ++ floats rs

-- the rows of several items, one item behind the other
unfoldable pub rows_of : {A : Type 0} → (A → List Row) → List A → List Row
rows_of f [] = []
rows_of f (x ∷ xs) = f x ++ rows_of f xs
