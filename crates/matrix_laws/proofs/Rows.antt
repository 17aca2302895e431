-- Where the rows of world matrices have which entry of which product: float n is row n % 4 of world matrix n / 16 times column n / 4 % 4 of the view. Assumes nothing.
use Prim.Native.Nat.{ℕ, zero, suc, ◌+◌, ◌*◌, ◌/◌, ◌%◌, ◌<◌}
use native.Mathlib.Nat.{le_of_suc-le-suc, not-suc-le-zero}
use native.Mathlib.Omega.{arith}
use mathlib.Core.Path.{◌≡◌, refl, sym, ap, subst, ◌∙◌}
use mathlib.Core.List.{List, [], ◌∷◌, ◌++◌}
use lib.Ieee.{Float, nan}
use lib.ListN.{length, get_or, get_or-append}
use lib.Seq.{get_or-append-add}
use Rattle.d3d9_types.specs.declared.matrix.Row.{Row}
use Rattle.d3d9_types.specs.declared.matrix.D3DMATRIX.{D3DMATRIX}
use Rattle.matrix.specs.Entry.{column, row}
use Rattle.matrix.specs.Product.{dot, mat_mul}
use Rattle.matrix.specs.Transposition.{transposed}
use Rattle.matrix.proofs.Entries.{mat_mul-entry, transposed-entry}
use Rattle.rows.specs.Rows.{row_floats, floats, rows_of}
use Rattle.rows.specs.Matrices.{matrix_rows, world_view_rows}
use Rattle.rows.proofs.Floats.{length-floats, length_rows_of}
use Rattle.ff_state.specs.State.{no_matrix}

-- ---- the floats of a row, and the rows of an item

in_row : (a : Row) (rest : List Float) (c : ℕ) (d : Float) → c < 4 → get_or (row_floats a ++ rest) c d ≡ column a c
unfolding column
in_row a rest zero d h = refl
in_row a rest (suc zero) d h = refl
in_row a rest (suc (suc zero)) d h = refl
in_row a rest (suc (suc (suc zero))) d h = refl
in_row a rest (suc (suc (suc (suc c)))) d h = absurd (omega arith)

next : (r c : ℕ) → 4 * suc r + c ≡ 4 + (4 * r + c)
next r c = omega arith

first : (c : ℕ) → 4 * zero + c ≡ c
first c = omega arith

float_of_row : (rs : List Row) (r c : ℕ) (d : Float) (e : Row) → r < length rs → c < 4 → get_or (floats rs) (4 * r + c) d ≡ column (get_or rs r e) c
unfolding floats
float_of_row [] r c d e h k = absurd (not-suc-le-zero h)
float_of_row (x ∷ xs) zero c d e h k = ap (λ (i : ℕ). get_or (row_floats x ++ floats xs) i d) (first c) ∙ in_row x (floats xs) c d k
float_of_row (x ∷ xs) (suc r) c d e h k =
    ap (λ (i : ℕ). get_or (row_floats x ++ floats xs) i d) (next r c)
    ∙ get_or-append-add (row_floats x) (floats xs) (4 * r + c) d
    ∙ float_of_row xs r c d e (le_of_suc-le-suc h) k

row_of_item : {A : Type 0} (f : A → List Row) (xs : List A) (i r : ℕ) (d : A) (e : Row) → ((x : A) → length (f x) ≡ 4) → i < length xs → r < 4 → get_or (rows_of f xs) (4 * i + r) e ≡ get_or (f (get_or xs i d)) r e
unfolding rows_of
row_of_item f [] i r d e w h k = absurd (not-suc-le-zero h)
row_of_item f (x ∷ xs) zero r d e w h k =
    ap (λ (j : ℕ). get_or (f x ++ rows_of f xs) j e) (first r) ∙ get_or-append (f x) (rows_of f xs) e r (subst (λ (n : ℕ). r < n) (sym (w x)) k)
row_of_item f (x ∷ xs) (suc i) r d e w h k =
    ap (λ (j : ℕ). get_or (f x ++ rows_of f xs) j e) (next i r ∙ ap (λ (n : ℕ). n + (4 * i + r)) (sym (w x)))
    ∙ get_or-append-add (f x) (rows_of f xs) (4 * i + r) e
    ∙ row_of_item f xs i r d e w (le_of_suc-le-suc h) k

-- ---- the rows of a world matrix

row_of_matrix : (m : D3DMATRIX) (r : ℕ) (e : Row) → r < 4 → get_or (matrix_rows m) r e ≡ row m r
unfolding row
row_of_matrix m zero e h = refl
row_of_matrix m (suc zero) e h = refl
row_of_matrix m (suc (suc zero)) e h = refl
row_of_matrix m (suc (suc (suc zero))) e h = refl
row_of_matrix m (suc (suc (suc (suc r)))) e h = absurd (omega arith)

four_rows : (view world : D3DMATRIX) → length (world_view_rows view world) ≡ 4
unfolding world_view_rows
four_rows view world = refl

-- they are transposed
world_view_row : (view world : D3DMATRIX) (r c : ℕ) (e : Row) → r < 4 → c < 4 → column (get_or (world_view_rows view world) r e) c ≡ dot (row world c) view r
unfolding world_view_rows
world_view_row view world r c e R C =
    ap (λ (a : Row). column a c) (row_of_matrix (transposed (mat_mul world view)) r e R) ∙ transposed-entry (mat_mul world view) r c R C ∙ mat_mul-entry world view c r C R

-- a row past the end, which no float is taken from
abbrev no_row : Row
no_row = no_matrix.r0

-- ---- by the float's place

module _ (view : D3DMATRIX) (worlds : List D3DMATRIX) where
  abbrev rows : List Row
  rows = rows_of (world_view_rows view) worlds

  rows-length : length rows ≡ 4 * length worlds
  rows-length = length_rows_of (world_view_rows view) 4 (four_rows view) worlds

  pub world_within : (n : ℕ) → n < length (floats rows) → n / 16 < length worlds
  world_within n h = omega (arith, length-floats rows, rows-length)

  pub world_float : (n : ℕ) → n < length (floats rows) → get_or (floats rows) n nan ≡ dot (row (get_or worlds (n / 16) no_matrix) (n % 4)) view (n / 4 % 4)
  world_float n h =
      let place : n ≡ 4 * (n / 4) + n % 4 = omega arith in
      let item : n / 4 ≡ 4 * (n / 16) + n / 4 % 4 = omega arith in
      let r : n / 4 % 4 < 4 = omega arith in
      let c : n % 4 < 4 = omega arith in
      ap (λ (i : ℕ). get_or (floats rows) i nan) place
      ∙ float_of_row rows (n / 4) (n % 4) nan no_row (omega (arith, length-floats rows)) c
      ∙ ap (λ (i : ℕ). column (get_or rows i no_row) (n % 4)) item
      ∙ ap (λ (a : Row). column a (n % 4)) (row_of_item (world_view_rows view) worlds (n / 16) (n / 4 % 4) no_matrix no_row (four_rows view) (world_within n h) r)
      ∙ world_view_row view (get_or worlds (n / 16) no_matrix) (n / 4 % 4) (n % 4) no_row r c
