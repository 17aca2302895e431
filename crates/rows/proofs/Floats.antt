-- The floats of rows: their number, and of rows one behind the other.
use Prim.Native.Nat.{ℕ, ◌+◌, ◌*◌}
use native.Mathlib.Nat.{mul-suc}
use native.Mathlib.Omega.{arith}
use mathlib.Core.Path.{◌≡◌, refl, sym, ap, ◌∙◌}
use mathlib.Core.List.{List, [], ◌∷◌, ◌++◌, append_assoc, append-nil}
use lib.Ieee.{Float}
use lib.ListN.{length, length-append}
use Rattle.d3d9_types.specs.declared.matrix.Row.{Row}
use lib.Seq.{sets}
use Rattle.rows.specs.Rows.{row_floats, floats, rows_of}
use Rattle.rows.proofs.Stores.{sets_append, sets_whole}

pub floats-append : (xs ys : List Row) → floats (xs ++ ys) ≡ floats xs ++ floats ys
unfolding floats
floats-append [] ys = refl
floats-append (x ∷ xs) ys = ap (λ (l : List Float). row_floats x ++ l) (floats-append xs ys)

pub length-floats : (xs : List Row) → length (floats xs) ≡ 4 * length xs
unfolding floats
length-floats [] = refl
length-floats (x ∷ xs) = omega (arith, length-floats xs)

pub rows_of_append : {A : Type 0} (f : A → List Row) (xs ys : List A) → rows_of f (xs ++ ys) ≡ rows_of f xs ++ rows_of f ys
unfolding rows_of
rows_of_append f [] ys = refl
rows_of_append f (x ∷ xs) ys = rw (append_assoc, rows_of_append f xs ys)

pub rows_of_one : {A : Type 0} (f : A → List Row) (x : A) → rows_of f (x ∷ []) ≡ f x
unfolding rows_of
rows_of_one f x = append-nil (f x)

-- items of w rows each
pub length_rows_of : {A : Type 0} (f : A → List Row) (w : ℕ) → ((x : A) → length (f x) ≡ w) → (xs : List A) → length (rows_of f xs) ≡ w * length xs
unfolding rows_of
length_rows_of f w wide [] = omega arith
length_rows_of f w wide (x ∷ xs) = rw (length-append, wide x, length_rows_of f w wide xs, mul-suc) (omega arith)

-- rows written one behind the other, the first of them o behind `at`
abbrev pub written : ℕ → ℕ → List Row → List Float → List Float
written at o [] m = m
written at o (r ∷ rs) m = written at (o + 4) rs (sets m (at + o) (row_floats r))

written_is : (at o : ℕ) (rs : List Row) (m : List Float) → written at o rs m ≡ sets m (at + o) (floats rs)
unfolding floats
written_is at o [] m = refl
written_is at o (r ∷ rs) m =
    let e : at + (o + 4) ≡ at + o + 4 = omega arith in
    rw (sets_append m (at + o) (row_floats r) (floats rs), ← e) (written_is at (o + 4) rs (sets m (at + o) (row_floats r)))

pub written_from : (at : ℕ) (r : Row) (rs : List Row) (m : List Float) → written at 4 rs (sets m at (row_floats r)) ≡ sets m at (floats (r ∷ rs))
unfolding floats
written_from at r rs m = rw (sets_append m at (row_floats r) (floats rs)) (written_is at 4 rs (sets m at (row_floats r)))

-- into a destination of just their length
pub written_whole : (r : Row) (rs : List Row) (m : List Float) → length m ≡ 4 * length (r ∷ rs) → written 0 4 rs (sets m 0 (row_floats r)) ≡ floats (r ∷ rs)
written_whole r rs m h = written_from 0 r rs m ∙ sets_whole (floats (r ∷ rs)) m (h ∙ sym (length-floats (r ∷ rs)))

pub one_row : (m : List Float) (r : Row) → length m ≡ 4 → sets m 0 (row_floats r) ≡ floats (r ∷ [])
one_row m r h = written_whole r [] m h
