-- The inverse by cofactors, or that there is none (ff_state.rs 1168–1221), in the Rust's order of operations. Document 01, 'The arithmetic underneath'.
use Rattle.std.specs.Prelude.{ℕ, ◌+◌, ◌-◌, ◌*◌, ◌%◌, Bool, cond, not, ◌||◌, ltb, eqb, Float, Option, Some, None}
use Rattle.std.specs.Float.{binary32}
use Rattle.std.specs.Float.Ieee.{sub, div, neg, eq}
use Rattle.std.specs.Float.Ieee.Scale.{finite}
use Rattle.d3d9_types.specs.Matrix.{identity}
use Rattle.d3d9_types.specs.Numbers.{zero, one}
use Rattle.d3d9_types.specs.declared.matrix.D3DMATRIX.{D3DMATRIX}
use Rattle.matrix.specs.Entry.{entry, matrix_of}
use Rattle.matrix.specs.Sum.{plus, times}

-- a × d − b × c
unfoldable pub det2 : Float → Float → Float → Float → Float
det2 a b c d = sub binary32 (times a d) (times b c)

-- three products, added from the first on
unfoldable pub sum3 : Float → Float → Float → Float → Float → Float → Float
sum3 a0 x0 a1 x1 a2 x2 = plus (plus (times a0 x0) (times a1 x1)) (times a2 x2)

-- The minor of columns p and q in rows i and i + 1. By (p, q) from (0, 1) to (2, 3) these are the Rust's s0 to s5 at i = 0, and c0 to c5 at i = 2.
unfoldable pub minor : D3DMATRIX → ℕ → ℕ → ℕ → Float
minor m i p q = det2 (entry m i p) (entry m (i + 1) p) (entry m i q) (entry m (i + 1) q)

unfoldable pub determinant : D3DMATRIX → Float
determinant m =
    plus
    (sum3 (minor m 0 0 1) (minor m 2 2 3) (neg (minor m 0 0 2)) (minor m 2 1 3) (minor m 0 0 3) (minor m 2 1 2))
    (sum3 (minor m 0 1 2) (minor m 2 0 3) (neg (minor m 0 1 3)) (minor m 2 0 2) (minor m 0 2 3) (minor m 2 0 1))

-- x where n is even, −x where it is odd
unfoldable pub signed : ℕ → Float → Float
signed n x = cond (eqb (n % 2) 0) x (neg x)

-- the k-th of the columns other than i, from 0
unfoldable pub other : ℕ → ℕ → ℕ
other i k = cond (ltb k i) k (k + 1)

-- The rows are two pairs, 0 and 1, 2 and 3: the fellow of row j in its pair, and the first row of the other pair.
unfoldable pub fellow : ℕ → ℕ
fellow j = j + 1 - 2 * (j % 2)

unfoldable pub other_pair : ℕ → ℕ
other_pair j = cond (ltb j 2) 2 0

-- The cofactor that stands at row i, column j of the inverse: the fellow of row j, against the minors of the other pair. At (0, 0) it is m[5] × c5 − m[6] × c4 + m[7] × c3.
unfoldable pub cofactor : D3DMATRIX → ℕ → ℕ → Float
cofactor m i j =
    let a = entry m (fellow j) in
    let n = minor m (other_pair j) in
    let p = other i 0 in
    let q = other i 1 in
    let r = other i 2 in
    sum3 (signed (i + j) (a p)) (n q r) (signed (i + j + 1) (a q)) (n p r) (signed (i + j) (a r)) (n p q)

-- a determinant that no inverse is made from
unfoldable pub singular : Float → Bool
singular det = eq det zero || not (finite det)

unfoldable pub inverse : D3DMATRIX → Option D3DMATRIX
inverse m =
    cond (singular (determinant m)) None
    (Some (matrix_of (λ i j. times (cofactor m i j) (div binary32 one (determinant m)))))

-- Document 01's number for each answer, and its value: the identity beside the refusal ('Rust forms to recast').
unfoldable pub inverse_number : Option D3DMATRIX → ℕ
inverse_number (Some m) = 0
inverse_number None = 6

unfoldable pub inverse_matrix : Option D3DMATRIX → D3DMATRIX
inverse_matrix (Some m) = m
inverse_matrix None = identity
