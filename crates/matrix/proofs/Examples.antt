-- Worked examples, computed. They hold the definitions to document 01 and to plain arithmetic, so that bending code and definition alike does not go unseen.
use Prim.Native.Nat.{ℕ, ◌^◌}
use mathlib.Core.Path.{◌≡◌, refl}
use mathlib.Core.Bool.{false}
use mathlib.Core.List.{[], ◌∷◌}
use lib.IntN.{pos, negsuc}
use lib.Ieee.{Float, fin, binary32, add, mul, sub, div, neg, eq, of_int}
use Rattle.d3d9_types.specs.Numbers.{zero, one}
use Rattle.d3d9_types.specs.Matrix.{identity}
use Rattle.d3d9_types.specs.declared.matrix.Row.{Row}
use Rattle.d3d9_types.specs.declared.matrix.D3DMATRIX.{D3DMATRIX}
use Rattle.d3d9_types.specs.declared.vector.D3DVECTOR.{D3DVECTOR}
use Rattle.std.specs.Prelude.{Some}
use Rattle.matrix.specs.Entry.{column, row, matrix_of, vector_of}
use Rattle.matrix.specs.Sum.{sum_from, sum}
use Rattle.matrix.specs.Product.{dot, mat_mul}
use Rattle.matrix.specs.Transposition.{transposed}
use Rattle.matrix.specs.Inversion.{det2, sum3, minor, determinant, signed, other, fellow, other_pair, cofactor, singular, inverse, inverse_number}
use Rattle.matrix.specs.View.{view_transform_point, view_transform_dir}

-- the whole numbers +0.0, 1, 2, .. and −0.0, −1, −2, .. as floats
abbrev p : ℕ → Float
p n = of_int binary32 (pos n)

abbrev n : ℕ → Float
n k = neg (p k)

abbrev rows_of : Row → Row → Row → Row → D3DMATRIX
rows_of a b c d = record { r0 = a; r1 = b; r2 = c; r3 = d }

abbrev four : Float → Float → Float → Float → Row
four a b c d = record { x = a; y = b; z = c; w = d }

abbrev diagonal : Float → D3DMATRIX
diagonal a = rows_of (four a zero zero zero) (four zero a zero zero) (four zero zero a zero) (four zero zero zero a)

-- a translation by 5, 6, 7, as P10 has it
abbrev translation : D3DMATRIX
translation =
    rows_of (four one zero zero zero) (four zero one zero zero) (four zero zero one zero) (four (p 5) (p 6) (p 7) one)

-- ---- sums

four_negative_zeros : sum (n 0 ∷ n 0 ∷ n 0 ∷ n 0 ∷ []) ≡ n 0
unfolding sum_from add neg of_int
four_negative_zeros = refl

-- from the left, 2 ^ 24 swallows each 1; from the right, the answer would be 2
left_to_right : sum (p (2 ^ 24) ∷ one ∷ one ∷ n (2 ^ 24) ∷ []) ≡ zero
unfolding sum_from add neg of_int
left_to_right = refl

-- ---- products

negative_zeros_stay : mat_mul (matrix_of (λ i j. n 0)) (matrix_of (λ i j. one)) ≡ matrix_of (λ i j. n 0)
unfolding mat_mul dot column row sum_from add mul neg of_int
negative_zeros_stay = refl

-- P10: a world translation 5, 6, 7 under the fresh view
p10 : row (transposed (mat_mul translation identity)) 0 ≡ four one zero zero (p 5)
unfolding transposed mat_mul dot identity column row sum_from add mul of_int
p10 = refl

-- a matrix that tells the order of the terms by its columns: in the first 1 is swallowed and 5 added to 0, in the second 1 is swallowed
abbrev swallowing : D3DMATRIX
swallowing =
    let big = p (2 ^ 24) in
    rows_of (four big big one zero) (four one one zero zero) (four (neg big) zero zero zero) (four (p 5) (neg big) zero one)

product_in_order : row (mat_mul (matrix_of (λ i j. one)) swallowing) 0 ≡ four (p 5) zero one one
unfolding mat_mul dot column row sum_from add mul neg of_int
product_in_order = refl

-- two triangular matrices, their product, and its inverse in whole numbers
abbrev lower : D3DMATRIX
lower = rows_of (four one zero zero zero) (four one one zero zero) (four (n 1) (p 3) one zero) (four (n 1) one (p 3) one)

abbrev upper : D3DMATRIX
upper = rows_of (four one (p 3) (p 2) (p 2)) (four zero one (p 3) (n 2)) (four zero zero one (n 2)) (four zero zero zero one)

abbrev whole : D3DMATRIX
whole =
    rows_of (four one (p 3) (p 2) (p 2)) (four one (p 4) (p 5) zero) (four (n 1) zero (p 8) (n 10)) (four (n 1) (n 2) (p 4) (n 9))

abbrev whole_inverse : D3DMATRIX
whole_inverse =
    rows_of
    (four (n 28) (p 24) (n 11) (p 6))
    (four (p 27) (n 22) (p 9) (n 4))
    (four (n 16) (p 13) (n 5) (p 2))
    (four (n 10) (p 8) (n 3) one)

product_of_two : mat_mul lower upper ≡ whole
unfolding mat_mul dot column row sum_from add mul neg of_int
product_of_two = refl

-- ---- inverses

whole_inverted : inverse whole ≡ Some whole_inverse
unfolding inverse singular determinant cofactor minor det2 sum3 signed other fellow other_pair column row add mul sub div neg eq of_int
whole_inverted = refl

inverse_is_inverse : mat_mul whole whole_inverse ≡ identity
unfolding mat_mul dot identity column row sum_from add mul neg of_int
inverse_is_inverse = refl

halves : inverse (diagonal (p 2)) ≡ Some (diagonal (fin false 1 (negsuc 0)))
unfolding inverse singular determinant cofactor minor det2 sum3 signed other fellow other_pair column row add mul sub div neg eq of_int
halves = refl

-- refused: the determinant is 0; it overflows. Not refused: it is the smallest float, though the reciprocal overflows
abbrev number : Float → ℕ
number a = inverse_number (inverse (diagonal a))

zero_is_singular : number zero ≡ 6
unfolding inverse_number inverse singular determinant minor det2 sum3 column row add mul sub neg eq
zero_is_singular = refl

overflow_is_singular : number (fin false 1 (pos 100)) ≡ 6
unfolding inverse_number inverse singular determinant minor det2 sum3 column row add mul sub neg eq
overflow_is_singular = refl

tiny_is_inverted : number (fin false 1 (negsuc 36)) ≡ 0
unfolding inverse_number inverse singular determinant minor det2 sum3 column row add mul sub neg eq
tiny_is_inverted = refl

-- ---- points and directions

abbrev three : Float → Float → Float → D3DVECTOR
three a b c = record { x = a; y = b; z = c }

point_moves : view_transform_point translation (three one (p 2) (p 3)) ≡ three (p 6) (p 8) (p 10)
unfolding view_transform_point column row sum_from add mul of_int
point_moves = refl

direction_stays : view_transform_dir translation (three one (p 2) (p 3)) ≡ three one (p 2) (p 3)
unfolding view_transform_dir column row sum_from add mul of_int
direction_stays = refl

direction_negative_zero : view_transform_dir (matrix_of (λ i j. n 0)) (vector_of (λ j. one)) ≡ vector_of (λ j. n 0)
unfolding view_transform_dir column row sum_from add mul neg of_int
direction_negative_zero = refl

-- ---- their sums too run from the left, the translation last

point_in_order : view_transform_point swallowing (three one one one) ≡ three (p 5) zero one
unfolding view_transform_point column row sum_from add mul neg of_int
point_in_order = refl

direction_in_order : view_transform_dir swallowing (three one one one) ≡ three zero (p (2 ^ 24)) one
unfolding view_transform_dir column row sum_from add mul neg of_int
direction_in_order = refl
