-- The steps of `inverse` make what the definitions say: the determinant from the kept minors, the columns with their signs, and each answer from the tests that led to it.
use mathlib.Core.Path.{◌≡◌, refl, ap₂, ◌∙◌}
use mathlib.Core.Bool.{true, false}
use lib.Ieee.{Float, nan, inf, fin, binary32, div, neg, eq}
use lib.Ieee.Scale.{finite}
use Rattle.d3d9_types.specs.Numbers.{zero, one}
use Rattle.d3d9_types.specs.declared.matrix.Row.{Row}
use Rattle.d3d9_types.specs.declared.matrix.D3DMATRIX.{D3DMATRIX}
use Rattle.matrix.specs.declared.inversion.Minors.{Minors}
use Rattle.std.specs.Prelude.{Some, None}
use Rattle.std.specs.Float.{float_is_finite}
use Rattle.matrix.specs.Entry.{column, row, matrix_of}
use Rattle.matrix.specs.Sum.{times}
use Rattle.matrix.specs.Transposition.{transposed}
use Rattle.matrix.specs.Inversion.{sum3, minor, determinant, signed, other, fellow, other_pair, cofactor, singular, inverse}
use Rattle.matrix.specs.Cofactors.{minors_of, determinant_of, negated_row, column_of}

neg_neg : (x : Float) → neg (neg x) ≡ x
unfolding neg
neg_neg nan = refl
neg_neg (inf true) = refl
neg_neg (inf false) = refl
neg_neg (fin true m e) = refl
neg_neg (fin false m e) = refl

-- the library's word for a number that is neither infinite nor a NaN
pub finite_is : (x : Float) → float_is_finite x ≡ finite x
unfolding float_is_finite
finite_is nan = refl
finite_is (inf s) = refl
finite_is (fin s m e) = refl

-- the minors of the upper and of the lower two rows
abbrev pub upper : D3DMATRIX → Minors
upper m = minors_of m.r0 m.r1

abbrev pub lower : D3DMATRIX → Minors
lower m = minors_of m.r2 m.r3

pub determinant-of : (m : D3DMATRIX) → determinant_of (upper m) (lower m) ≡ determinant m
unfolding determinant_of determinant minors_of minor column row
determinant-of m = refl

pub determinant_kept : (m : D3DMATRIX) {s c : Minors} {d : Float} → s ≡ upper m → c ≡ lower m → d ≡ determinant_of s c → d ≡ determinant m
determinant_kept m p q e = e ∙ ap₂ determinant_of p q ∙ determinant-of m

-- a column with the other signs, which is the column of the negated row
odd_column_of : Row → Minors → Float → Row
odd_column_of a n d =
    record {
      x = times (sum3 (neg a.y) n.zw a.z n.yw (neg a.w) n.yz) d;
      y = times (sum3 a.x n.zw (neg a.z) n.xw a.w n.xz) d;
      z = times (sum3 (neg a.x) n.yw a.y n.xw (neg a.w) n.xy) d;
      w = times (sum3 a.x n.yz (neg a.y) n.xz a.z n.xy) d;
    }

odd_column : (a : Row) (n : Minors) (d : Float) → column_of (negated_row a) n d ≡ odd_column_of a n d
unfolding column_of odd_column_of negated_row
odd_column a n d = simp neg_neg

-- the four columns, transposed
abbrev joined : Row → Row → Row → Row → D3DMATRIX
joined a b c d = transposed (record { r0 = a; r1 = b; r2 = c; r3 = d })

joined_is : (m : D3DMATRIX) (d : Float)
    → joined (column_of m.r1 (lower m) d) (odd_column_of m.r0 (lower m) d) (column_of m.r3 (upper m) d) (odd_column_of m.r2 (upper m) d)
    ≡ matrix_of (λ i j. times (cofactor m i j) d)
unfolding transposed cofactor column_of odd_column_of fellow other_pair other signed minors_of minor column row
joined_is m d = refl

pub columns_made : (m : D3DMATRIX) (d : Float) {s c : Minors} {n0 n2 a0 a1 a2 a3 : Row} {x : D3DMATRIX} → s ≡ upper m → c ≡ lower m → n0 ≡ negated_row m.r0 → n2 ≡ negated_row m.r2
    → a0 ≡ column_of m.r1 c d → a1 ≡ column_of n0 c d → a2 ≡ column_of m.r3 s d → a3 ≡ column_of n2 s d → x ≡ joined a0 a1 a2 a3
    → x ≡ matrix_of (λ i j. times (cofactor m i j) d)
columns_made m d us lc p q e0 e1 e2 e3 e =
    rw (e, e0, e1, e2, e3, us, lc, p, q, odd_column m.r0 (lower m) d, odd_column m.r2 (upper m) d) (joined_is m d)

module _ (m : D3DMATRIX) (d : Float) (e : d ≡ determinant m) where
  pub refused-zero : eq d zero ≡ true → None ≡ inverse m
  unfolding inverse singular
  refused-zero z = rw (← e, z)

  pub refused_infinite : eq d zero ≡ false → finite d ≡ false → None ≡ inverse m
  unfolding inverse singular
  refused_infinite z f = rw (← e, z, f)

  pub accepted : eq d zero ≡ false → finite d ≡ true → (x : D3DMATRIX) → x ≡ matrix_of (λ i j. times (cofactor m i j) (div binary32 one d))
      → Some x ≡ inverse m
  unfolding inverse singular
  accepted z f x q = rw (← e, z, f, q)
