-- Every table of whole numbers of magnitude at most 1,024 is that of a matrix: the floats that `of_int` makes of them. So the law of whole numbers speaks of each. Assumes nothing.
use Prim.Native.Nat.{ℕ, suc, ◌*◌, ◌^◌, ◌≤◌, ◌<◌}
use native.Mathlib.Nat.{le_trans}
use mathlib.Core.Path.{sym, subst, ◌∙◌}
use mathlib.Core.Bool.{Bool, true, false}
use lib.Dec.{lit≤}
use lib.IntN.{ℤ, pos, negsuc, nat_abs}
use lib.Ieee.{Float, binary32, of_int}
use lib.Ieee.Back.{round_whole}
use lib.Ieee.Exact.{HasValue}
use lib.Ieee.Fits.{of_int-fits}
use Rattle.d3d9_types.specs.Matrix.{matrixFits}
use Rattle.d3d9_types.specs.declared.matrix.D3DMATRIX.{D3DMATRIX}
use Rattle.float32.proofs.Grid.{unit}
use Rattle.matrix.specs.Entry.{matrix_of}
use Rattle.matrix.proofs.Entries.{entry-matrix_of}
use Rattle.matrix.proofs.Fits.{matrix_of_fits}
use Rattle.matrix_laws.specs.Exact.{with_sign, IsWhole, largest_whole, WholeEntries}
use Rattle.matrix_laws.proofs.Integers.{sign_scale}
use Rattle.matrix_laws.proofs.Values.{has_finite, has_units, to_units}

abbrev pub wholes : (ℕ → ℕ → ℤ) → D3DMATRIX
wholes n = matrix_of (λ i j. of_int binary32 (n i j))

pub wholes_fit : (n : ℕ → ℕ → ℤ) → matrixFits (wholes n)
wholes_fit n = matrix_of_fits (λ i j. of_int binary32 (n i j)) (λ i j. of_int-fits binary32 (n i j))

of_value : (x : Float) (s : Bool) (n : ℕ) → HasValue x s n 1 → IsWhole x (with_sign s n)
of_value x s n h =
    let v : HasValue x s (n * unit) unit = to_units x s n unit h in
    record { is_finite = has_finite x s (n * unit) unit v; is = has_units x s (n * unit) v ∙ sym (sign_scale s n unit) }

of-int : (z : ℤ) → nat_abs z ≤ 2 ^ 24 → IsWhole (of_int binary32 z) z
unfolding of_int
of-int (pos n) h = of_value (of_int binary32 (pos n)) false n (round_whole binary32 false n h)
of-int (negsuc n) h = of_value (of_int binary32 (negsuc n)) true (suc n) (round_whole binary32 true (suc n) h)

pub wholes_are : (n : ℕ → ℕ → ℤ) → ((i j : ℕ) → i < 4 → j < 4 → nat_abs (n i j) ≤ 1024) → WholeEntries (wholes n) n
wholes_are n h =
    record {
      whole = λ i j I J. subst (λ (x : Float). IsWhole x (n i j)) (sym (entry-matrix_of (λ i j. of_int binary32 (n i j)) i j I J)) (of-int (n i j) (le_trans (h i j I J) (lit≤ tt)));
      small = λ i j I J. le_trans (h i j I J) (lit≤ {m = 1024} {n = largest_whole} tt);
    }
