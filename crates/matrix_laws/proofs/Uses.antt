-- The laws in use, on a state with two world matrices and a view of whole numbers up to 1,024 in magnitude: float 9 of the WV rows and float 25 of the PALETTE rows are entry (1, 2) of the first and
-- of the second world matrix times the view. Assumes nothing.
use Prim.Native.Nat.{ℕ, zero, suc, ◌+◌, ◌-◌, ◌*◌, ◌≤◌, ◌<◌}
use native.Mathlib.Omega.{arith}
use mathlib.Core.Path.{◌≡◌, sym, subst}
use mathlib.Core.List.{List, [], ◌∷◌}
use lib.Dec.{lit<}
use lib.IntN.{ℤ, pos, negsuc}
use lib.Ieee.{nan, of_int}
use lib.ListN.{length, get_or, take}
use Rattle.d3d9_types.specs.Matrix.{matrixFits}
use Rattle.d3d9_types.specs.declared.matrix.D3DMATRIX.{D3DMATRIX}
use Rattle.float32.specs.Root.{in_units}
use Rattle.matrix.specs.Entry.{column, row}
use Rattle.rows.specs.Rows.{floats, rows_of}
use Rattle.rows.specs.Matrices.{world_view_rows, palette_rows}
use Rattle.ff_state.specs.State.{with_view, with_world_palette, fresh_state}
use Rattle.ff_state.specs.declared.state.FfState.{FfState}
use Rattle.sections.specs.Counts.{palette_matrices}
use Rattle.sections.specs.declared.key.FfVsKey.{FfVsKey}
use Rattle.sections.specs.declared.sections.Section.TheVariants.{Wv, Palette}
use Rattle.packing.specs.Inputs.{packed_rows, inputs_of}
use Rattle.packing.specs.Pack.{state_rows}
use Rattle.matrix_laws.specs.Exact.{signed_units, exact_product, magnitude_sum, moderate_product, moderate, Close, IsWhole, WholeEntries, whole_sum}
use Rattle.matrix_laws.specs.Rows.{world_at, MatricesFit}
use Rattle.matrix_laws.proofs.Tables.{wholes, wholes_fit, wholes_are}
use Rattle.matrix_laws.proofs.Sections.{wv_whole, palette_close, palette_whole}

first : ℕ → ℕ → ℤ
first i j = pos (3 * i + j)

second : ℕ → ℕ → ℤ
second i j = pos (1024 - (16 * i + 3 * j))

seen : ℕ → ℕ → ℤ
seen i j = negsuc (1023 - (5 * i + j))

abbrev worlds : List D3DMATRIX
worlds = wholes first ∷ wholes second ∷ []

abbrev state : FfState
state = with_view (with_world_palette fresh_state worlds) (wholes seen)

fit : MatricesFit (inputs_of state)
fit = record { view = wholes_fit seen; world = each }
  where
    each : (w : ℕ) → w < 2 → matrixFits (world_at (inputs_of state) w)
    each zero h = wholes_fit first
    each (suc zero) h = wholes_fit second
    each (suc (suc w)) h = absurd (omega arith)

first_whole : WholeEntries (wholes first) first
unfolding first
first_whole = wholes_are first (λ i j I J. let z : 3 * i + j ≤ 1024 = omega arith in z)

second_whole : WholeEntries (wholes second) second
unfolding second
second_whole = wholes_are second (λ i j I J. let z : 1024 - (16 * i + 3 * j) ≤ 1024 = omega arith in z)

seen_whole : WholeEntries (wholes seen) seen
unfolding seen
seen_whole = wholes_are seen (λ i j I J. let z : suc (1023 - (5 * i + j)) ≤ 1024 = omega arith in z)

module _ (k : FfVsKey) where
  -- −(3 × 1,022 + 4 × 1,017 + 5 × 1,012 + 6 × 1,007)
  wv_nine : IsWhole (get_or (state_rows Wv state k) 9 nan) (negsuc 18_235)
  unfolding first seen whole_sum packed_rows world_view_rows floats
  wv_nine = wv_whole (inputs_of state) fit k 9 (lit< tt) first seen first_whole seen_whole

  module _ (two : palette_matrices k ≡ 2) where
    long : 25 < length (state_rows Palette state k)
    unfolding packed_rows palette_rows rows_of world_view_rows floats
    long = subst (λ (n : ℕ). 25 < length (floats (palette_rows (wholes seen) (take n worlds)))) (sym two) (lit< tt)

    -- −(1,008 × 1,022 + 1,005 × 1,017 + 1,002 × 1,012 + 999 × 1,007)
    palette_twenty_five : IsWhole (get_or (state_rows Palette state k) 25 nan) (negsuc 4_072_277)
    unfolding second seen whole_sum
    palette_twenty_five = palette_whole (inputs_of state) fit k 25 long second seen second_whole seen_whole

    palette_close_there : Close (get_or (state_rows Palette state k) 25 nan) (row (wholes second) 1) (wholes seen) 2
    unfolding second seen moderate moderate_product magnitude_sum exact_product signed_units in_units column row of_int
    palette_close_there = palette_close (inputs_of state) fit k 25 long tt
