-- Document 02, T-12, of the packed WV and PALETTE rows: every float, under every key, of any inputs whose matrices hold f32 values, and so of every valid state. Assumes nothing.
use Prim.Native.Nat.{ℕ, ◌/◌, ◌%◌, ◌<◌}
use native.Mathlib.Nat.{lt_of_lt_of_le, min-le_left, le_of_eq, le_trans}
use native.Mathlib.Omega.{arith}
use mathlib.Core.Path.{◌≡◌, refl, sym, ap, subst, ◌∙◌}
use mathlib.Core.Bool.{Bool, true, false}
use mathlib.Core.List.{List, [], ◌∷◌}
use lib.Dec.{ltb}
use lib.Ieee.{Float, binary32, nan}
use lib.Ieee.Fits.{nan-fits}
use lib.ListN.{length, get_or, take, length-take, get_or-eq_default}
use lib.Seq.{get_or-take}
use borrow.Author.Tests.{ltb-true, ltb-false}
use Rattle.d3d9_types.specs.Matrix.{rowFits, matrixFits}
use Rattle.d3d9_types.specs.declared.matrix.Row.{Row}
use Rattle.d3d9_types.specs.declared.matrix.D3DMATRIX.{D3DMATRIX}
use Rattle.matrix.specs.Entry.{row}
use Rattle.matrix.specs.Product.{dot}
use Rattle.matrix.proofs.Fits.{row_fits}
use Rattle.rows.specs.Rows.{floats, rows_of}
use Rattle.rows.specs.Matrices.{world_view_rows, palette_rows}
use Rattle.rows.proofs.Floats.{rows_of_one}
use Rattle.ff_state.specs.State.{no_matrix}
use Rattle.ff_state.specs.Valid.{Valid}
use Rattle.ff_state.specs.declared.state.FfState.{FfState}
use Rattle.sections.specs.Counts.{palette_matrices}
use Rattle.sections.specs.declared.key.FfVsKey.{FfVsKey}
use Rattle.sections.specs.declared.sections.Section.TheVariants.{Wv, Palette}
use Rattle.packing.specs.Inputs.{Inputs, packed_rows, inputs_of}
use Rattle.packing.specs.Pack.{state_rows}
use Rattle.matrix_laws.specs.Exact.{Close, IsWhole, whole_sum}
use Rattle.matrix_laws.specs.Rows.{world_at, MatricesFit, world_row, view_column, EachClose, EachWhole}
use Rattle.matrix_laws.proofs.Dot.{dot_close}
use Rattle.matrix_laws.proofs.Whole.{dot_whole}
use Rattle.matrix_laws.proofs.Rows.{world_within, world_float}

-- past the palette there are NaNs, which are f32 values
no_matrix_fits : matrixFits no_matrix
no_matrix_fits =
    let f = nan-fits binary32 in
    let r : rowFits no_matrix.r0 = record { x = f; y = f; z = f; w = f } in
    record { r0 = r; r1 = r; r2 = r; r3 = r }

module _ (i : Inputs) (fit : MatricesFit i) where
  world_fits : (w : ℕ) → matrixFits (world_at i w)
  world_fits w = go (ltb w (length i.palette)) refl
    where
      go : (t : Bool) → ltb w (length i.palette) ≡ t → matrixFits (world_at i w)
      go true e = fit.world w (ltb-true w (length i.palette) e)
      go false e = subst matrixFits (sym (get_or-eq_default i.palette no_matrix (ltb-false w (length i.palette) e))) no_matrix_fits

  -- rows of which each float is such a product
  abbrev Products : List Float → Type 0
  Products xs = (n : ℕ) → n < length xs → get_or xs n nan ≡ dot (world_row i n) i.view (view_column n)

  each_close : (xs : List Float) → Products xs → EachClose i xs
  each_close xs is n l h =
      subst (λ (x : Float). Close x (world_row i n) i.view (view_column n)) (sym (is n l))
      (dot_close (world_row i n) i.view (view_column n) (row_fits (world_fits (n / 16)) (n % 4)) fit.view h)

  each_whole : (xs : List Float) → Products xs → EachWhole i xs
  each_whole xs is n l u v h g =
      subst (λ (x : Float). IsWhole x (whole_sum u v (n % 4) (view_column n))) (sym (is n l))
      (dot_whole (world_at i (n / 16)) i.view (world_fits (n / 16)) fit.view u v h g (n % 4) (view_column n) (omega arith) (omega arith))

  module _ (k : FfVsKey) where
    wv_products : Products (floats (packed_rows Wv k i))
    unfolding packed_rows
    wv_products = subst (λ (rs : List Row). Products (floats rs)) (rows_of_one (world_view_rows i.view) (world_at i 0)) one
      where
        one : Products (floats (rows_of (world_view_rows i.view) (world_at i 0 ∷ [])))
        one n l =
            let first : n / 16 ≡ 0 = omega (arith, world_within i.view (world_at i 0 ∷ []) n l) in
            world_float i.view (world_at i 0 ∷ []) n l
            ∙ ap (λ (m : D3DMATRIX). dot (row m (n % 4)) i.view (view_column n)) (ap (λ (w : ℕ). get_or (world_at i 0 ∷ []) w no_matrix) first ∙ ap (world_at i) (sym first))

    palette_products : Products (floats (packed_rows Palette k i))
    unfolding packed_rows palette_rows
    palette_products n l =
        let worlds : List D3DMATRIX = take (palette_matrices k) i.palette in
        let within : n / 16 < palette_matrices k = lt_of_lt_of_le (world_within i.view worlds n l) (le_trans (le_of_eq (length-take (palette_matrices k) i.palette)) (min-le_left (palette_matrices k) (length i.palette))) in
        world_float i.view worlds n l
        ∙ ap (λ (m : D3DMATRIX). dot (row m (n % 4)) i.view (view_column n)) (get_or-take (palette_matrices k) i.palette (n / 16) no_matrix within)

    pub wv_close : EachClose i (floats (packed_rows Wv k i))
    wv_close = each_close (floats (packed_rows Wv k i)) wv_products

    pub wv_whole : EachWhole i (floats (packed_rows Wv k i))
    wv_whole = each_whole (floats (packed_rows Wv k i)) wv_products

    pub palette_close : EachClose i (floats (packed_rows Palette k i))
    palette_close = each_close (floats (packed_rows Palette k i)) palette_products

    pub palette_whole : EachWhole i (floats (packed_rows Palette k i))
    palette_whole = each_whole (floats (packed_rows Palette k i)) palette_products

-- ---- of a valid state

module _ {s : FfState} (v : Valid s) where
  matrices_fit : MatricesFit (inputs_of s)
  matrices_fit = record { view = v.floats.view; world = λ w l. v.floats.palette w (omega (arith, v.palette_length)) }

  module _ (k : FfVsKey) where
    pub state_wv_close : EachClose (inputs_of s) (state_rows Wv s k)
    state_wv_close = wv_close (inputs_of s) matrices_fit k

    pub state_wv_whole : EachWhole (inputs_of s) (state_rows Wv s k)
    state_wv_whole = wv_whole (inputs_of s) matrices_fit k

    pub state_palette_close : EachClose (inputs_of s) (state_rows Palette s k)
    state_palette_close = palette_close (inputs_of s) matrices_fit k

    pub state_palette_whole : EachWhole (inputs_of s) (state_rows Palette s k)
    state_palette_whole = palette_whole (inputs_of s) matrices_fit k
