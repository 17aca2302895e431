-- Where a section's place in the mirror holds its packing, the count of differing rows is 0: a float is alike to itself, NaN too.
-- Assumes nothing.
use Prim.Native.Nat.{ℕ, zero, suc, ◌+◌, ◌*◌, ◌<◌}
use native.Mathlib.Omega.{arith}
use mathlib.Core.Path.{◌≡◌, refl, ap, ◌∙◌}
use mathlib.Core.Bool.{Bool, true, false, ◌&&◌, or-true}
use mathlib.Core.List.{List}
use lib.Ieee.{Float, nan, binary32, to_bits, is_nan}
use lib.ListN.{length, get_or}
use borrow.Author.Tests.{eq-eqb}
use Rattle.sections.specs.declared.sections.Section.{Section}
use Rattle.rows.specs.Rows.{floats}
use Rattle.rows.proofs.Floats.{length-floats}
use Rattle.sections.specs.Sections.{first_row}
use Rattle.sections.specs.declared.key.FfVsKey.{FfVsKey}
use Rattle.d3d9_model.specs.State.{AbstractState}
use Rattle.packing_agreement.specs.Abstract.{abstract_rows}
use Rattle.refresh.specs.Written.{first_float}
use Rattle.refresh.proofs.Parts.{Holds}
use Rattle.trace.specs.Count.{alike, alike_at, row_differs, count_below, differing}

alike_same : (x y : Float) → x ≡ y → alike x y ≡ true
unfolding alike
alike_same x y e = rw (eq-eqb (to_bits binary32 x) (to_bits binary32 y) (ap (to_bits binary32) e)) (or-true (is_nan x && is_nan y))

none_below : (f : ℕ → Bool) (n : ℕ) → ((i : ℕ) → i < n → f i ≡ false) → count_below f n ≡ 0
unfolding count_below
none_below f zero h = refl
none_below f (suc n) h = rw (h n (omega arith)) (omega (arith, none_below f n (λ i g. h i (omega arith))))

-- a float of row i of what m holds from row f on
alike-at : (m p : List Float) (f i j : ℕ) → Holds m (4 * f) p → 4 * i + j < length p → alike_at m (f + i) p i j ≡ true
unfolding alike_at
alike-at m p f i j h small =
    let e : 4 * (f + i) + j ≡ 4 * f + (4 * i + j) = omega arith in
    alike_same _ _ (ap (λ (x : ℕ). get_or m x nan) e ∙ h (4 * i + j) small)

row-alike : (m p : List Float) (f i : ℕ) → Holds m (4 * f) p → 4 * i + 3 < length p → row_differs m (f + i) p i ≡ false
unfolding row_differs
row-alike m p f i h small =
    rw (
      alike-at m p f i 0 h (omega (arith, small)),
      alike-at m p f i 1 h (omega (arith, small)),
      alike-at m p f i 2 h (omega (arith, small)),
      alike-at m p f i 3 h (omega (arith, small)),
    )

pub holds_count : (m : List Float) (k : FfVsKey) (a : AbstractState) (σ : Section) → Holds m (first_float σ) (floats (abstract_rows σ a k)) → differing m k a σ ≡ 0
unfolding differing
holds_count m k a σ h =
    let n = length-floats (abstract_rows σ a k) in
    none_below _ (length (abstract_rows σ a k)) (λ i g. row-alike m (floats (abstract_rows σ a k)) (first_row σ) i h (omega (arith, g, n)))
