-- What the test of T-12's hypotheses says: of each of the four products, and of the sum of their magnitudes. Assumes nothing.
use Prim.Native.Nat.{ℕ, zero, suc, ◌≤◌, ◌<◌}
use mathlib.Core.Path.{◌≡◌}
use mathlib.Core.Bool.{Bool, ◌&&◌}
use mathlib.Core.Logic.{◌⊎◌, inl, inr}
use lib.Dec.{T, leb, ltb, eqb, ltb→lt}
use lib.IntN.{nat_abs}
use lib.Ieee.Bits.{is_true}
use lib.Ieee.Fits.{and_l, and_r}
use lib.Ieee.Scale.{finite}
use borrow.Author.Tests.{eqb-true, leb-true}
use Rattle.d3d9_types.specs.declared.matrix.Row.{Row}
use Rattle.d3d9_types.specs.declared.matrix.D3DMATRIX.{D3DMATRIX}
use Rattle.lemmas.proofs.Tests.{either}
use Rattle.matrix.specs.Entry.{column, row, entry}
use Rattle.matrix_laws.specs.Exact.{exact_product, magnitude_sum, least_product, sum_limit, in_range, moderate_product, moderate}

pub in-range : (n : ℕ) → T (in_range n) → (n ≡ 0) ⊎ (least_product ≤ n)
in-range n t = elim (either (eqb n 0) (leb least_product n) (is_true (in_range n) t)) [ inl e ↦ inl (eqb-true n 0 e) | inr e ↦ inr (leb-true least_product n e) ]

module _ (a : Row) (m : D3DMATRIX) (j : ℕ) (h : T (moderate a m j)) where
  abbrev p : ℕ → Bool
  p = moderate_product a m j

  abbrev last : Bool
  last = ltb (magnitude_sum a m j) sum_limit

  abbrev from₃ : Bool
  from₃ = p 3 && last

  abbrev from₂ : Bool
  from₂ = p 2 && from₃

  abbrev from₁ : Bool
  from₁ = p 1 && from₂

  has₁ : T from₁
  unfolding moderate
  has₁ = and_r (p 0) from₁ h

  has₂ : T from₂
  has₂ = and_r (p 1) from₂ has₁

  has₃ : T from₃
  has₃ = and_r (p 2) from₃ has₂

  pub sum_below : magnitude_sum a m j < sum_limit
  sum_below = ltb→lt (magnitude_sum a m j) sum_limit (and_r (p 3) last has₃)

  all_moderate : (i : ℕ) → T (p i)
  unfolding moderate moderate_product exact_product column row
  all_moderate zero = and_l (p 0) from₁ h
  all_moderate (suc zero) = and_l (p 1) from₂ has₁
  all_moderate (suc (suc zero)) = and_l (p 2) from₃ has₂
  all_moderate (suc (suc (suc i))) = and_l (p 3) last has₃

  pub each_says : (i : ℕ) → T (finite (column a i)) × T (finite (entry m i j)) × T (in_range (nat_abs (exact_product a m j i)))
  unfolding moderate_product
  each_says i =
      let x = finite (column a i) in
      let y = finite (entry m i j) in
      let z = in_range (nat_abs (exact_product a m j i)) in
      let t = all_moderate i in
      (and_l x (y && z) t, and_l y z (and_r x (y && z) t), and_r y z (and_r x (y && z) t))
