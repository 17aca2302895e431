-- Four products, added from the left on to −0. Each rounded product is off by a part of its magnitude, −0 adds nothing, and each of the three sums is off by a part of its terms: with sizes that
-- grow by an eighth at most in a rounding, 1 + 9/8 + 81/64 + 729/512 parts, which is below 5. Assumes nothing.
use Prim.Native.Nat.{ℕ, ◌+◌, ◌*◌, ◌^◌, ◌≤◌, ◌<◌}
use native.Mathlib.Nat.{le_refl, lt_of_le_of_lt, lt_of_mul-lt-mul_right}
use native.Mathlib.Omega.{arith}
use mathlib.Core.Path.{◌≡◌, sym, subst}
use mathlib.Core.Bool.{Bool}
use mathlib.Core.List.{[], ◌∷◌}
use mathlib.Core.Logic.{◌⊎◌, inl, inr}
use lib.Dec.{lit≤}
use lib.Pow.{pow_pos}
use lib.Ieee.{Float, binary32, size, unlike}
use lib.Ieee.Exact.{HasValue}
use lib.Ieee.Scale.{grid, overflow}
use Rattle.float32.proofs.Grid.{unit, short}
use Rattle.float32.proofs.Arithmetic.{mul_is, rounded_value, from_zero}
use Rattle.matrix.specs.Sum.{plus, times, neg_zero, sum_from, sum}
use Rattle.matrix_laws.specs.Exact.{least_product, parts}
use Rattle.matrix_laws.proofs.Rounding.{Near, product_near}
use Rattle.matrix_laws.proofs.Signed.{gain, loss, gain_scale, loss_scale, even}
use Rattle.matrix_laws.proofs.Held.{Off, rounded_off, grown, Held, plus-held, weaken}

-- ---- a product

zero_near : Near 0 (grid binary32 0 (2 ^ 298) * unit)
unfolding size
zero_near = (lit≤ tt, lit≤ tt)

either_near : (a : ℕ) → (a ≡ 0) ⊎ (least_product ≤ a) → Near a (grid binary32 a (2 ^ 298) * unit)
either_near a (inl e) = subst (λ (z : ℕ). Near z (grid binary32 z (2 ^ 298) * unit)) (sym e) zero_near
either_near a (inr h) = product_near a h

under : (g l a o : ℕ) → 8 * (g * l) ≤ 9 * a → 9 * a < 8 * (o * l) → g < o
under g l a o h k = lt_of_mul-lt-mul_right l (let z : g * l < o * l = omega arith in z)

scaled_off : (r : Bool) (a g l : ℕ) → Near a (g * l) → Off (gain r g * l) (loss r g * l) (gain r a) (loss r a) a
scaled_off r a g l h =
    subst (λ (z : ℕ). Off z (loss r g * l) (gain r a) (loss r a) a) (gain_scale r g l)
    (subst (λ (z : ℕ). Off (gain r (g * l)) z (gain r a) (loss r a) a) (loss_scale r g l)
    (rounded_off r a (g * l) a (gain r a) (loss r a) h (le_refl a) (even r a)))

-- a rounded product that stands for P − N, of magnitude M
abbrev pub Product : Float → ℕ → ℕ → ℕ → Type 0
Product x P N M = (w : ℕ) × (8 * w ≤ 9 * M) × Held unit x P N M w

pub times-held : (x y : Float) (s t : Bool) (A B o : ℕ) → HasValue x s A unit → HasValue y t B unit → (A * B ≡ 0) ⊎ (least_product ≤ A * B) → o ≡ overflow binary32 * unit → 9 * (A * B) < 8 * o
    → Product (times x y) (gain (unlike s t) (A * B)) (loss (unlike s t) (A * B)) (A * B)
times-held x y s t A B o h k n is u =
    let a : ℕ = A * B in
    let r : Bool = unlike s t in
    let g : ℕ = grid binary32 a (2 ^ 298) in
    let near : Near a (g * unit) = either_near a n in
    let b : 8 * (g * unit) ≤ 9 * a = grown a (g * unit) a near (le_refl a) in
    let small : g < overflow binary32 = under g unit a (overflow binary32) b (subst (λ (z : ℕ). 9 * a < 8 * z) is u) in (
      g * unit,
      b,
      record {
        sign = r;
        count = g;
        value = subst (λ (z : Float). HasValue z r g unit) (sym (mul_is x y s t A B unit unit (pow_pos 149) (pow_pos 149) h k)) (rounded_value r a (2 ^ 298) small);
        short = short a (2 ^ 298) (pow_pos 298);
        off = scaled_off r a g unit near;
        size = le_refl (g * unit);
      },
    )

-- ---- −0 and a float: nothing is rounded

zero_held : {l : ℕ} {x : Float} {P N e m o : ℕ} → Held l x P N e m → o ≡ overflow binary32 * l → m < o → Held l (plus neg_zero x) P N e m
zero_held {l} {x} {P} {N} {e} {m} {o} h is u =
    record {
      sign = h.sign;
      count = h.count;
      value = from_zero x h.sign h.count h.value h.short (lt_of_mul-lt-mul_right l (lt_of_le_of_lt h.size (subst (λ (z : ℕ). m < z) is u)));
      short = h.short;
      off = h.off;
      size = h.size;
    }

-- ---- the four. u bounds the sum of the magnitudes; from o, at least twice that, on a float overflows

module _ (u o : ℕ) (room : 2 * u ≤ o) (is : o ≡ overflow binary32 * unit) {x₀ x₁ x₂ x₃ : Float} {P₀ N₀ M₀ P₁ N₁ M₁ P₂ N₂ M₂ P₃ N₃ M₃ : ℕ} (small : M₀ + M₁ + M₂ + M₃ < u)
    (t₀ : Product x₀ P₀ N₀ M₀) (t₁ : Product x₁ P₁ N₁ M₁) (t₂ : Product x₂ P₂ N₂ M₂) (t₃ : Product x₃ P₃ N₃ M₃) where
  pub four_held : (w : ℕ) × Held unit (sum (x₀ ∷ x₁ ∷ x₂ ∷ x₃ ∷ [])) (P₀ + P₁ + P₂ + P₃) (N₀ + N₁ + N₂ + N₃) (parts * (M₀ + M₁ + M₂ + M₃)) w
  unfolding sum_from
  four_held =
      let z₀ = zero_held t₀.2 is (omega (arith, t₀.1)) in
      let z₁ = plus-held z₀ t₁.2 is (omega (arith, t₀.1, t₁.1)) in
      let z₂ = plus-held {m = z₁.0} z₁.2 t₂.2 is (omega (arith, t₀.1, t₁.1, t₂.1, z₁.1)) in
      let z₃ = plus-held {m = z₂.0} z₂.2 t₃.2 is (omega (arith, t₀.1, t₁.1, t₂.1, t₃.1, z₁.1, z₂.1)) in
      (z₃.0, weaken {e = z₂.0 + t₃.0 + (z₁.0 + t₂.0 + (t₀.0 + t₁.0 + (M₀ + M₁) + M₂) + M₃)} {m = z₃.0} (omega (arith, t₀.1, t₁.1, t₂.1, t₃.1, z₁.1, z₂.1)) z₃.2)
