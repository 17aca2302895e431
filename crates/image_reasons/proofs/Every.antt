-- `every_below` is true exactly if the test holds of each number below the bound.
-- Assumes nothing.
use Prim.Native.Nat.{ℕ, zero, suc, ◌<◌}
use native.Mathlib.Omega.{arith}
use mathlib.Core.Path.{◌≡◌, refl}
use mathlib.Core.Bool.{Bool, true, and-eq-true_iff}
use borrow.Author.Count.{below_more}
use Rattle.image_reasons.specs.Every.{every_below}

module _ (p : ℕ → Bool) where
  pub every_is : (n : ℕ) → ((k : ℕ) → k < n → p k ≡ true) → every_below n p ≡ true
  unfolding every_below
  every_is zero h = refl
  every_is (suc n) h = rw (every_is n (λ (k : ℕ) (l : k < n). h k (omega arith)), h n (omega arith))

  pub every_holds : (n : ℕ) → every_below n p ≡ true → (k : ℕ) → k < n → p k ≡ true
  unfolding every_below
  every_holds zero h k l = absurd (omega arith)
  every_holds (suc n) h k l =
      let both = (and-eq-true_iff (every_below n p) (p n)).0 h in
      below_more (λ (j : ℕ). p j ≡ true) n (every_holds n both.0) both.1 k (omega arith)
