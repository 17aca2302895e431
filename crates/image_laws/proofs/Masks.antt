-- A mask made from a test has the test's bits and no others, and two words of n bits with the same bits are equal.
-- Assumes nothing.
use Prim.Native.Nat.{ℕ, zero, suc, ◌/◌, ◌%◌, ◌^◌, ◌<◌}
use native.Mathlib.Nat.{div-one, pow-suc}
use native.Mathlib.Omega.{arith}
use mathlib.Core.Path.{◌≡◌, refl, sym, ap, ◌∙◌}
use mathlib.Core.Bool.{Bool, true, false, true≢false}
use lib.Dec.{eqb}
use borrow.Author.Tests.{eqb-true, eqb-false}
use Rattle.lemmas.proofs.Branch.{branch}
use Rattle.words.specs.Bits.{has_bit}
use Rattle.words.proofs.Words.{with_bit_lt, has_with_bit, has_bit_suc}
use Rattle.image_lists.specs.Masks.{mask_of}

module _ (p : ℕ → Bool) where
  pub mask_lt : (n : ℕ) → mask_of n p < 2 ^ n
  unfolding mask_of
  mask_lt zero = omega arith
  mask_lt (suc n) =
      let less : mask_of n p < 2 ^ n = mask_lt n in
      with_bit_lt (suc n) (mask_of n p) n (p n) (omega arith) (omega (arith, pow-suc 2 n))

  pub mask_has : (n i : ℕ) → i < n → has_bit (mask_of n p) i ≡ p i
  unfolding mask_of
  mask_has zero i h = absurd (omega arith)
  mask_has (suc n) i h =
      has_with_bit (mask_of n p) n i (p n)
      ∙ branch (λ (b : Bool). b ≡ p i) (eqb n i) (p n) (has_bit (mask_of n p) i)
      (λ (e : eqb n i ≡ true). ap p (eqb-true n i e))
      (λ (e : eqb n i ≡ false). let other : n ≡ i → ⊥ = eqb-false n i e in mask_has n i (omega arith))

same_digit : (x y : ℕ) → x < 2 → y < 2 → eqb x 1 ≡ eqb y 1 → x ≡ y
same_digit zero zero p q e = refl
same_digit (suc zero) (suc zero) p q e = refl
same_digit zero (suc zero) p q e = absurd (true≢false (sym e))
same_digit (suc zero) zero p q e = absurd (true≢false e)
same_digit zero (suc (suc y)) p q e = absurd (omega arith)
same_digit (suc zero) (suc (suc y)) p q e = absurd (omega arith)
same_digit (suc (suc x)) y p q e = absurd (omega arith)

first_digit : (w : ℕ) → has_bit w 0 ≡ eqb (w % 2) 1
unfolding has_bit
first_digit w = ap (λ (n : ℕ). eqb (n % 2) 1) (div-one w)

pub same-bits : (n a b : ℕ) → a < 2 ^ n → b < 2 ^ n → ((i : ℕ) → i < n → has_bit a i ≡ has_bit b i) → a ≡ b
same-bits zero a b p q h = omega arith
same-bits (suc n) a b p q h =
    let halves : a / 2 ≡ b / 2 =
    same-bits n (a / 2) (b / 2) (omega (arith, pow-suc 2 n)) (omega (arith, pow-suc 2 n))
    (λ (i : ℕ) (l : i < n). sym (has_bit_suc a i) ∙ h (suc i) (omega arith) ∙ has_bit_suc b i) in
    let digits : a % 2 ≡ b % 2 =
    same_digit (a % 2) (b % 2) (omega arith) (omega arith) (sym (first_digit a) ∙ h 0 (omega arith) ∙ first_digit b) in
    omega arith

-- a word of n bits that has a test's bits is its mask
pub mask_is : (n w : ℕ) (p : ℕ → Bool) → w < 2 ^ n → ((i : ℕ) → i < n → has_bit w i ≡ p i) → mask_of n p ≡ w
mask_is n w p less h = same-bits n (mask_of n p) w (mask_lt p n) less (λ (i : ℕ) (l : i < n). mask_has p n i l ∙ sym (h i l))
