-- Each component of a scaled direction is its exact product with 2 ^ (150 − z), z the digits of the largest one, rounded once: here that product is a fraction of whole numbers.
-- `mul` rounds the exact product of its operands, and so does the power's, which need be no f32.
use Prim.Native.Nat.{ℕ, ◌*◌, ◌^◌, ◌<◌}
use native.Mathlib.Nat.{mul_left_comm, mul-pos}
use mathlib.Core.Path.{◌≡◌, refl, ap, ◌∙◌}
use mathlib.Core.Bool.{Bool, true, false}
use lib.Dec.{T, ltb}
use lib.Pow.{pow_pos}
use lib.Ieee.{Float, nan, inf, fin, binary32, up, down, minus, size, round}
use lib.Ieee.Digits.{minus_val}
use lib.Ieee.Fits.{down_pos}
use lib.Ieee.Scale.{finite, round_same}
use borrow.Author.Tests.{lt-ltb}
use Rattle.d3d9_types.specs.Numbers.{float_fits}
use Rattle.d3d9_types.specs.Vector.{vectorFits}
use Rattle.d3d9_types.specs.declared.vector.D3DVECTOR.{D3DVECTOR}
use Rattle.float32.specs.Root.{in_units}
use Rattle.float32.proofs.Units.{counted}
use Rattle.matrix.specs.Sum.{times}
use Rattle.directions.specs.Scale.{largest, scalable, digits_of_one, scaling, scaled}
use Rattle.directions.proofs.Magnitude.{all-hold}
use Rattle.directions.proofs.Power.{times_value}
use Rattle.directions.proofs.Scaling.{scaled_if}

abbrev negative : Float → Bool
negative nan = false
negative (inf s) = s
negative (fin s m e) = s

-- x, of inUnits x units of 2 ^ −149, times 2 ^ (150 − z)
abbrev pub once : ℕ → Float → Float
once z x = round binary32 (negative x) (in_units x * 2 ^ 150) (2 ^ 149 * 2 ^ z)

product : (z : ℕ) (x : Float) → float_fits x → T (finite x) → times x (fin false 1 (minus digits_of_one z)) ≡ once z x
product z nan h f = absurd f
product z (inf s) h f = absurd f
product z (fin s m e) h f =
    let n = in_units (fin s m e) in
    let k = minus digits_of_one z in
    let cross : n * up k * (2 ^ 149 * 2 ^ z) ≡ n * 2 ^ 150 * (2 ^ 149 * down k) =
    mul_left_comm (n * up k) (2 ^ 149) (2 ^ z) ∙ ap (λ (a : ℕ). 2 ^ 149 * a) (minus_val n digits_of_one z) ∙ mul_left_comm (2 ^ 149) (n * 2 ^ 150) (down k) in
    times_value (fin s m e) s n (2 ^ 149) k (pow_pos 149) (refl, (counted (fin s m e) h f).value.1)
    ∙ round_same binary32 s (n * up k) (2 ^ 149 * down k) (n * 2 ^ 150) (2 ^ 149 * 2 ^ z) (mul-pos (pow_pos 149) (down_pos k)) (mul-pos (pow_pos 149) (pow_pos z)) cross

-- "Each finite, nonzero view-space direction"
module _ (d : D3DVECTOR) (h : vectorFits d) (fx : T (finite d.x)) (fy : T (finite d.y)) (fz : T (finite d.z)) (some : 0 < largest d) where
  is_scaled : scalable d ≡ true
  unfolding scalable
  is_scaled = all-hold (finite d.x) (finite d.y) (finite d.z) (ltb 0 (largest d)) fx fy fz ∙ lt-ltb 0 (largest d) some

  pub rounded_once : scaled d ≡ record { x = once (size (largest d)) d.x; y = once (size (largest d)) d.y; z = once (size (largest d)) d.z }
  unfolding scaling
  rounded_once =
      let z = size (largest d) in
      scaled_if d is_scaled
      ∙ (λ i. record { x = product z d.x h.x fx i; y = product z d.y h.y fy i; z = product z d.z h.z fz i })
