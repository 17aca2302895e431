-- When a direction is scaled, and by which power, from its largest bits b.
use Prim.Native.Nat.{ℕ, ◌+◌, ◌-◌, ◌/◌, ◌^◌, ◌≤◌, ◌<◌}
use native.Mathlib.Nat.{lt_of_lt_of_le}
use native.Mathlib.Omega.{arith}
use mathlib.Core.Path.{◌≡◌, sym, ap, subst, ◌∙◌}
use mathlib.Core.Bool.{Bool, true, false, ◌&&◌, cond}
use lib.Count.{count_leading_zeros, leading_top}
use lib.Dec.{T, ltb, ltb→lt, lit≤}
use lib.IntN.{ℤ, pos}
use lib.Ieee.{Float, fin, minus, size}
use lib.Ieee.Digits.{size-le}
use lib.Ieee.Fits.{and_l, and_r}
use lib.Ieee.Scale.{finite}
use Rattle.d3d9_types.specs.Numbers.{float_fits}
use Rattle.d3d9_types.specs.Vector.{vectorFits}
use Rattle.d3d9_types.specs.declared.vector.D3DVECTOR.{D3DVECTOR}
use Rattle.float32.proofs.Laws.{size_is}
use Rattle.matrix.specs.Sum.{times}
use Rattle.directions.specs.Magnitude.{magnitude_bits, largest_bits, power_of_two}
use Rattle.directions.specs.Scale.{largest, scalable, digits_of_one, scaling, scaled_by, scaled}
use Rattle.directions.proofs.Magnitude.{digits_of, digits_subnormal, digits_normal, below_finite, subnormal_few, at_most, digits_are, is_scalable, zero-not, infinite_not}
use Rattle.directions.proofs.Power.{minus_same, minus_pos, times_twice}

pub scaled_if : (d : D3DVECTOR) → scalable d ≡ true → scaled d ≡ scaled_by (scaling d) d
unfolding scaled
scaled_if d e = ap (λ (t : Bool). cond t (scaled_by (scaling d) d) d) e

pub scaled-not : (d : D3DVECTOR) → scalable d ≡ false → scaled d ≡ d
unfolding scaled
scaled-not d e = ap (λ (t : Bool). cond t (scaled_by (scaling d) d) d) e

-- what the test says
pub scalable_says : (d : D3DVECTOR) → scalable d ≡ true → T (finite d.x) × T (finite d.y) × T (finite d.z) × (0 < largest d)
unfolding scalable
scalable_says d e =
    let x = finite d.x in
    let y = finite d.y in
    let z = finite d.z in
    let some = ltb 0 (largest d) in
    let all : T (scalable d) = subst T (sym e) tt in
    let yz = and_r x (y && (z && some)) all in
    let last = and_r y (z && some) yz in
    (and_l x (y && (z && some)) all, and_l y (z && some) yz, and_l z some last, ltb→lt 0 (largest d) (and_r z some last))

abbrev power : ℤ → Float
power e = fin false 1 e

scaling_is : (d : D3DVECTOR) (n : ℕ) → size (largest d) ≡ n → scaling d ≡ power (minus digits_of_one n)
unfolding scaling
scaling_is d n e = ap (λ (k : ℕ). power (minus digits_of_one k)) e

-- the digits of a subnormal's bits, as the code counts them
pub leading : (b : ℕ) → 0 < b → b < 2 ^ 23 → (count_leading_zeros 32 b + size b ≡ 32) × (size b ≤ 23)
leading b p l =
    let t = leading_top 32 b p (lt_of_lt_of_le l (lit≤ tt)) in
    (rw (size_is b t.0 t.2 t.3) t.1, size-le b 23 l)

module _ (d : D3DVECTOR) (h : vectorFits d) (b : ℕ) (is : b ≡ largest_bits d) where
  pub stays_zero : b ≡ 0 → d ≡ scaled d
  stays_zero e = sym (scaled-not d (zero-not d h (omega arith) (sym is ∙ e)))

  pub stays_infinite : 0x7F80_0000 ≤ b → d ≡ scaled d
  stays_infinite l = sym (scaled-not d (infinite_not d h (omega arith)))

  module _ (above : 0 < b) (below : b < 0x7F80_0000) where
    by_power : (n : ℕ) → digits_of b ≡ n → scaled d ≡ scaled_by (power (minus digits_of_one n)) d
    by_power n e =
        let l : largest_bits d < 0x7F80_0000 = omega arith in
        scaled_if d (is_scalable d h l (omega arith))
        ∙ ap (λ (p : Float). scaled_by p d) (scaling_is d n (digits_are d h l ∙ ap digits_of (sym is) ∙ e))

    pub normal : 2 ^ 23 ≤ b → (n : ℕ) (p : Float) → p ≡ power_of_two n → n + (b / 2 ^ 23 + 23) ≡ digits_of_one + 127 → scaled_by p d ≡ scaled d
    unfolding power_of_two
    normal l n p e sum =
        ap (λ (q : Float). scaled_by q d) (e ∙ ap power (minus_same n 127 digits_of_one (b / 2 ^ 23 + 23) sum))
        ∙ sym (by_power (b / 2 ^ 23 + 23) (digits_normal b l))

    pub subnormal : b < 2 ^ 23 → (n : ℕ) (p q : Float) → p ≡ power_of_two 254 → q ≡ power_of_two n → 127 ≤ n → n + size b ≡ digits_of_one
        → scaled_by q (scaled_by p d) ≡ scaled d
    unfolding power_of_two
    subnormal l n p q e f room sum =
        let i : ℕ = n - 127 in
        let q-is : q ≡ power (pos i) = f ∙ ap power (minus_pos n 127 room) in
        let total : 127 + i ≡ digits_of_one - size b = omega arith in
        let whole : power (pos (127 + i)) ≡ power (minus digits_of_one (size b)) = ap (λ (k : ℕ). power (pos k)) total ∙ ap power (sym (minus_pos digits_of_one (size b) (omega arith))) in
        let each = at_most d h (2 ^ 23) (omega arith) in
        let one : (x : Float) → float_fits x → magnitude_bits x < 2 ^ 23 → times (times x p) q ≡ times x (power (minus digits_of_one (size b))) =
        λ (x : Float) (v : float_fits x) (g : magnitude_bits x < 2 ^ 23).
        rw (e, q-is) (times_twice x i v (below_finite x (omega arith)) (subnormal_few x v g)) ∙ ap (times x) whole in
        (λ k. record { x = one d.x h.x each.0 k; y = one d.y h.y each.1 k; z = one d.z h.z each.2 k })
        ∙ sym (by_power (size b) (digits_subnormal b l))
