-- A scaled direction's largest component is at least 1 and below 2 in magnitude: 2 ^ 149 units of 2 ^ −149 or more, and below 2 ^ 150.
use Prim.Native.Nat.{ℕ, ◌+◌, ◌-◌, ◌*◌, ◌/◌, ◌%◌, ◌^◌, ◌≤◌, ◌<◌, max, compare}
use native.Mathlib.Nat.{lt_of_not-le, not-le_of_lt, le_trans, le_of_eq, le_of_lt, lt_of_lt_of_le, lt_of_le_of_lt, le_of_suc-le-suc, eq-or-lt_of_le, le-max_left, le-max_right, max-le, max-eq_left, max-eq_right, mul_assoc, mul_right_comm, mul-pos, mul-le-mul_right, mul-lt-mul_of_pos_right, le_of_mul-le-mul_right, lt_of_mul-lt-mul_right, div-lt_iff_lt-mul, div-div-eq-div-mul, mul_comm}
use native.Mathlib.Omega.{arith}
use mathlib.Core.Path.{◌≡◌, refl, sym, ap, subst, ◌∙◌}
use mathlib.Core.Bool.{Bool, true, false}
use mathlib.Core.Logic.{◌⊎◌, inl, inr, ⊎_elim}
use lib.Dec.{T, leb, lit<, lit≤}
use borrow.Author.Tests.{leb-true, leb-false}
use lib.IntN.{ℤ}
use lib.Pow.{pow-add, pow_mono, pow_pos, shl_lt}
use lib.Ieee.{Float, nan, inf, fin, binary32, size, round, units}
use lib.Ieee.Digits.{size-lt, size-le, size_reaches}
use lib.Ieee.Exact.{HasValue, round_exact, units_val}
use lib.Ieee.Fits.{kept-lt, nearest-le, round_is}
use lib.Ieee.Nearest.{closest}
use lib.Ieee.Scale.{finite}
use Rattle.d3d9_types.specs.Numbers.{float_fits}
use Rattle.d3d9_types.specs.Vector.{vectorFits}
use Rattle.d3d9_types.specs.declared.vector.D3DVECTOR.{D3DVECTOR}
use Rattle.float32.specs.Root.{in_units}
use Rattle.float32.proofs.Grid.{Short}
use Rattle.float32.proofs.Units.{counted, units_of}
use Rattle.directions.specs.Scale.{largest, scaled}
use Rattle.directions.proofs.Magnitude.{of_max, size_grows}
use Rattle.directions.proofs.Once.{once, rounded_once}

-- ---- a float of n units times 2 ^ (150 − z), rounded once

module _ (s : Bool) (m : ℕ) (e : ℤ) (h : float_fits (fin s m e)) (z : ℕ) where
  abbrev n : ℕ
  n = in_units (fin s m e)

  abbrev num : ℕ
  num = n * 2 ^ 150

  abbrev den : ℕ
  den = 2 ^ 149 * 2 ^ z

  den_pos : 0 < den
  den_pos = mul-pos (pow_pos 149) (pow_pos z)

  -- a component as long as the largest is scaled exactly, to w units
  module _ (same : size n ≡ z) (Z : 0 < z) where
    abbrev sh : Short n
    sh = (counted (fin s m e) h tt).short

    whole : n ≡ sh.m * 2 ^ sh.j
    whole = sh.is

    near : z ≤ sh.j + 150
    near = le_trans (le_of_eq (sym same)) (le_trans (size-le n (24 + sh.j) (rw whole (shl_lt 24 sh.j sh.few))) (omega arith))

    abbrev w : ℕ
    w = sh.m * 2 ^ (sh.j + 150 - z)

    back : w * 2 ^ z ≡ n * 2 ^ 150
    back =
        let sum : sh.j + 150 - z + z ≡ sh.j + 150 = omega (arith, near) in
        mul_assoc sh.m (2 ^ (sh.j + 150 - z)) (2 ^ z)
        ∙ ap (λ (a : ℕ). sh.m * a) (sym (pow-add 2 (sh.j + 150 - z) z) ∙ ap (λ (i : ℕ). 2 ^ i) sum ∙ pow-add 2 sh.j 150)
        ∙ sym (mul_assoc sh.m (2 ^ sh.j) (2 ^ 150))
        ∙ ap (λ (a : ℕ). a * 2 ^ 150) (sym whole)

    is : num * 2 ^ 149 ≡ w * den
    is = ap (λ (a : ℕ). a * 2 ^ 149) (sym back) ∙ mul_right_comm w (2 ^ z) (2 ^ 149) ∙ mul_assoc w (2 ^ 149) (2 ^ z)

    low : 2 ^ 149 ≤ w
    low =
        let sum : z - 1 + 150 ≡ 149 + z = omega arith in
        le_of_mul-le-mul_right
        (le_trans (le_of_eq (sym (pow-add 2 149 z) ∙ ap (λ (i : ℕ). 2 ^ i) (sym sum) ∙ pow-add 2 (z - 1) 150))
        (le_trans (mul-le-mul_right (2 ^ 150) (size_reaches n (z - 1) (rw same (omega arith)))) (le_of_eq (sym back))))
        (pow_pos z)

    high : w < 2 ^ 150
    high =
        lt_of_mul-lt-mul_right (2 ^ z)
        (lt_of_le_of_lt (le_of_eq back)
        (lt_of_lt_of_le (mul-lt-mul_of_pos_right (subst (λ (i : ℕ). n < 2 ^ i) same (size-lt n)) (pow_pos 150)) (le_of_eq (mul_comm (2 ^ z) (2 ^ 150)))))

    exact : HasValue (round binary32 s num den) s num den
    exact = round_exact binary32 s num den sh.m (sh.j + 150 - z) den_pos sh.few (lt_of_lt_of_le high (pow_mono {i = 150} {j = 277} (lit≤ tt))) is

    pub long : (2 ^ 149 ≤ in_units (once z (fin s m e))) × (in_units (once z (fin s m e)) < 2 ^ 150)
    long = rw (units_of (round binary32 s num den) s num den w den_pos exact is) (low, high)

  -- a shorter one comes to 1 at most: what is kept has 24 digits, or is the next power of two
  module _ (less : size n < z) where
    abbrev k : ℕ
    k = size (num * 2 ^ 149 / den) - 24

    abbrev q : ℕ
    q = closest (num * 2 ^ 149) (den * 2 ^ k)

    under : num * 2 ^ 149 / den < 2 ^ 149
    under =
        (div-lt_iff_lt-mul den_pos).1
        (subst (λ (a : ℕ). num * 2 ^ 149 < a) (mul_comm (2 ^ 149 * 2 ^ z) (2 ^ 149)) (mul-lt-mul_of_pos_right small (pow_pos 149)))
      where
        small : num < 2 ^ 149 * 2 ^ z
        small =
            let sum : z - 1 + 150 ≡ 149 + z = omega arith in
            lt_of_lt_of_le (mul-lt-mul_of_pos_right (lt_of_lt_of_le (size-lt n) (pow_mono {i = size n} {j = z - 1} (omega arith))) (pow_pos 150))
            (le_of_eq (sym (pow-add 2 (z - 1) 150) ∙ ap (λ (i : ℕ). 2 ^ i) sum ∙ pow-add 2 149 z))

    few : k ≤ 125
    few = omega (arith, size-le (num * 2 ^ 149 / den) 149 under)

    kept : q ≤ 2 ^ 24
    kept =
        le_trans (nearest-le (num * 2 ^ 149 / (den * 2 ^ k)) (compare (num * 2 ^ 149 % (den * 2 ^ k) * 2) (den * 2 ^ k)))
        (subst (λ (a : ℕ). a < 2 ^ 24) (div-div-eq-div-mul (num * 2 ^ 149) den (2 ^ k)) (kept-lt 24 (num * 2 ^ 149 / den)))

    bound : q * 2 ^ k ≤ 2 ^ 149
    bound = le_trans (mul-le-mul_right (2 ^ k) kept) (le_trans (le_of_eq (sym (pow-add 2 24 k))) (pow_mono {i = 24 + k} {j = 149} (omega (arith, few))))

    value : HasValue (units binary32 s q k) s (q * 2 ^ k) (2 ^ 149)
    value = units_val binary32 s q k (lt_of_le_of_lt bound (lit< tt))

    pub short : in_units (once z (fin s m e)) ≤ 2 ^ 149
    short = rw (round_is binary32 s num den, units_of (units binary32 s q k) s (q * 2 ^ k) (2 ^ 149) (q * 2 ^ k) (pow_pos 149) value refl) bound

-- ---- three components

within : (x : Float) (z : ℕ) → float_fits x → T (finite x) → 0 < z → size (in_units x) ≤ z → in_units (once z x) < 2 ^ 150
within nan z h f Z l = absurd f
within (inf s) z h f Z l = absurd f
within (fin s m e) z h f Z l = ⊎_elim (λ (p : size (in_units (fin s m e)) ≡ z). (long s m e h z p Z).1) (λ (p : size (in_units (fin s m e)) < z). lt_of_le_of_lt (short s m e h z p) (lit< tt)) (eq-or-lt_of_le l)

reaches : (x : Float) (z : ℕ) → float_fits x → T (finite x) → 0 < z → size (in_units x) ≡ z → 2 ^ 149 ≤ in_units (once z x)
reaches nan z h f Z e = absurd f
reaches (inf s) z h f Z e = absurd f
reaches (fin s m k) z h f Z e = (long s m k h z e Z).0

one_of : (a b : ℕ) → (a ≡ max a b) ⊎ (b ≡ max a b)
one_of a b = go (leb a b) refl
  where
    go : (t : Bool) → leb a b ≡ t → (a ≡ max a b) ⊎ (b ≡ max a b)
    go true e = inr (sym (max-eq_right (leb-true a b e)))
    go false e = inl (sym (max-eq_left (le_of_lt (leb-false a b e))))

-- "Each finite, nonzero view-space direction"
module _ (d : D3DVECTOR) (h : vectorFits d) (fx : T (finite d.x)) (fy : T (finite d.y)) (fz : T (finite d.z)) (some : 0 < largest d) where
  abbrev z : ℕ
  z = size (largest d)

  Z : 0 < z
  Z = lt_of_not-le (λ (g : z ≤ 0). not-le_of_lt some (le_of_suc-le-suc (lt_of_lt_of_le (size-lt (largest d)) (pow_mono g))))

  digits : z ≡ max (size (in_units d.x)) (max (size (in_units d.y)) (size (in_units d.z)))
  unfolding largest
  digits =
      of_max size size_grows (in_units d.x) (max (in_units d.y) (in_units d.z))
      ∙ ap (λ (n : ℕ). max (size (in_units d.x)) n) (of_max size size_grows (in_units d.y) (in_units d.z))

  scaled_is : largest (scaled d) ≡ max (in_units (once z d.x)) (max (in_units (once z d.y)) (in_units (once z d.z)))
  unfolding largest
  scaled_is = ap largest (rounded_once d h fx fy fz some)

  below : max (in_units (once z d.x)) (max (in_units (once z d.y)) (in_units (once z d.z))) < 2 ^ 150
  below =
      let y≤ : max (size (in_units d.y)) (size (in_units d.z)) ≤ z = le_trans (le-max_right _ _) (le_of_eq (sym digits)) in
      let bx = within d.x z h.x fx Z (le_trans (le-max_left _ _) (le_of_eq (sym digits))) in
      let by = within d.y z h.y fy Z (le_trans (le-max_left _ _) y≤) in
      let bz = within d.z z h.z fz Z (le_trans (le-max_right _ _) y≤) in
      lt_of_le_of_lt (max-le (le_of_suc-le-suc bx) (max-le (le_of_suc-le-suc by) (le_of_suc-le-suc bz))) (lit< {m = 2 ^ 150 - 1} tt)

  above : 2 ^ 149 ≤ max (in_units (once z d.x)) (max (in_units (once z d.y)) (in_units (once z d.z)))
  above =
      let a = size (in_units d.x) in
      let b = size (in_units d.y) in
      let c = size (in_units d.z) in
      ⊎_elim
      (λ (q : a ≡ max a (max b c)). le_trans (reaches d.x z h.x fx Z (q ∙ sym digits)) (le-max_left _ _))
      (λ (q : max b c ≡ max a (max b c)).
      le_trans
      (⊎_elim
      (λ (r : b ≡ max b c). le_trans (reaches d.y z h.y fy Z (r ∙ q ∙ sym digits)) (le-max_left _ _))
      (λ (r : c ≡ max b c). le_trans (reaches d.z z h.z fz Z (r ∙ q ∙ sym digits)) (le-max_right _ _))
      (one_of b c))
      (le-max_right _ _))
      (one_of a (max b c))

  pub largest_in_range : (2 ^ 149 ≤ largest (scaled d)) × (largest (scaled d) < 2 ^ 150)
  largest_in_range = rw scaled_is (above, below)
