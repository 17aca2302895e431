-- What the bits without the sign say of a float: whether it is finite, and how many binary digits its magnitude has in units of 2 ^ −149.
use Prim.Native.Nat.{ℕ, ◌+◌, ◌-◌, ◌*◌, ◌/◌, ◌^◌, ◌≤◌, ◌<◌, max}
use native.Mathlib.Nat.{zero-add, le_of_eq, lt_of_lt_of_le, lt_of_le_of_lt, le_trans, le-max_left, le-max_right, max-eq_left, max-eq_right, max-le, le-div_iff_mul-le, le_of_suc-le-suc, lt_of_not-le, not-le_of_lt}
use native.Mathlib.Omega.{arith}
use mathlib.Core.Path.{◌≡◌, refl, sym, ap, ap₂, ◌∙◌}
use mathlib.Core.Bool.{Bool, true, false, ◌&&◌, cond}
use lib.Dec.{T, ltb}
use lib.IntN.{ℤ}
use lib.Pow.{pow-add, pow_mono, pow_pos}
use lib.Ieee.{Float, nan, inf, fin, size, to_bits}
use lib.Ieee.Digits.{size-lt, size-le, size_reaches}
use lib.Ieee.Fits.{kept-lt}
use lib.Ieee.Scale.{finite}
use borrow.Author.Tests.{ltb-true, ltb-false, lt-ltb, le-ltb}
use Rattle.d3d9_types.specs.Numbers.{float_fits}
use Rattle.d3d9_types.specs.Vector.{vectorFits}
use Rattle.d3d9_types.specs.declared.vector.D3DVECTOR.{D3DVECTOR}
use Rattle.float32.specs.Root.{in_units}
use Rattle.float32.specs.Cosine.{magnitude}
use Rattle.float32.proofs.Laws.{magnitude-bits}
use Rattle.float32.proofs.Units.{counted}
use Rattle.directions.specs.Magnitude.{magnitude_bits, largest_bits}
use Rattle.directions.specs.Scale.{largest, scalable}

-- ---- a growing function of the larger is the larger of its values

module _ (f : ℕ → ℕ) (grows : (a b : ℕ) → a ≤ b → f a ≤ f b) where
  pub of_max : (a b : ℕ) → f (max a b) ≡ max (f a) (f b)
  of_max a b = go (ltb a b) refl
    where
      go : (t : Bool) → ltb a b ≡ t → f (max a b) ≡ max (f a) (f b)
      go true e =
          let h : a ≤ b = omega (arith, ltb-true a b e) in
          rw (max-eq_right h, max-eq_right (grows a b h))
      go false e =
          let h : b ≤ a = ltb-false a b e in
          rw (max-eq_left h, max-eq_left (grows b a h))

pub size_grows : (a b : ℕ) → a ≤ b → size a ≤ size b
size_grows a b h = size-le a (size b) (lt_of_le_of_lt h (size-lt b))

-- ---- digits of the magnitude, from the bits

unfoldable pub digits_of : ℕ → ℕ
digits_of b = cond (ltb b (2 ^ 23)) (size b) (b / 2 ^ 23 + 23)

pub digits_subnormal : (b : ℕ) → b < 2 ^ 23 → digits_of b ≡ size b
unfolding digits_of
digits_subnormal b h = rw (lt-ltb b (2 ^ 23) h)

pub digits_normal : (b : ℕ) → 2 ^ 23 ≤ b → digits_of b ≡ b / 2 ^ 23 + 23
unfolding digits_of
digits_normal b h = rw (le-ltb b (2 ^ 23) h)

digits_grow : (a b : ℕ) → a ≤ b → digits_of a ≤ digits_of b
digits_grow a b h = go (ltb a (2 ^ 23)) (ltb b (2 ^ 23)) refl refl
  where
    go : (s t : Bool) → ltb a (2 ^ 23) ≡ s → ltb b (2 ^ 23) ≡ t → digits_of a ≤ digits_of b
    go true true p q = rw (digits_subnormal a (ltb-true _ _ p), digits_subnormal b (ltb-true _ _ q)) (size_grows a b h)
    go true false p q =
        let few : size a ≤ 23 = size-le a 23 (ltb-true a (2 ^ 23) p) in
        rw (digits_subnormal a (ltb-true _ _ p), digits_normal b (ltb-false _ _ q)) (omega arith)
    go false true p q = absurd (omega (arith, ltb-false a (2 ^ 23) p, ltb-true b (2 ^ 23) q))
    go false false p q = rw (digits_normal a (ltb-false _ _ p), digits_normal b (ltb-false _ _ q)) (omega arith)

-- the bits of n units
abbrev coded : ℕ → ℕ
coded n = (size n - 24) * 2 ^ 23 + n / 2 ^ (size n - 24)

coded_digits : (n : ℕ) → digits_of (coded n) ≡ size n
coded_digits n = go (ltb (size n) 24) refl
  where
    go : (t : Bool) → ltb (size n) 24 ≡ t → digits_of (coded n) ≡ size n
    go true e =
        let l : size n < 24 = ltb-true (size n) 24 e in
        let none : size n - 24 ≡ 0 = omega arith in
        let same : coded n ≡ n = rw none (omega arith) in
        rw same (digits_subnormal n (lt_of_lt_of_le (size-lt n) (pow_mono {i = size n} {j = 23} (omega arith))))
    go false e =
        let l : 24 ≤ size n = ltb-false (size n) 24 e in
        let k : ℕ = size n - 24 in
        let q : ℕ = n / 2 ^ k in
        let top : 23 + k < size n = omega arith in
        let low : 2 ^ 23 ≤ q = (le-div_iff_mul-le (pow_pos k)).1 (le_trans (le_of_eq (sym (pow-add 2 23 k))) (size_reaches n (23 + k) top)) in
        let high : q < 2 ^ 24 = kept-lt 24 n in
        digits_normal (coded n) (omega arith) ∙ (let z : (k * 2 ^ 23 + q) / 2 ^ 23 + 23 ≡ size n = omega arith in z)

bits_coded : (s : Bool) (m : ℕ) (e : ℤ) → float_fits (fin s m e) → magnitude_bits (fin s m e) ≡ coded (in_units (fin s m e))
unfolding in_units magnitude to_bits
bits_coded s m e h =
    let n : ℕ = in_units (fin s m e) in
    magnitude-bits (fin s m e) h ∙ ap (λ (z : ℕ). z + n / 2 ^ (size n - 24)) (zero-add ((size n - 24) * 2 ^ 23))

pub digits_of_bits : (x : Float) → float_fits x → T (finite x) → size (in_units x) ≡ digits_of (magnitude_bits x)
digits_of_bits nan h f = absurd f
digits_of_bits (inf s) h f = absurd f
digits_of_bits (fin s m e) h f = sym (ap digits_of (bits_coded s m e h) ∙ coded_digits (in_units (fin s m e)))

-- ---- finite, from the bits

pub finite_below : (x : Float) → float_fits x → T (finite x) → magnitude_bits x < 0x7F80_0000
finite_below nan h f = absurd f
finite_below (inf s) h f = absurd f
finite_below (fin s m e) h f =
    let n : ℕ = in_units (fin s m e) in
    let few : size n ≤ 277 = size-le n 277 (counted (fin s m e) h f).small in
    let q : n / 2 ^ (size n - 24) < 2 ^ 24 = kept-lt 24 n in
    rw (bits_coded s m e h) (omega arith)

pub below_finite : (x : Float) → magnitude_bits x < 0x7F80_0000 → T (finite x)
unfolding to_bits
below_finite nan h = absurd (omega arith)
below_finite (inf true) h = absurd (omega arith)
below_finite (inf false) h = absurd (omega arith)
below_finite (fin s m e) h = tt

-- a float whose bits are below a normal one's
pub subnormal_few : (x : Float) → float_fits x → magnitude_bits x < 2 ^ 23 → in_units x < 2 ^ 23
subnormal_few x h l =
    let few : size (in_units x) ≤ 23 = le_trans (le_of_eq (digits_of_bits x h (below_finite x (omega arith)) ∙ digits_subnormal (magnitude_bits x) l)) (size-le (magnitude_bits x) 23 l) in
    lt_of_lt_of_le (size-lt (in_units x)) (pow_mono {i = size (in_units x)} {j = 23} few)

pub digits_above : (b : ℕ) → 0 < b → 0 < digits_of b
digits_above b p = go (ltb b (2 ^ 23)) refl
  where
    go : (t : Bool) → ltb b (2 ^ 23) ≡ t → 0 < digits_of b
    go true e = rw (digits_subnormal b (ltb-true _ _ e)) (lt_of_not-le (λ (g : size b ≤ 0). not-le_of_lt p (le_of_suc-le-suc (lt_of_lt_of_le (size-lt b) (pow_mono g)))))
    go false e = rw (digits_normal b (ltb-false _ _ e)) (omega arith)

-- ---- three components

pub all-hold : (a b c p : Bool) → T a → T b → T c → (a && (b && (c && p))) ≡ p
all-hold true true true p x y z = refl
all-hold false b c p x y z = absurd x
all-hold true false c p x y z = absurd y
all-hold true true false p x y z = absurd z

some_fails : (a b c p : Bool) → (T a → T b → T c → ⊥) → (a && (b && (c && p))) ≡ false
some_fails true true true p f = absurd (f tt tt tt)
some_fails false b c p f = refl
some_fails true false c p f = refl
some_fails true true false p f = refl

module _ (d : D3DVECTOR) (h : vectorFits d) where
  pub at_most : (n : ℕ) → largest_bits d < n → (magnitude_bits d.x < n) × (magnitude_bits d.y < n) × (magnitude_bits d.z < n)
  at_most n l =
      let x = magnitude_bits d.x in
      let y = magnitude_bits d.y in
      let z = magnitude_bits d.z in
      let yz : max y z < n = lt_of_le_of_lt (le-max_right x (max y z)) l in
      (lt_of_le_of_lt (le-max_left x (max y z)) l, lt_of_le_of_lt (le-max_left y z) yz, lt_of_le_of_lt (le-max_right y z) yz)

  -- the digits of the largest component
  pub largest_digits : T (finite d.x) → T (finite d.y) → T (finite d.z) → size (largest d) ≡ digits_of (largest_bits d)
  unfolding largest
  largest_digits fx fy fz =
      of_max size size_grows (in_units d.x) (max (in_units d.y) (in_units d.z))
      ∙ ap (λ (n : ℕ). max (size (in_units d.x)) n) (of_max size size_grows (in_units d.y) (in_units d.z))
      ∙ ap₂ max (digits_of_bits d.x h.x fx) (ap₂ max (digits_of_bits d.y h.y fy) (digits_of_bits d.z h.z fz))
      ∙ ap (λ (n : ℕ). max (digits_of (magnitude_bits d.x)) n) (sym (of_max digits_of digits_grow (magnitude_bits d.y) (magnitude_bits d.z)))
      ∙ sym (of_max digits_of digits_grow (magnitude_bits d.x) (max (magnitude_bits d.y) (magnitude_bits d.z)))

  module _ (below : largest_bits d < 0x7F80_0000) where
    fx : T (finite d.x)
    fx = below_finite d.x (at_most 0x7F80_0000 below).0

    fy : T (finite d.y)
    fy = below_finite d.y (at_most 0x7F80_0000 below).1

    fz : T (finite d.z)
    fz = below_finite d.z (at_most 0x7F80_0000 below).2

    pub digits_are : size (largest d) ≡ digits_of (largest_bits d)
    digits_are = largest_digits fx fy fz

    test : scalable d ≡ ltb 0 (largest d)
    unfolding scalable
    test = all-hold (finite d.x) (finite d.y) (finite d.z) (ltb 0 (largest d)) fx fy fz

    pub is_scalable : 0 < largest_bits d → scalable d ≡ true
    is_scalable p = test ∙ lt-ltb 0 (largest d) (size_reaches (largest d) 0 (rw digits_are (digits_above (largest_bits d) p)))

    pub zero-not : largest_bits d ≡ 0 → scalable d ≡ false
    unfolding digits_of size
    zero-not e =
        let none : size (largest d) ≤ 0 = le_of_eq (digits_are ∙ ap digits_of e) in
        test ∙ le-ltb 0 (largest d) (le_of_suc-le-suc (lt_of_lt_of_le (size-lt (largest d)) (pow_mono none)))

  pub infinite_not : 0x7F80_0000 ≤ largest_bits d → scalable d ≡ false
  unfolding scalable
  infinite_not l =
      some_fails (finite d.x) (finite d.y) (finite d.z) (ltb 0 (largest d))
      (λ (fx : T (finite d.x)) (fy : T (finite d.y)) (fz : T (finite d.z)).
      let bx = finite_below d.x h.x fx in
      let by = finite_below d.y h.y fy in
      let bz = finite_below d.z h.z fz in
      let all : largest_bits d ≤ 0x7F7F_FFFF = max-le (le_of_suc-le-suc bx) (max-le (le_of_suc-le-suc by) (le_of_suc-le-suc bz)) in
      omega arith)
