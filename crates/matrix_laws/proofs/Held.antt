-- A float that stands for an exact number, in units of 2 ^ −298, with a bound on how far it is off, in parts of 2 ^ 24, and on its size. A sum of two is off by what they are, and by a part of its own
-- terms for its rounding. Assumes nothing.
use Prim.Native.Nat.{ℕ, ◌+◌, ◌*◌, ◌^◌, ◌≤◌, ◌<◌}
use native.Mathlib.Nat.{le_refl, le_trans, le_of_eq, lt_of_le_of_lt, lt_of_mul-lt-mul_right, mul_assoc, mul-le-mul_right, add-mul}
use native.Mathlib.Omega.{arith}
use mathlib.Core.Path.{◌≡◌, sym, ap, subst, ◌∙◌}
use mathlib.Core.Bool.{Bool, true, false}
use lib.Pow.{pow_pos}
use lib.Ieee.{Float, binary32}
use lib.Ieee.Exact.{HasValue}
use lib.Ieee.Scale.{grid, overflow}
use Rattle.float32.proofs.Grid.{unit, Short, short}
use Rattle.float32.proofs.Arithmetic.{rounded_value}
use Rattle.matrix.specs.Sum.{plus}
use Rattle.matrix_laws.proofs.Rounding.{Near, count_near}
use Rattle.matrix_laws.proofs.Signed.{gain, loss, Sums, add_is}

-- ---- numbers alone

-- p − n is off from P − N by at most e / 2 ^ 24
abbrev pub Off : ℕ → ℕ → ℕ → ℕ → ℕ → Type 0
Off p n P N e = (2 ^ 24 * (p + N) ≤ 2 ^ 24 * (n + P) + e) × (2 ^ 24 * (n + P) ≤ 2 ^ 24 * (p + N) + e)

scale_le : (a b c d e l : ℕ) → 2 ^ 24 * (a + b) ≤ 2 ^ 24 * (c + d) + e → 2 ^ 24 * (a * l + b * l) ≤ 2 ^ 24 * (c * l + d * l) + e * l
scale_le a b c d e l h =
    le_trans (le_of_eq (ap (λ (x : ℕ). 2 ^ 24 * x) (sym (add-mul a b l)) ∙ sym (mul_assoc (2 ^ 24) (a + b) l)))
    (le_trans (mul-le-mul_right l h)
    (le_of_eq (add-mul (2 ^ 24 * (c + d)) e l ∙ ap (λ (x : ℕ). x + e * l) (mul_assoc (2 ^ 24) (c + d) l ∙ ap (λ (x : ℕ). 2 ^ 24 * x) (add-mul c d l)))))

off_scale : (p n P N e l : ℕ) → Off p n P N e → Off (p * l) (n * l) (P * l) (N * l) (e * l)
off_scale p n P N e l h = (scale_le p N n P e l h.0, scale_le n P p N e l h.1)

-- off from a sum by e, and the summands by some more each
off_join : (p n q m P N a q' m' P' N' b e : ℕ) → Off p n (q + q') (m + m') e → Off q m P N a → Off q' m' P' N' b → Off p n (P + P') (N + N') (e + (a + b))
off_join p n q m P N a q' m' P' N' b e h i j = (omega arith, omega arith)

off_more : (p n P N e f : ℕ) → e ≤ f → Off p n P N e → Off p n P N f
off_more p n P N e f h o = (omega arith, omega arith)

-- a rounded count in place of a count
pub rounded_off : (r : Bool) (z g w p n : ℕ) → Near z g → z ≤ w → gain r z + n ≡ loss r z + p → Off (gain r g) (loss r g) p n w
rounded_off true z g w p n h k e = (omega arith, omega arith)
rounded_off false z g w p n h k e = (omega arith, omega arith)

-- a part in 2 ^ 24 is less than one in 8, which is enough for sizes
pub grown : (z g w : ℕ) → Near z g → z ≤ w → 8 * g ≤ 9 * w
grown z g w h k = omega arith

within : (g w o : ℕ) → 8 * g ≤ 9 * w → 9 * w < 8 * o → g < o
within g w o h k = omega arith

-- ---- a sum of two counts

record Added (x : Float) (s : Bool) (A : ℕ) (t : Bool) (B : ℕ) : Type 0 where
  sign : Bool
  count : ℕ
  value : HasValue x sign count unit
  short : Short count
  off : Off (gain sign count) (loss sign count) (gain s A + gain t B) (loss s A + loss t B) (A + B)
  size : 8 * count ≤ 9 * (A + B)

added : (x y : Float) (s t : Bool) (A B : ℕ) → HasValue x s A unit → HasValue y t B unit → 9 * (A + B) < 8 * overflow binary32 → Added (plus x y) s A t B
added x y s t A B h k u =
    let S : Sums (plus x y) unit s A t B = add_is x y s t A B unit (pow_pos 149) h k in
    let z : ℕ = S.count in
    let g : ℕ = grid binary32 z unit in
    let b : 8 * g ≤ 9 * (A + B) = grown z g (A + B) (count_near z) S.small in
    record {
      sign = S.sign;
      count = g;
      value = subst (λ (w : Float). HasValue w S.sign g unit) (sym S.is) (rounded_value S.sign z unit (within g (A + B) (overflow binary32) b u));
      short = short z unit (pow_pos 149);
      off = rounded_off S.sign z g (A + B) (gain s A + gain t B) (loss s A + loss t B) (count_near z) S.small S.balance;
      size = b;
    }

-- ---- what a float stands for: P − N, off by at most e / 2 ^ 24, and it is at most m in size; a unit is l

pub record Held (l : ℕ) (x : Float) (P N e m : ℕ) : Type 0 where
  pub sign : Bool
  pub count : ℕ
  pub value : HasValue x sign count unit
  pub short : Short count
  pub off : Off (gain sign count * l) (loss sign count * l) P N e
  pub size : count * l ≤ m

module _ (l A B m m' : ℕ) (h : A * l ≤ m) (k : B * l ≤ m') where
  sum_size : (A + B) * l ≤ m + m'
  sum_size = le_trans (le_of_eq (add-mul A B l)) (let z : A * l + B * l ≤ m + m' = omega arith in z)

  sum_under : (o : ℕ) → 9 * (m + m') < 8 * (o * l) → 9 * (A + B) < 8 * o
  sum_under o u =
      let z = sum_size in
      let w : 9 * ((A + B) * l) < 8 * (o * l) = omega arith in
      lt_of_mul-lt-mul_right l (lt_of_le_of_lt (le_of_eq (mul_assoc 9 (A + B) l)) (subst (λ (x : ℕ). 9 * ((A + B) * l) < x) (sym (mul_assoc 8 o l)) w))

  grown_size : (g : ℕ) → 8 * g ≤ 9 * (A + B) → 8 * (g * l) ≤ 9 * (m + m')
  grown_size g b =
      let z = sum_size in
      let w : 8 * (g * l) ≤ 9 * ((A + B) * l) = le_trans (le_of_eq (sym (mul_assoc 8 g l))) (le_trans (mul-le-mul_right l b) (le_of_eq (mul_assoc 9 (A + B) l))) in
      omega arith

-- o is what overflows
pub plus-held : {l : ℕ} {x y : Float} {P N e m P' N' e' m' o : ℕ} → Held l x P N e m → Held l y P' N' e' m' → o ≡ overflow binary32 * l → 9 * (m + m') < 8 * o
    → (w : ℕ) × (8 * w ≤ 9 * (m + m')) × Held l (plus x y) (P + P') (N + N') (m + m' + (e + e')) w
plus-held {l} {x} {y} {P} {N} {e} {m} {P'} {N'} {e'} {m'} {o} h k is u =
    let s : Bool = h.sign in
    let t : Bool = k.sign in
    let A : ℕ = h.count in
    let B : ℕ = k.count in
    let under = sum_under l A B m m' h.size k.size (overflow binary32) (subst (λ (z : ℕ). 9 * (m + m') < 8 * z) is u) in
    let S : Added (plus x y) s A t B = added x y s t A B h.value k.value under in
    let p : ℕ = gain S.sign S.count in
    let n : ℕ = loss S.sign S.count in
    let d : Off (p * l) (n * l) ((gain s A + gain t B) * l) ((loss s A + loss t B) * l) (m + m') =
    off_more (p * l) (n * l) ((gain s A + gain t B) * l) ((loss s A + loss t B) * l) ((A + B) * l) (m + m') (sum_size l A B m m' h.size k.size)
    (off_scale p n (gain s A + gain t B) (loss s A + loss t B) (A + B) l S.off) in (
      S.count * l,
      grown_size l A B m m' h.size k.size S.count S.size,
      record {
        sign = S.sign;
        count = S.count;
        value = S.value;
        short = S.short;
        off =
            off_join (p * l) (n * l) (gain s A * l) (loss s A * l) P N e (gain t B * l) (loss t B * l) P' N' e' (m + m')
            (subst (λ (z : ℕ). Off (p * l) (n * l) (gain s A * l + gain t B * l) z (m + m')) (add-mul (loss s A) (loss t B) l)
            (subst (λ (z : ℕ). Off (p * l) (n * l) z ((loss s A + loss t B) * l) (m + m')) (add-mul (gain s A) (gain t B) l) d))
            h.off k.off;
        size = le_refl (S.count * l);
      },
    )

pub weaken : {l : ℕ} {x : Float} {P N e f m : ℕ} → e ≤ f → Held l x P N e m → Held l x P N f m
weaken {l} {x} {P} {N} {e} {f} {m} h z =
    record {
      sign = z.sign;
      count = z.count;
      value = z.value;
      short = z.short;
      off = off_more (gain z.sign z.count * l) (loss z.sign z.count * l) P N e f h z.off;
      size = z.size;
    }
