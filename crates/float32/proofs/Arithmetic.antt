-- A product or a sum of floats by their values: one rounding of the exact one, and nothing is rounded where −0 is added to. `HasValue x s a l` says that x is a / l, negative where s is true.
-- Assumes nothing.
use Prim.Native.Nat.{ℕ, ◌+◌, ◌-◌, ◌*◌, ◌^◌, ◌<◌}
use native.Mathlib.Nat.{le_of_eq, lt_of_le_of_lt, zero-mul, zero-add, mul_assoc, mul_comm, mul_right_comm, mul-mul-mul_comm, mul-pos, add-mul, le-mul_of_pos_right}
use native.Mathlib.Omega.{arith}
use mathlib.Core.Path.{◌≡◌, refl, sym, ap, ap₂, subst, ◌∙◌}
use mathlib.Core.Bool.{Bool, true, false, ◌&&◌, cond}
use lib.Dec.{ltb}
use lib.IntN.{pos}
use lib.Pow.{pow_pos}
use lib.Ieee.{Float, nan, inf, fin, binary32, up, down, unlike, round, sum, add, mul}
use lib.Ieee.Fits.{down_pos, round_is}
use lib.Ieee.Exact.{HasValue, units_val}
use lib.Ieee.Order.{drop, kept}
use lib.Ieee.Scale.{grid, overflow, round_same}
use borrow.Author.Tests.{ltb-false, le-ltb}
use Rattle.float32.proofs.Grid.{unit, Short, exact}

-- ---- products

pub unlike_false : (s : Bool) → unlike s false ≡ s
unlike_false true = refl
unlike_false false = refl

pub unlike_itself : (s : Bool) → unlike s s ≡ false
unlike_itself true = refl
unlike_itself false = refl

pub mul_is : (x y : Float) (s t : Bool) (a b k l : ℕ) → 0 < k → 0 < l → HasValue x s a k → HasValue y t b l → mul binary32 x y ≡ round binary32 (unlike s t) (a * b) (k * l)
unfolding mul
mul_is nan y s t a b k l K L h g = absurd h
mul_is (inf u) y s t a b k l K L h g = absurd h
mul_is (fin u m e) nan s t a b k l K L h g = absurd g
mul_is (fin u m e) (inf v) s t a b k l K L h g = absurd g
mul_is (fin u m e) (fin v n d) s t a b k l K L h g =
    ap₂ (λ (p q : Bool). round binary32 (unlike p q) (m * up e * (n * up d)) (down e * down d)) h.0 g.0
    ∙ round_same binary32 (unlike s t) (m * up e * (n * up d)) (down e * down d) (a * b) (k * l) (mul-pos (down_pos e) (down_pos d)) (mul-pos K L)
    (mul-mul-mul_comm (m * up e) (n * up d) k l ∙ ap₂ (λ (p q : ℕ). p * q) h.1 g.1 ∙ mul-mul-mul_comm a (down e) b (down d))

-- ---- sums: the terms over one denominator

pub record Common (x y : Float) (s t : Bool) (a b l : ℕ) : Type 0 where
  pub first : ℕ
  pub second : ℕ
  pub below : ℕ
  pub below_pos : 0 < below
  pub first-is : first * l ≡ a * below
  pub second_is : second * l ≡ b * below
  pub is : add binary32 x y ≡ sum binary32 s first t second below

pub common : (x y : Float) (s t : Bool) (a b l : ℕ) → HasValue x s a l → HasValue y t b l → Common x y s t a b l
unfolding add
common nan y s t a b l h g = absurd h
common (inf u) y s t a b l h g = absurd h
common (fin u m e) nan s t a b l h g = absurd g
common (fin u m e) (inf v) s t a b l h g = absurd g
common (fin u m e) (fin v n d) s t a b l h g =
    record {
      first = m * up e * down d;
      second = n * up d * down e;
      below = down e * down d;
      below_pos = mul-pos (down_pos e) (down_pos d);
      first-is = mul_right_comm (m * up e) (down d) l ∙ ap (λ (p : ℕ). p * down d) h.1 ∙ mul_assoc a (down e) (down d);
      second_is = mul_right_comm (n * up d) (down e) l ∙ ap (λ (p : ℕ). p * down e) g.1 ∙ mul_assoc b (down d) (down e) ∙ ap (λ (p : ℕ). b * p) (mul_comm (down d) (down e));
      is = ap₂ (λ (p q : Bool). sum binary32 p (m * up e * down d) q (n * up d * down e) (down e * down d)) h.0 g.0;
    }

sum_alike : (s : Bool) (a b c : ℕ) → sum binary32 s a s b c ≡ round binary32 s (a + b) c
unfolding sum
sum_alike true a b c = refl
sum_alike false a b c = refl

-- of one sign
pub add-alike : (x y : Float) (s : Bool) (a b l : ℕ) → 0 < l → HasValue x s a l → HasValue y s b l → add binary32 x y ≡ round binary32 s (a + b) l
add-alike x y s a b l L h g =
    let c = common x y s s a b l h g in
    c.is
    ∙ sum_alike s c.first c.second c.below
    ∙ round_same binary32 s (c.first + c.second) c.below (a + b) l c.below_pos L
    (add-mul c.first c.second l ∙ ap₂ (λ (p q : ℕ). p + q) c.first-is c.second_is ∙ sym (add-mul a b c.below))

-- −0 and a term that is not negative
zero_and : (a b c : ℕ) → a ≡ 0 → sum binary32 true a false b c ≡ round binary32 false b c
unfolding sum
zero_and a b c e = go (ltb a b) refl
  where
    go : (t : Bool) → ltb a b ≡ t → cond t (round binary32 false (b - a) c) (round binary32 (true && ltb b a) (a - b) c) ≡ round binary32 false b c
    go true q = ap (λ (n : ℕ). round binary32 false n c) (let z : b - a ≡ b = omega arith in z)
    go false q =
        let z : b ≡ 0 = omega (arith, ltb-false a b q) in
        ap₂ (λ (s : Bool) (n : ℕ). round binary32 (true && s) n c) (le-ltb b a (omega arith)) (let w : a - b ≡ b = omega arith in w)

-- −0 and any term: the term, rounded
add_to_zero : (y : Float) (s : Bool) (b l : ℕ) → 0 < l → HasValue y s b l → add binary32 (fin true 0 (pos 0)) y ≡ round binary32 s b l
add_to_zero y true b l L g = add-alike (fin true 0 (pos 0)) y true 0 b l L (refl, zero-mul l) g ∙ ap (λ (n : ℕ). round binary32 true n l) (zero-add b)
add_to_zero y false b l L g =
    let c = common (fin true 0 (pos 0)) y true false 0 b l (refl, zero-mul l) g in
    let none : c.first ≡ 0 = omega (arith, c.first-is, zero-mul c.below, le-mul_of_pos_right c.first L) in
    c.is ∙ zero_and c.first c.second c.below none ∙ round_same binary32 false c.second c.below b l c.below_pos L c.second_is

-- ---- the value of what is rounded

pub rounded_value : (s : Bool) (a c : ℕ) → grid binary32 a c < overflow binary32 → HasValue (round binary32 s a c) s (grid binary32 a c) unit
rounded_value s a c h =
    subst (λ (z : Float). HasValue z s (grid binary32 a c) unit) (sym (round_is binary32 s a c))
    (units_val binary32 s (kept 24 (a * 2 ^ 149) c) (drop 24 (a * 2 ^ 149) c) h)

-- −0 and a float: nothing is lost
pub from_zero : (x : Float) (s : Bool) (g : ℕ) → HasValue x s g unit → Short g → g < overflow binary32 → HasValue (add binary32 (fin true 0 (pos 0)) x) s g unit
from_zero x s g h S u =
    let same : grid binary32 g unit ≡ g = ap (λ (z : ℕ). grid binary32 z unit) S.is ∙ exact S.m S.j S.few ∙ sym S.is in
    subst (λ (z : Float). HasValue z s g unit) (sym (add_to_zero x s g unit (pow_pos 149) h))
    (subst (λ (z : ℕ). HasValue (round binary32 s g unit) s z unit) same (rounded_value s g unit (lt_of_le_of_lt (le_of_eq same) u)))
