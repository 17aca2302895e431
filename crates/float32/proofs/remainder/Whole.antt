-- What a float leaves over a whole turn, in whole units of 2 ^ −149: the unit count's remainder over the turn's count, 0xC90FDB · 2 ^ 128, rounded, and so exact.
-- Assumes nothing.
use Prim.Native.Nat.{ℕ, zero, suc, ◌+◌, ◌-◌, ◌*◌, ◌/◌, ◌%◌, ◌^◌, ◌<◌, ◌≤◌}
use native.Mathlib.Nat.{mul_assoc, mul_right_comm, mul-pos, mul-one, mul-mod_left, mul-div_cancel, mod-eq_of_lt, add-zero, lt_of_le_of_lt, le_of_eq, le_of_lt, le_trans, lt_of_lt_of_le}
use native.Mathlib.Omega.{arith}
use mathlib.Core.Path.{◌≡◌, refl, sym, ap, ap₂, subst, ◌∙◌}
use mathlib.Core.Bool.{Bool, true, false, not, cond}
use lib.Arith.{mod-mul}
use lib.Dec.{T, leb, eqb, lit<, lit≤}
use lib.IntN.{pos, negsuc}
use lib.Pow.{pow_pos, pow-add, pow_mono, shl_lt}
use lib.Ieee.{Float, nan, inf, fin, binary32, up, down, unlike, neg, mul, round, rem, of_int, fits, of_bits, of_fields}
use lib.Ieee.Back.{round_whole}
use lib.Ieee.Exact.{HasValue, odd_sign}
use lib.Ieee.Fits.{down_pos, neg-fits, round-fits}
use lib.Ieee.Scale.{grid, round_same}
use borrow.Author.Tests.{ne_eqb}
use Rattle.float32.specs.Cosine.{turn}
use Rattle.float32.proofs.Grid.{unit, Short, exact}
use Rattle.float32.proofs.Arithmetic.{mul_is, rounded_value}
use Rattle.float32.proofs.root.Values.{value_unique}

-- the units of a turn
abbrev pub turn_units : ℕ
turn_units = 0xC9_0FDB * 2 ^ 128

turn_is : turn ≡ fin false 0xC9_0FDB (negsuc 20)
unfolding turn of_bits
turn_is = refl

-- a remainder of two numbers that are moved up alike
pub mod_scaled : (a b k : ℕ) → 0 < b → 0 < k → (a * k) % (b * k) ≡ (a % b) * k
mod_scaled a b k B K =
    mod-mul (a * k) {m = b} {c = k} B K
    ∙ ap₂ (λ (x y : ℕ). x % b * k + y) (mul-div_cancel a K) (mul-mod_left a k)
    ∙ add-zero (a % b * k)

pub rem_of_value : (x : Float) (s : Bool) (a : ℕ) → HasValue x s a unit → rem binary32 x turn ≡ round binary32 s (a % turn_units) unit
unfolding rem
rem_of_value nan s a h = absurd h
rem_of_value (inf t) s a h = absurd h
rem_of_value (fin t m e) s a h =
    ap (rem binary32 (fin t m e)) turn_is
    ∙ ap (λ (u : Bool). round binary32 u (m * up e * 2097152 % (0xC9_0FDB * 1 * down e)) (down e * 2097152)) h.0
    ∙ round_same binary32 s (m * up e * 2097152 % (0xC9_0FDB * 1 * down e)) (down e * 2097152) (a % turn_units) unit (mul-pos (down_pos e) (lit< tt)) (pow_pos 149) same
  where
    first : m * up e * 2097152 * unit ≡ a * (down e * 2097152)
    first = mul_right_comm (m * up e) 2097152 unit ∙ ap (λ (x : ℕ). x * 2097152) h.1 ∙ mul_assoc a (down e) 2097152

    second : 0xC9_0FDB * 1 * down e * unit ≡ turn_units * (down e * 2097152)
    second = omega arith

    same : m * up e * 2097152 % (0xC9_0FDB * 1 * down e) * unit ≡ a % turn_units * (down e * 2097152)
    same =
        sym (mod_scaled (m * up e * 2097152) (0xC9_0FDB * 1 * down e) unit (mul-pos (lit< tt) (down_pos e)) (pow_pos 149))
        ∙ ap₂ (λ (x y : ℕ). x % y) first second
        ∙ mod_scaled a turn_units (down e * 2097152) (lit< tt) (mul-pos (down_pos e) (lit< tt))

-- ---- a float by its bits: sign, exponent field and digits

abbrev pub sign_bit : ℕ → Bool
sign_bit b = leb (2 ^ 31) b

pub normal_bits : (b x : ℕ) → b % 2 ^ 31 / 2 ^ 23 ≡ suc x → suc x < 255 → HasValue (of_bits binary32 b) (sign_bit b) ((2 ^ 23 + b % 2 ^ 23) * 2 ^ x) unit
unfolding of_bits of_fields
normal_bits b x f h =
    let small : suc x ≡ 255 → ⊥ = λ (e : suc x ≡ 255). omega arith in
    rw (f, ne_eqb (suc x) 255 small) (odd_sign 24 (sign_bit b) (2 ^ 23 + b % 2 ^ 23) x 149)

pub subnormal_bits : (b : ℕ) → b % 2 ^ 31 / 2 ^ 23 ≡ 0 → HasValue (of_bits binary32 b) (sign_bit b) (b % 2 ^ 23) unit
unfolding of_bits of_fields
subnormal_bits b f = rw f (rw mul-one at (odd_sign 24 (sign_bit b) (b % 2 ^ 23) 0 149))

pub special_bits : (b : ℕ) → b % 2 ^ 31 / 2 ^ 23 ≡ 255 → rem binary32 (of_bits binary32 b) turn ≡ nan
unfolding of_bits of_fields rem
special_bits b f = rw f (go (eqb (b % 2 ^ 23) 0))
  where
    go : (t : Bool) → rem binary32 (cond t (inf (sign_bit b)) nan) turn ≡ nan
    go true = refl
    go false = refl

-- ---- below a turn nothing is taken away

neg_twice : (x : Float) → neg (neg x) ≡ x
unfolding neg
neg_twice nan = refl
neg_twice (inf true) = refl
neg_twice (inf false) = refl
neg_twice (fin true m e) = refl
neg_twice (fin false m e) = refl

neg_value : (x : Float) (a : ℕ) → HasValue x true a unit → HasValue (neg x) false a unit
unfolding neg
neg_value nan a h = absurd h
neg_value (inf t) a h = absurd h
neg_value (fin t m e) a h = (ap not h.0, h.1)

signed_unique : (x y : Float) (s : Bool) (a : ℕ) → T (fits binary32 x) → T (fits binary32 y) → HasValue x s a unit → HasValue y s a unit → x ≡ y
signed_unique x y false a p q h k = value_unique x y a p q h k
signed_unique x y true a p q h k =
    sym (neg_twice x)
    ∙ ap neg (value_unique (neg x) (neg y) a (neg-fits binary32 x p) (neg-fits binary32 y q) (neg_value x a h) (neg_value y a k))
    ∙ neg_twice y

pub below_turn : (y : Float) (s : Bool) (a : ℕ) → T (fits binary32 y) → HasValue y s a unit → Short a → a < turn_units → rem binary32 y turn ≡ y
below_turn y s a p h S l =
    rem_of_value y s a h
    ∙ ap (λ (n : ℕ). round binary32 s n unit) (mod-eq_of_lt l)
    ∙ signed_unique (round binary32 s a unit) y s a (round-fits binary32 s a unit) p
    (subst (λ (n : ℕ). HasValue (round binary32 s a unit) s n unit) same (rounded_value s a unit (lt_of_le_of_lt (le_of_eq same) (lt_of_lt_of_le l (lit≤ tt)))))
    h
  where
    same : grid binary32 a unit ≡ a
    same = ap (λ (n : ℕ). grid binary32 n unit) S.is ∙ exact S.m S.j S.few ∙ sym S.is

-- ---- r units of 2 ^ −21, which is the last digit of a turn

abbrev pub last_digit : Bool → Float
last_digit s = fin s 1 (negsuc 20)

pub last_digit_is : of_bits binary32 0x3500_0000 ≡ last_digit false
unfolding of_bits
last_digit_is = refl

pub negative_last_digit_is : of_bits binary32 0xB500_0000 ≡ last_digit true
unfolding of_bits
negative_last_digit_is = refl

pub scaled_down : (r : ℕ) (s : Bool) → r < 2 ^ 24 → mul binary32 (of_int binary32 (pos r)) (last_digit s) ≡ round binary32 s (r * 2 ^ 128) unit
unfolding of_int
scaled_down r s h =
    mul_is (of_int binary32 (pos r)) (last_digit s) false s r 1 1 2097152 (lit< tt) (lit< tt) (round_whole binary32 false r (le_of_lt h)) (refl, refl)
    ∙ ap (λ (t : Bool). round binary32 t (r * 1) (1 * 2097152)) (unlike_left s)
    ∙ round_same binary32 s (r * 1) (1 * 2097152) (r * 2 ^ 128) unit (lit< tt) (pow_pos 149) (omega arith)
  where
    unlike_left : (s : Bool) → unlike false s ≡ s
    unlike_left true = refl
    unlike_left false = refl

-- ---- the two cases of the code, by the exponent field

pub low_field : (b : ℕ) (y : Float) → T (fits binary32 y) → of_bits binary32 b ≡ y → b % 2 ^ 31 / 2 ^ 23 < 129 → rem binary32 y turn ≡ y
low_field b y p e l = go (b % 2 ^ 31 / 2 ^ 23) refl
  where
    rest : b % 2 ^ 23 < 2 ^ 23
    rest = omega arith

    valued : (a : ℕ) → HasValue (of_bits binary32 b) (sign_bit b) a unit → HasValue y (sign_bit b) a unit
    valued a h = subst (λ (x : Float). HasValue x (sign_bit b) a unit) e h

    go : (x : ℕ) → b % 2 ^ 31 / 2 ^ 23 ≡ x → rem binary32 y turn ≡ y
    go zero f =
        below_turn y (sign_bit b) (b % 2 ^ 23) p (valued (b % 2 ^ 23) (subnormal_bits b f))
        (record { m = b % 2 ^ 23; j = 0; few = omega arith; is = sym (mul-one (b % 2 ^ 23)) })
        (lt_of_lt_of_le rest (lit≤ tt))
    go (suc k) f =
        let few : 2 ^ 23 + b % 2 ^ 23 < 2 ^ 24 = omega arith in
        below_turn y (sign_bit b) ((2 ^ 23 + b % 2 ^ 23) * 2 ^ k) p (valued ((2 ^ 23 + b % 2 ^ 23) * 2 ^ k) (normal_bits b k f (omega arith)))
        (record { m = 2 ^ 23 + b % 2 ^ 23; j = k; few = few; is = refl })
        (lt_of_lt_of_le (shl_lt 24 k few) (le_trans (pow_mono {i = 24 + k} {j = 151} (omega arith)) (lit≤ tt)))

pub high_field : (b : ℕ) (y : Float) → of_bits binary32 b ≡ y → 129 ≤ b % 2 ^ 31 / 2 ^ 23 → b % 2 ^ 31 / 2 ^ 23 < 255
    → rem binary32 y turn ≡ round binary32 (sign_bit b) ((2 ^ 23 + b % 2 ^ 23) * 2 ^ (b % 2 ^ 31 / 2 ^ 23 - 129) % 0xC9_0FDB * 2 ^ 128) unit
high_field b y e h l = go (b % 2 ^ 31 / 2 ^ 23) refl
  where
    m : ℕ
    m = 2 ^ 23 + b % 2 ^ 23

    moved : (k : ℕ) → 128 ≤ k → m * 2 ^ k ≡ m * 2 ^ (suc k - 129) * 2 ^ 128
    moved k g =
        ap (λ (j : ℕ). m * 2 ^ j) (let z : k ≡ suc k - 129 + 128 = omega arith in z)
        ∙ ap (λ (x : ℕ). m * x) (pow-add 2 (suc k - 129) 128)
        ∙ sym (mul_assoc m (2 ^ (suc k - 129)) (2 ^ 128))

    go : (x : ℕ) → b % 2 ^ 31 / 2 ^ 23 ≡ x → rem binary32 y turn ≡ round binary32 (sign_bit b) (m * 2 ^ (b % 2 ^ 31 / 2 ^ 23 - 129) % 0xC9_0FDB * 2 ^ 128) unit
    go zero f = absurd (omega arith)
    go (suc k) f =
        rem_of_value y (sign_bit b) (m * 2 ^ k) (subst (λ (x : Float). HasValue x (sign_bit b) (m * 2 ^ k) unit) e (normal_bits b k f (omega arith)))
        ∙ ap (λ (n : ℕ). round binary32 (sign_bit b) n unit)
        (ap (λ (n : ℕ). n % turn_units) (moved k (omega arith))
        ∙ mod_scaled (m * 2 ^ (suc k - 129)) 0xC9_0FDB (2 ^ 128) (lit< tt) (pow_pos 128)
        ∙ ap (λ (j : ℕ). m * 2 ^ (j - 129) % 0xC9_0FDB * 2 ^ 128) (sym f))
