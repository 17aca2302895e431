-- The three steps give `sqrt_of`: an answer of the first is the root (`sorted`), and what the second finds has the root of `root_of`, so that the third rounds it alike (`exact_rounded`).
use Prim.Native.Nat.{ℕ, zero, suc, ◌+◌, ◌-◌, ◌*◌, ◌^◌, ◌≤◌, ◌<◌}
use native.Mathlib.Nat.{le_trans, lt_of_lt_of_le, mul-pos, mul-le-mul}
use native.Mathlib.Omega.{arith}
use mathlib.Core.Path.{◌≡◌, refl, sym, ap, ◌∙◌}
use mathlib.Core.Bool.{true, false}
use lib.Dec.{T}
use lib.Pow.{pow_pos}
use lib.Ieee.{Float, nan, inf, fin, binary32, fits, odd, of_bits}
use lib.Ieee.Bits.{of_bits-to_bits}
use lib.Ieee.Positive.{first_pos}
use Rattle.float32.specs.Root.{floor_root, nearest_root, root_of, sqrt_of, in_units, unsigned}
use Rattle.float32.specs.Steps.{operand_of, Exact, nearest_of, rounded_root}
use Rattle.std.specs.declared.ops.ControlFlow.{ControlFlow}
use Rattle.std.specs.declared.ops.ControlFlow.TheVariants.{Break, Continue}
use Rattle.float32.specs.declared.root.Root.{Root}
use Rattle.float32.proofs.root.Squares.{IsRoot, root_unique, floor-root, next_square}
use Rattle.float32.proofs.root.Values.{root_of_value, root_scaled}
use Rattle.float32.proofs.root.Laws.{shape}

-- ---- the first step

abbrev pub Sorted : Float → ControlFlow Float ℕ → Type 0
Sorted x (Break y) = y ≡ sqrt_of x
Sorted x (Continue b) = (of_bits binary32 b ≡ x) × T (unsigned x)

pub sorted : (x : Float) → T (fits binary32 x) → Sorted x (operand_of x)
unfolding operand_of sqrt_of
sorted nan f = refl
sorted (inf s) f = refl
sorted (fin s zero e) f = refl
sorted (fin true (suc m) e) f = refl
sorted (fin false (suc m) e) f = (of_bits-to_bits binary32 (fin false (suc m) e) f, tt)

-- ---- the second and the third

module _ (x : Float) (r : Root) (h : Exact x r) where
  abbrev n : ℕ
  n = r.root * r.root + r.remainder

  is-root : IsRoot n r.root
  is-root = (omega arith, rw (next_square r.root) (omega (arith, h.less)))

  long : 2 ^ 46 ≤ n
  long = le_trans (mul-le-mul h.low h.low) is-root.0

  short : n < 2 ^ 48
  short = lt_of_lt_of_le is-root.1 (mul-le-mul h.high h.high)

  whole : r.root ≡ floor_root n
  whole = root_unique is-root (floor-root n short)

  nearest_is : nearest_of r ≡ nearest_root n
  unfolding nearest_of nearest_root
  nearest_is =
      let rest : n - r.root * r.root ≡ r.remainder = omega arith in
      rw (← whole, rest)

  above : 0 < in_units x
  above = first_pos (in_units x) (2 ^ 149) (rw h.value (mul-pos (lt_of_lt_of_le (pow_pos 46) long) (mul-pos (pow_pos r.exponent) (pow_pos r.exponent))))

  pub exact_rounded : T (fits binary32 x) → T (unsigned x) → rounded_root r ≡ sqrt_of x
  unfolding rounded_root
  exact_rounded f u =
      ap (λ (q : ℕ). odd 25 false q r.exponent 149) nearest_is
      ∙ sym (root_of_value x (in_units x) (shape x f u).value above ∙ ap root_of h.value ∙ root_scaled n r.exponent long short)
