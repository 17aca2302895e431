-- What each of the three steps of src/root.rt finds, with the clauses of IEEE 754-2019 that it follows (cited from general knowledge: docs/DECISIONS.md). Document 02, T-06.
-- proofs/root/Steps: the first step's answers are `sqrt_of` (`sorted`), and what the second finds, rounded by the third, is too (`exact_rounded`).
use Rattle.std.specs.Prelude.{ℕ, zero, suc, ◌+◌, ◌*◌, ◌^◌, ◌≤◌, ◌<◌, ◌≡◌, Bool, false, cond, leb, Float}
use Rattle.std.specs.Float.{nan, inf, fin, binary32}
use Rattle.std.specs.Float.Ieee.{odd, to_bits}
use Rattle.float32.specs.Root.{in_units}
use Rattle.std.specs.declared.ops.ControlFlow.{ControlFlow}
use Rattle.std.specs.declared.ops.ControlFlow.TheVariants.{Break, Continue}
use Rattle.float32.specs.declared.root.Fields.{Fields}
use Rattle.float32.specs.declared.root.Root.{Root}

-- Step 1, special operands: a NaN returns itself (6.2.3), and so do +infinity (6.1) and either zero (6.3); any other negative gives NaN (7.2 g).
-- What is left goes on as its bits (3.4).
unfoldable pub operand_of : Float → ControlFlow Float ℕ
operand_of nan = Break nan
operand_of (inf s) = Break (cond s nan (inf s))
operand_of (fin s zero e) = Break (fin s zero e)
operand_of (fin s (suc m) e) = cond s (Break nan) (Continue (to_bits binary32 (fin s (suc m) e)))

-- the bits of a finite value above zero
abbrev pub InRange : ControlFlow Float ℕ → Type 0
InRange (Break y) = Unit {0}
InRange (Continue b) = (0 < b) × (b < 0x7F80_0000)

-- The fields of a value above zero (3.4): it is significand * 2 ^ exponent in units of 2 ^ -298, and the significand has 24 digits, a subnormal's too.
pub record FieldsOf (x : Float) (f : Fields) : Type 0 where
  pub value : in_units x * 2 ^ 149 ≡ f.significand * 2 ^ f.exponent
  pub low : 2 ^ 23 ≤ f.significand
  pub high : f.significand < 2 ^ 24
  pub least : 126 ≤ f.exponent
  pub most : f.exponent ≤ 402

-- Step 2, the whole-number root with its remainder (5.1, as if to infinite precision): x is (root * root + remainder) * 4 ^ exponent in units of 2 ^ -298, exactly.
-- The root has 24 digits, and is the whole-number root: the next square is root * root + 2 * root + 1.
pub record Exact (x : Float) (r : Root) : Type 0 where
  pub value : in_units x * 2 ^ 149 ≡ (r.root * r.root + r.remainder) * (2 ^ r.exponent * 2 ^ r.exponent)
  pub less : r.remainder ≤ 2 * r.root
  pub low : 2 ^ 23 ≤ r.root
  pub high : r.root < 2 ^ 24
  pub far : r.exponent ≤ 189

-- The root lies below the midpoint of the two whole numbers about it: (root + 1/2) ^ 2 is root * root + root + 1/4, which no whole number is, so there is no tie.
abbrev pub below_midpoint : Root → Bool
below_midpoint r = leb r.remainder r.root

-- Step 3, rounding (4.3.1, roundTiesToEven): the nearer of the two; and its float, a count of the format's least value, 2 ^ -149.
unfoldable pub nearest_of : Root → ℕ
nearest_of r = cond (below_midpoint r) r.root (suc r.root)

unfoldable pub rounded_root : Root → Float
rounded_root r = odd 25 false (nearest_of r) r.exponent 149
