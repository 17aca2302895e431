-- A section's bit is the power of two of its place, and a word has that power in common with it or nothing.
use Rattle.std.proofs.Common.{arith, ◌≡◌, ◌∙◌, ℕ, ◌*◌, ◌^◌, ◌<◌, ap, eqb}
use Prim.Native.Nat.{zero, suc}
use mathlib.Core.Bool.{not}
use lib.Bits.{bit_and}
use Rattle.std.proofs.Math.Dec.{eqb-suc-zero}
use Rattle.std.proofs.lemmas.Nat.{pow_pos}
use Rattle.std.proofs.lemmas.Nat.Bits.{and_pow}
use Rattle.std.specs.Int.{bit_at}
use Rattle.words.specs.Bits.{has_bit}
use Rattle.sections.specs.Sections.{bit_place}
use Rattle.sections.proofs.Every.{bit-place}
use Rattle.refresh.proofs.written.has_section.Goals as goal

-- a digit is 1 where its power counts
counted : (b p : ℕ) → b < 2 → 0 < p → not (eqb (b * p) 0) ≡ eqb b 1
counted zero p h q = let e : 0 * p ≡ 0 = omega arith in ap (λ (n : ℕ). not (eqb n 0)) e
counted (suc zero) (suc p) h q = let e : 1 * suc p ≡ suc p = omega arith in ap (λ (n : ℕ). not (eqb n 0)) e ∙ ap not (eqb-suc-zero p)
counted (suc zero) zero h q = absurd (omega arith)
counted (suc (suc b)) p h q = absurd (omega arith)

pub returns : goal.returns
unfolding has_bit
returns c =
    let k : ℕ = bit_place c.args.section in
    ap (λ (n : ℕ). not (eqb (bit_and c.args.bits n) 0)) (c.from-bit.ensures ∙ c.from.ensures ∙ bit-place c.args.section)
    ∙ ap (λ (n : ℕ). not (eqb n 0)) (and_pow c.args.bits k)
    ∙ counted (bit_at c.args.bits k) (2 ^ k) (omega arith) (pow_pos k)
