-- The numbers are those that stand in the image; `|` is `||` of tests that were made.
use Rattle.std.proofs.Common.{◌≡◌, ℕ, List, not, ◌||◌}
use lib.Dec.{ltb, eqb}
use Rattle.codec.specs.Little.{number_at}
use Rattle.image_reasons.specs.Reasons.{numbers_refused}
use Rattle.image_reasons.proofs.Numbers.{or_assoc4}
use Rattle.image_reasons.proofs.reasons.numbers_refused.Goals as goal

of_numbers : (bytes : List ℕ) (m z i n : ℕ) → m ≡ number_at 4 bytes 24_220 → z ≡ number_at 1 bytes 17_927 → i ≡ number_at 2 bytes 17_928 → n ≡ number_at 2 bytes 17_930
    → (((ltb 255 m || not (eqb z 0)) || ltb 255 i) || ltb 56 n) ≡ numbers_refused bytes
unfolding numbers_refused
of_numbers bytes m z i n e₁ e₂ e₃ e₄ = rw (or_assoc4 (ltb 255 m) (not (eqb z 0)) (ltb 255 i) (ltb 56 n), e₁, e₂, e₃, e₄)

pub returns : goal.returns
returns c = of_numbers _ _ _ _ _ c.read-mask.ensures c.read-zero.ensures c.read-index.ensures c.read-count.ensures
