-- The masks are those that stand in the image.
use Rattle.std.proofs.Common.{◌≡◌, ℕ, List, not, ◌||◌}
use mathlib.Core.Path.{ap₂}
use Rattle.codec.specs.Little.{number_at}
use Rattle.image_reasons.specs.Tests.{bits_defined, slots_default}
use Rattle.image_reasons.specs.Reasons.{slots_refused}
use Rattle.image_reasons.proofs.reasons.slots_refused.Goals as goal

of_masks : (bytes : List ℕ) (e d : ℕ) → e ≡ number_at 1 bytes 17_924 → d ≡ number_at 1 bytes 17_925 → not (bits_defined e d) || not (slots_default d bytes 17_092) ≡ slots_refused bytes
unfolding slots_refused
of_masks bytes e d enabled defined = ap₂ (λ (x y : ℕ). not (bits_defined x y) || not (slots_default y bytes 17_092)) enabled defined

pub returns-then-not-bits_defined : goal.returns-then-not-bits_defined
returns-then-not-bits_defined c = rw (← of_masks _ _ _ c.read-enabled.ensures c.read-defined.ensures, ← c.bits_defined.ensures, c.if-not-bits_defined.true)

pub returns-else-not-bits_defined : goal.returns-else-not-bits_defined
returns-else-not-bits_defined c = rw (← of_masks _ _ _ c.read-enabled.ensures c.read-defined.ensures, ← c.bits_defined.ensures, c.if-not-bits_defined.false, ← c.slots_default.ensures)
