-- What a float is worth, from its value: the same count of units, with its sign. Assumes nothing.
use Prim.Native.Nat.{ℕ, ◌*◌, ◌<◌}
use native.Mathlib.Nat.{mul-one, mul_right_comm, eq_of_mul-eq-mul_right}
use mathlib.Core.Path.{◌≡◌, refl, sym, ap, ap₂, ◌∙◌}
use mathlib.Core.Bool.{Bool}
use lib.Dec.{T}
use lib.Pow.{pow_pos}
use lib.Ieee.{Float, nan, inf, fin, up, down}
use lib.Ieee.Exact.{HasValue}
use lib.Ieee.Scale.{finite}
use Rattle.float32.proofs.Grid.{unit}
use Rattle.float32.proofs.Units.{units_of}
use Rattle.matrix_laws.specs.Exact.{with_sign, signed_units}

pub has_finite : (x : Float) (s : Bool) (g l : ℕ) → HasValue x s g l → T (finite x)
has_finite nan s g l h = absurd h
has_finite (inf t) s g l h = absurd h
has_finite (fin t m e) s g l h = tt

pub has_units : (x : Float) (s : Bool) (g : ℕ) → HasValue x s g unit → signed_units x ≡ with_sign s g
unfolding signed_units
has_units nan s g h = absurd h
has_units (inf t) s g h = absurd h
has_units (fin t m e) s g h = ap₂ with_sign h.0 (units_of (fin t m e) s g unit g (pow_pos 149) h refl)

-- a whole number, and the same in units
pub to_units : (x : Float) (s : Bool) (n l : ℕ) → HasValue x s n 1 → HasValue x s (n * l) l
to_units nan s n l h = h
to_units (inf t) s n l h = h
to_units (fin t m e) s n l h = (h.0, ap (λ (z : ℕ). z * l) (sym (mul-one (m * up e)) ∙ h.1) ∙ mul_right_comm n (down e) l)

pub from_units : (x : Float) (s : Bool) (n l : ℕ) → 0 < l → HasValue x s (n * l) l → HasValue x s n 1
from_units nan s n l L h = h
from_units (inf t) s n l L h = h
from_units (fin t m e) s n l L h = (h.0, mul-one (m * up e) ∙ eq_of_mul-eq-mul_right l L (m * up e) (n * down e) (h.1 ∙ mul_right_comm n l (down e)))
