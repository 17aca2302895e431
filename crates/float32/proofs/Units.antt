-- A finite f32 is a whole number of units of 2 ^ −149, `in_units` of them, with a sign; it has at most 24 digits, moved up. Assumes nothing.
use Prim.Native.Nat.{ℕ, ◌*◌, ◌/◌, ◌^◌, ◌<◌}
use native.Mathlib.Nat.{mul_right_comm, mul-div_cancel, eq_of_mul-eq-mul_right}
use mathlib.Core.Path.{◌≡◌, refl, ap, ◌∙◌}
use mathlib.Core.Bool.{Bool, false}
use lib.Dec.{T}
use lib.Ieee.{Float, nan, inf, fin, binary32, up, down, fits}
use lib.Ieee.Exact.{HasValue}
use lib.Ieee.Fits.{down_pos}
use lib.Ieee.Scale.{finite}
use Rattle.float32.specs.Root.{in_units}
use Rattle.float32.specs.Cosine.{magnitude}
use Rattle.float32.proofs.Grid.{unit, Short}
use Rattle.float32.proofs.root.Laws.{shape}
use Rattle.float32.proofs.cosine.Magnitude.{magnitude_fits}

pub record Counted (x : Float) : Type 0 where
  pub sign : Bool
  pub value : HasValue x sign (in_units x) unit
  pub short : Short (in_units x)
  pub small : in_units x < 2 ^ 277

pub counted : (x : Float) → T (fits binary32 x) → T (finite x) → Counted x
unfolding in_units magnitude
counted nan h f = absurd f
counted (inf s) h f = absurd f
counted (fin s m e) h f =
    let g = shape (fin false m e) (magnitude_fits (fin s m e) h) tt in
    record { sign = s; value = (refl, g.value.1); short = record { m = g.m; j = g.j; few = g.few; is = g.is }; small = g.small }

-- a value a / c is w units
pub units_of : (y : Float) (s : Bool) (a c w : ℕ) → 0 < c → HasValue y s a c → a * 2 ^ 149 ≡ w * c → in_units y ≡ w
unfolding in_units
units_of nan s a c w C h e = absurd h
units_of (inf t) s a c w C h e = absurd h
units_of (fin t m k) s a c w C h e =
    let v : m * up k * 2 ^ 149 ≡ w * down k =
    eq_of_mul-eq-mul_right c C (m * up k * 2 ^ 149) (w * down k)
    (mul_right_comm (m * up k) (2 ^ 149) c
    ∙ ap (λ (z : ℕ). z * 2 ^ 149) h.1
    ∙ mul_right_comm a (down k) (2 ^ 149)
    ∙ ap (λ (z : ℕ). z * down k) e
    ∙ mul_right_comm w c (down k)) in
    ap (λ (z : ℕ). z / down k) v ∙ mul-div_cancel w (down_pos k)
