-- The bits of a magnitude are the float's without the sign's. Assumes nothing.
use Prim.Native.Nat.{ℕ, zero, suc, ◌+◌, ◌-◌, ◌*◌, ◌/◌, ◌%◌, ◌^◌, ◌<◌}
use native.Mathlib.Nat.{add_assoc}
use native.Mathlib.Omega.{arith}
use mathlib.Core.Path.{◌≡◌, refl, sym, ap, subst, ◌∙◌}
use mathlib.Core.Bool.{Bool, true, false, cond}
use lib.IntN.{ℤ}
use lib.Dec.{T}
use lib.Ieee.{Float, nan, inf, fin, binary32, up, down, size, fits, to_bits}
use lib.Ieee.Bits.{to_bits-lt}
use lib.Ieee.Fits.{nan-fits, inf-fits}
use Rattle.float32.specs.Cosine.{magnitude}

-- what `to_bits` adds to the sign
digits : ℕ → ℤ → ℕ
digits m e = let n = m * up e * 2 ^ 149 / down e in let k = size n - 24 in k * 2 ^ 23 + n / 2 ^ k

signed : (s : Bool) (m : ℕ) (e : ℤ) → to_bits binary32 (fin s m e) ≡ cond s (2 ^ 31) 0 + digits m e
unfolding to_bits digits
signed s m e = add_assoc _ _ _

-- the sign is no part of what a format holds
sign_free : (s t : Bool) (m : ℕ) (e : ℤ) → T (fits binary32 (fin s m e)) → T (fits binary32 (fin t m e))
unfolding fits
sign_free s t zero e h = h
sign_free s t (suc m) e h = h

small : (s : Bool) (m : ℕ) (e : ℤ) → T (fits binary32 (fin s m e)) → digits m e < 2 ^ 31
small s m e h =
    let l : 2 ^ 31 + digits m e < 2 ^ 32 = subst (λ (n : ℕ). n < 2 ^ 32) (signed true m e) (to_bits-lt binary32 (fin true m e) (sign_free s true m e h)) in
    omega arith

pub magnitude_fits : (x : Float) → T (fits binary32 x) → T (fits binary32 (magnitude x))
unfolding magnitude
magnitude_fits nan h = nan-fits binary32
magnitude_fits (inf s) h = inf-fits binary32 false
magnitude_fits (fin s m e) h = sign_free s false m e h

pub magnitude-bits : (x : Float) → T (fits binary32 x) → to_bits binary32 x % 2 ^ 31 ≡ to_bits binary32 (magnitude x)
unfolding magnitude
magnitude-bits nan h = unfold to_bits in refl
magnitude-bits (inf true) h = unfold to_bits in refl
magnitude-bits (inf false) h = unfold to_bits in refl
magnitude-bits (fin true m e) h =
    let l = small true m e h in
    let p : (2 ^ 31 + digits m e) % 2 ^ 31 ≡ 0 + digits m e = omega arith in
    ap (λ (n : ℕ). n % 2 ^ 31) (signed true m e) ∙ p ∙ sym (signed false m e)
magnitude-bits (fin false m e) h =
    let l = small false m e h in
    let p : (0 + digits m e) % 2 ^ 31 ≡ 0 + digits m e = omega arith in
    ap (λ (n : ℕ). n % 2 ^ 31) (signed false m e) ∙ p ∙ sym (signed false m e)
