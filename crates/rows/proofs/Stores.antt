-- Runs of stores: one run behind the other is one run, and a run as long as the list is what the list then is.
--
use Prim.Native.Nat.{ℕ, suc, ◌+◌}
use native.Mathlib.Nat.{add-zero}
use native.Mathlib.Omega.{arith}
use mathlib.Core.Path.{◌≡◌, ap, ◌∙◌}
use mathlib.Core.List.{List, [], ◌∷◌, ◌++◌, append-nil}
use lib.Ieee.{Float}
use lib.ListN.{length, set, drop_of_length-le}
use lib.Seq.{sets, sets-eq}

pub sets_append : (m : List Float) (at : ℕ) (vs ws : List Float) → sets m at (vs ++ ws) ≡ sets (sets m at vs) (at + length vs) ws
sets_append m at [] ws = rw add-zero
sets_append m at (v ∷ vs) ws =
    let e : suc at + length vs ≡ at + suc (length vs) = omega arith in
    sets_append (set m at v) (suc at) vs ws ∙ ap (λ (n : ℕ). sets (sets (set m at v) (suc at) vs) n ws) e

pub sets_whole : (vs m : List Float) → length m ≡ length vs → sets m 0 vs ≡ vs
sets_whole vs m h =
    sets-eq vs m 0 (omega arith)
    ∙ rw (drop_of_length-le m {i = 0 + length vs} (omega arith)) (append-nil vs)

-- four stores
pub sets_four : (m : List Float) (at : ℕ) (a b c d : Float) → set (set (set (set m at a) (at + 1) b) (at + 2) c) (at + 3) d ≡ sets m at (a ∷ b ∷ c ∷ d ∷ [])
sets_four m at a b c d =
    let e₁ : at + 1 ≡ suc at = omega arith in
    let e₂ : at + 2 ≡ suc (suc at) = omega arith in
    let e₃ : at + 3 ≡ suc (suc (suc at)) = omega arith in
    rw (e₁, e₂, e₃)
