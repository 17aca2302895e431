-- A part of a mirror that holds given floats, and what is left of it where another part is written.
-- Assumes nothing.
use Prim.Native.Nat.{ℕ, ◌+◌, ◌≤◌, ◌<◌}
use mathlib.Core.Path.{◌≡◌}
use mathlib.Core.List.{List}
use lib.ListN.{length, get_or}
use lib.Ieee.{Float, nan}
use Rattle.codec.specs.Put.{put}
use Rattle.codec.proofs.Put.{Outside, get_d_put, get_d_outside}

-- from `at` on m holds p
abbrev pub Holds : List Float → ℕ → List Float → Type 0
Holds m at p = (j : ℕ) → j < length p → get_or m (at + j) nan ≡ get_or p j nan

module _ (at : ℕ) (vs m : List Float) (room : at + length vs ≤ length m) where
  pub put_holds : Holds (put at vs m) at vs
  put_holds = get_d_put at vs m room nan

  pub put_outside : (i : ℕ) → Outside at (length vs) i → get_or (put at vs m) i nan ≡ get_or m i nan
  put_outside = get_d_outside at vs m room nan
