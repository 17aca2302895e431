-- What reads an item at the front of a list reads it anywhere in a longer list, and where it was put.
-- Assumes nothing.
use Prim.Native.Nat.{ℕ, ◌+◌, ◌≤◌}
use native.Mathlib.Nat.{add-zero}
use native.Mathlib.Omega.{arith}
use mathlib.Core.Path.{◌≡◌, sym, ap, ◌∙◌}
use mathlib.Core.List.{List, ◌++◌}
use lib.ListN.{length, take, drop}
use lib.Seq.{length-take-le}
use Rattle.codec.specs.Put.{put}

-- a reader that looks only at what stands from its place on
abbrev pub Skips : {A : Type 0} → (List ℕ → ℕ → A) → Type 0
Skips read = (p q : List ℕ) (n : ℕ) → read (p ++ q) (length p + n) ≡ read q n

-- vs, at the front of a list, reads as x
abbrev pub Starts : {A : Type 0} → (List ℕ → ℕ → A) → List ℕ → A → Type 0
Starts read vs x = (rest : List ℕ) → read (vs ++ rest) 0 ≡ x

module _ {A : Type 0} (read : List ℕ → ℕ → A) (skips : Skips read) (vs : List ℕ) (x : A) (starts : Starts read vs x) where
  pub inside : (pre post : List ℕ) (at : ℕ) → length pre ≡ at → read (pre ++ (vs ++ post)) at ≡ x
  inside pre post at e =
      ap (λ (n : ℕ). read (pre ++ (vs ++ post)) n) (sym (add-zero (length pre) ∙ e))
      ∙ skips pre (vs ++ post) 0
      ∙ starts post

  pub where_put : (at : ℕ) (m : List ℕ) → at + length vs ≤ length m → read (put at vs m) at ≡ x
  unfolding put
  where_put at m room = inside (take at m) (drop (length vs) (drop at m)) at (length-take-le at m (omega arith))
