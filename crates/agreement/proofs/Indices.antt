-- Lists of lights whose indices all lie above a number, or all below it. Assumes nothing.
use Prim.Native.Nat.{ℕ, suc, ◌<◌}
use native.Mathlib.Omega.{arith}
use mathlib.Core.Path.{◌≡◌, refl, ap}
use mathlib.Core.Bool.{Bool, true, false, cond}
use mathlib.Core.Option.{none}
use mathlib.Core.List.{List, [], ◌∷◌, ◌++◌}
use lib.ListN.{length}
use borrow.Author.Tests.{lt-ltb, le-ltb, le-leb, lt-leb, ne_eqb}
use Rattle.d3d9_types.specs.declared.light.D3DLIGHT9.{D3DLIGHT9}
use Rattle.d3d9_model.specs.State.{AbstractLight}
use Rattle.d3d9_model.specs.Lights.{lookup, changed_at, count_beyond, lights?, active_of}

abbrev pub Above : ℕ → List AbstractLight → Type 0
Above j [] = Unit {0}
Above j (x ∷ xs) = (j < x.index) × Above j xs

abbrev pub Below : ℕ → List AbstractLight → Type 0
Below j [] = Unit {0}
Below j (x ∷ xs) = (x.index < j) × Below j xs

pub above_append : (j : ℕ) (xs ys : List AbstractLight) → Above j xs → Above j ys → Above j (xs ++ ys)
above_append j [] ys h g = g
above_append j (x ∷ xs) ys h g = (h.0, above_append j xs ys h.1 g)

module _ (j : ℕ) where
  pub lookup_above : (xs : List AbstractLight) → Above j xs → lookup j xs ≡ none
  unfolding lookup
  lookup_above [] h = refl
  lookup_above (x ∷ xs) h = rw (ne_eqb x.index j (λ e. omega (arith, h.0))) (lookup_above xs h.1)

  pub lookup_below : (xs ys : List AbstractLight) → Below j xs → lookup j (xs ++ ys) ≡ lookup j ys
  unfolding lookup
  lookup_below [] ys h = refl
  lookup_below (x ∷ xs) ys h = rw (ne_eqb x.index j (λ e. omega (arith, h.0))) (lookup_below xs ys h.1)

  module _ (change : AbstractLight → AbstractLight) (new : AbstractLight) where
    pub changed_above : (xs : List AbstractLight) → Above j xs → changed_at j change new xs ≡ new ∷ xs
    unfolding changed_at
    changed_above [] h = refl
    changed_above (x ∷ xs) h = rw (le-ltb x.index j (omega (arith, h.0)), ne_eqb x.index j (λ e. omega (arith, h.0)))

    pub changed_below : (xs ys : List AbstractLight) → Below j xs → changed_at j change new (xs ++ ys) ≡ xs ++ changed_at j change new ys
    unfolding changed_at
    changed_below [] ys h = refl
    changed_below (x ∷ xs) ys h = rw (lt-ltb x.index j h.0) (ap (λ (l : List AbstractLight). x ∷ l) (changed_below xs ys h.1))

-- ---- the lights of index 8 or more

pub beyond_above : (xs : List AbstractLight) → Above 7 xs → count_beyond xs ≡ length xs
unfolding count_beyond
beyond_above [] h = refl
beyond_above (x ∷ xs) h = rw (le-leb 8 x.index h.0) (ap suc (beyond_above xs h.1))

pub beyond_below : (xs ys : List AbstractLight) → Below 8 xs → count_beyond (xs ++ ys) ≡ count_beyond ys
unfolding count_beyond
beyond_below [] ys h = refl
beyond_below (x ∷ xs) ys h = rw (lt-leb 8 x.index h.0) (beyond_below xs ys h.1)

-- ---- the active lights

active_if : (t : Bool) (l : D3DLIGHT9) (xs ys : List D3DLIGHT9) → cond t (l ∷ xs ++ ys) (xs ++ ys) ≡ cond t (l ∷ xs) xs ++ ys
active_if true l xs ys = refl
active_if false l xs ys = refl

pub active_append : (xs ys : List AbstractLight) → active_of (xs ++ ys) ≡ active_of xs ++ active_of ys
unfolding active_of
active_append [] ys = refl
active_append (x ∷ xs) ys = rw (active_append xs ys) (active_if (lights? x) x.light (active_of xs) (active_of ys))
