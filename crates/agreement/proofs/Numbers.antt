-- The state numbers: what `slot_of` finds for one is what the abstract state knows. Assumes nothing.
use Rattle.std.specs.Prelude.{Option, Some, None}
use Prim.Native.Nat.{ℕ, ◌+◌, ◌<◌}
use native.Mathlib.Omega.{arith}
use mathlib.Core.Path.{◌≡◌, refl, subst}
use mathlib.Core.Bool.{true, false}
use lib.Dec.{ltb, eqb}
use borrow.Author.Tests.{eqb-true, ltb-true, ltb-false, le-leb, lt-leb}
use Rattle.lemmas.proofs.Branch.{branch}
use Rattle.d3d9_model.specs.Operations.{known}
use Rattle.ff_state.specs.Transforms.{slot_of, InRange}
use Rattle.ff_state.specs.declared.transforms.Place.{Place}
use Rattle.ff_state.specs.declared.transforms.Place.TheVariants.{View, Projection, Texture, Palette}

-- the number of a place
abbrev pub number : Place → ℕ
number View = 2
number Projection = 3
number (Texture i) = 16 + i
number (Palette i) = 256 + i

abbrev Right : ℕ → Option Place → Type 0
Right n (Some p) = InRange p × (n ≡ number p) × (known n ≡ true)
Right n None = known n ≡ false

below : (n : ℕ) → n < 16 → eqb n 2 ≡ false → eqb n 3 ≡ false → known n ≡ false
unfolding known
below n h p q = rw (p, q, lt-leb 16 n h, lt-leb 256 n (omega arith))

right : (n : ℕ) → Right n (slot_of n)
unfolding slot_of known
right n =
    branch (Right n) (eqb n 2) _ _ (λ (p : eqb n 2 ≡ true). (tt, eqb-true n 2 p, rw p))
    (λ (p : eqb n 2 ≡ false).
    branch (Right n) (eqb n 3) _ _ (λ (q : eqb n 3 ≡ true). (tt, eqb-true n 3 q, rw (p, q)))
    (λ (q : eqb n 3 ≡ false).
    branch (Right n) (ltb n 16) _ _ (λ (a : ltb n 16 ≡ true). below n (ltb-true n 16 a) p q)
    (λ (a : ltb n 16 ≡ false).
    let a' = ltb-false n 16 a in
    branch (Right n) (ltb n 24) _ _
    (λ (b : ltb n 24 ≡ true).
    let b' = ltb-true n 24 b in
    (omega arith, omega arith, rw (p, q, le-leb 16 n a', le-leb n 23 (omega arith))))
    (λ (b : ltb n 24 ≡ false).
    let b' = ltb-false n 24 b in
    branch (Right n) (ltb n 256) _ _
    (λ (c : ltb n 256 ≡ true).
    let c' = ltb-true n 256 c in
    rw (p, q, lt-leb n 23 b', lt-leb 256 n c', le-leb 16 n a'))
    (λ (c : ltb n 256 ≡ false).
    let c' = ltb-false n 256 c in
    branch (Right n) (ltb n 512) _ _
    (λ (d : ltb n 512 ≡ true).
    let d' = ltb-true n 512 d in
    (omega arith, omega arith, rw (p, q, le-leb 16 n a', lt-leb n 23 b', le-leb 256 n c', le-leb n 511 (omega arith))))
    (λ (d : ltb n 512 ≡ false).
    let d' = ltb-false n 512 d in
    rw (p, q, le-leb 16 n a', lt-leb n 23 b', le-leb 256 n c', lt-leb n 511 d')))))))

-- a number names a place, and is then known, or none
pub data Named (n : ℕ) : Type 0 where
  place : (p : Place) → InRange p → n ≡ number p → slot_of n ≡ Some p → known n ≡ true → Named n
  no_place : slot_of n ≡ None → known n ≡ false → Named n

pub named : (n : ℕ) → Named n
named n = go (slot_of n) refl (right n)
  where
    go : (t : Option Place) → slot_of n ≡ t → Right n (slot_of n) → Named n
    go (Some p) e r = let q = subst (Right n) e r in place p q.0 q.1 e q.2
    go None e r = no_place e (subst (Right n) e r)
