-- How a loop decides whether n entries ascend: what is left of them is to ascend from one above the index before.
-- Assumes nothing.
use Prim.Native.Nat.{ℕ, suc, ◌+◌, ◌-◌, ◌*◌, ◌≤◌, ◌<◌}
use native.Mathlib.Nat.{sub-zero}
use native.Mathlib.Numerals.{add-one}
use native.Mathlib.Omega.{arith}
use mathlib.Core.Path.{◌≡◌, sym, ◌∙◌}
use mathlib.Core.Bool.{true, false}
use mathlib.Core.List.{List}
use borrow.Author.Tests.{le-leb, lt-leb}
use Rattle.codec.specs.Little.{number_at}
use Rattle.light_table.specs.Overflow.{ascending}
use Rattle.codec.specs.Entry.{entry_at}
use Rattle.image_lists.specs.Lists.{list_at}
use Rattle.image_reasons.specs.Tests.{ascends}

module _ (bytes : List ℕ) (from m at : ℕ) where
  one_more : from ≤ number_at 4 bytes at
      → ascending from (list_at entry_at 112 (suc m) bytes at) ≡ ascending (suc (number_at 4 bytes at)) (list_at entry_at 112 m bytes (at + 112))
  unfolding ascending list_at entry_at
  one_more h = rw (le-leb from (number_at 4 bytes at) h)

  too_low : number_at 4 bytes at < from → ascending from (list_at entry_at 112 (suc m) bytes at) ≡ false
  unfolding ascending list_at entry_at
  too_low h = rw (lt-leb from (number_at 4 bytes at) h)

-- what holds at the head of the loop, when i entries are passed
pub record Ascends (n : ℕ) (bytes : List ℕ) (at from i : ℕ) : Type 0 where
  pub most : i ≤ n
  pub is : ascending from (list_at entry_at 112 (n - i) bytes (at + 112 * i)) ≡ ascends n bytes at

module _ (n : ℕ) (bytes : List ℕ) (at : ℕ) where
  pub begins : (from : ℕ) → ascending from (list_at entry_at 112 n bytes at) ≡ ascends n bytes at → Ascends n bytes at from 0
  begins from h = record { most = omega arith; is = let e : at + 112 * 0 ≡ at = omega arith in rw (sub-zero, e) h }

  module _ (from i index : ℕ) (left : i < n) (read : index ≡ number_at 4 bytes (at + 112 * i)) (f : Ascends n bytes at from i) where
    one_left : n - i ≡ suc (n - (i + 1))
    one_left = omega arith

    pub goes_on : from ≤ index → Ascends n bytes at (index + 1) (i + 1)
    goes_on h =
        let e : at + 112 * i + 112 ≡ at + 112 * (i + 1) = omega arith in
        let here : ascending from (list_at entry_at 112 (n - i) bytes (at + 112 * i)) ≡ ascending (index + 1) (list_at entry_at 112 (n - (i + 1)) bytes (at + 112 * (i + 1))) =
        rw (one_left, ← e, add-one index, read) (one_more bytes from (n - (i + 1)) (at + 112 * i) (rw (← read) h)) in
        record { most = omega arith; is = sym here ∙ f.is }

    pub stops : index < from → false ≡ ascends n bytes at
    stops h = sym (rw one_left (too_low bytes from (n - (i + 1)) (at + 112 * i) (rw (← read) h))) ∙ f.is

  pub ends : (from i : ℕ) → n ≤ i → Ascends n bytes at from i → true ≡ ascends n bytes at
  unfolding ascending list_at
  ends from i h f = let e : n - i ≡ 0 = omega arith in rw e at f.is
