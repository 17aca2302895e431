-- A loop that writes items of w rows each, one behind the other, into a destination of just their length.
use Prim.Native.Nat.{ℕ, ◌+◌, ◌*◌, ◌≤◌, ◌<◌}
use native.Mathlib.Nat.{zero-add, mul-suc, mul_assoc}
use native.Mathlib.Numerals.{add-one}
use native.Mathlib.Omega.{arith}
use mathlib.Core.Path.{◌≡◌, refl, sym, ap, ◌∙◌}
use mathlib.Core.List.{List, [], ◌∷◌, ◌++◌}
use lib.Ieee.{Float}
use lib.ListN.{length, get_or, take}
use lib.Seq.{sets, length-sets, length-take-le, take-suc}
use Rattle.std.proofs.lemmas.List.{take_all}
use Rattle.d3d9_types.specs.declared.matrix.Row.{Row}
use Rattle.rows.specs.Rows.{floats, rows_of}
use Rattle.rows.proofs.Stores.{sets_append, sets_whole}
use Rattle.rows.proofs.Floats.{floats-append, length-floats, rows_of_append, rows_of_one, length_rows_of}

-- what holds at the head of the loop when i of the first n items stand, and the next goes to `at`; m is the destination as it was
pub record Standing {A : Type 0} (f : A → List Row) (w n : ℕ) (xs : List A) (m dst : List Float) (i at : ℕ) : Type 0 where
  pub most : i ≤ n
  pub enough : n ≤ length xs
  pub next : at ≡ 4 * w * i
  pub room : length m ≡ 4 * w * n
  pub same : length dst ≡ length m
  pub is : dst ≡ sets m 0 (floats (rows_of f (take i xs)))

module _ {A : Type 0} (f : A → List Row) (w : ℕ) (wide : (x : A) → length (f x) ≡ w) where
  items_length : (xs : List A) → length (floats (rows_of f xs)) ≡ 4 * w * length xs
  items_length xs = length-floats (rows_of f xs) ∙ ap (λ (n : ℕ). 4 * n) (length_rows_of f w wide xs) ∙ sym (mul_assoc 4 w (length xs))

  module _ (n : ℕ) (xs : List A) (m : List Float) where
    pub begins : n ≤ length xs → length m ≡ 4 * w * n → Standing f w n xs m m 0 0
    unfolding floats rows_of
    begins h e = record { most = omega arith; enough = h; next = omega arith; room = e; same = refl; is = refl }

    pub goes_on : (d : A) (i at : ℕ) (dst dst' : List Float) → Standing f w n xs m dst i at → i < n
        → dst' ≡ sets dst at (floats (f (get_or xs i d))) → Standing f w n xs m dst' (i + 1) (at + 4 * w)
    goes_on d i at dst dst' s h e =
        let front : List Float = floats (rows_of f (take i xs)) in
        let stood : length front ≡ 4 * w * i = items_length (take i xs) ∙ ap (λ (k : ℕ). 4 * w * k) (length-take-le i xs (omega (arith, s.most, s.enough))) in
        let one : rows_of f (take (i + 1) xs) ≡ rows_of f (take i xs) ++ f (get_or xs i d) =
        rw (add-one, take-suc xs i d (omega (arith, s.enough)), rows_of_append f (take i xs) (get_or xs i d ∷ []), rows_of_one f (get_or xs i d)) in
        let more : floats (rows_of f (take (i + 1) xs)) ≡ front ++ floats (f (get_or xs i d)) = rw one (floats-append (rows_of f (take i xs)) (f (get_or xs i d))) in
        record {
          most = omega arith;
          enough = s.enough;
          next = rw (s.next, add-one, mul-suc) (omega arith);
          room = s.room;
          same = rw e (length-sets dst at (floats (f (get_or xs i d)))) ∙ s.same;
          is =
              rw (more, e, s.next, s.is, ← stood)
              (sym (rw zero-add at (sets_append m 0 front (floats (f (get_or xs i d))))));
        }

    pub ends : (i at : ℕ) (dst : List Float) → n ≤ i → Standing f w n xs m dst i at → dst ≡ floats (rows_of f (take n xs))
    ends i at dst h s =
        let e : i ≡ n = omega (arith, s.most) in
        let whole : length m ≡ length (floats (rows_of f (take n xs))) =
        s.room ∙ sym (items_length (take n xs) ∙ ap (λ (k : ℕ). 4 * w * k) (length-take-le n xs s.enough)) in
        rw (s.is, e) (sets_whole (floats (rows_of f (take n xs))) m whole)

  -- all of them
  pub ends_all : (xs : List A) (m : List Float) (i at : ℕ) (dst : List Float) → length xs ≤ i → Standing f w (length xs) xs m dst i at → dst ≡ floats (rows_of f xs)
  ends_all xs m i at dst h s =
      ends (length xs) xs m i at dst h s ∙ ap (λ (ys : List A). floats (rows_of f ys)) (take_all (length xs) xs (omega arith))
