-- Items of one width: the length of their bytes, and a turn of the loop that puts them one behind the other.
-- Assumes nothing.
use Prim.Native.Nat.{ℕ, ◌+◌, ◌*◌, ◌≤◌, ◌<◌}
use native.Mathlib.Nat.{mul-suc, mul-le-mul_left}
use native.Mathlib.Numerals.{add-one}
use native.Mathlib.Omega.{arith}
use mathlib.Core.Path.{◌≡◌, refl, sym, ap, ◌∙◌}
use mathlib.Core.List.{List, [], ◌∷◌, ◌++◌, append_assoc, append-nil}
use lib.ListN.{length, get_or, take, length-append}
use lib.Seq.{length-take-le, take-suc, take_all}
use Rattle.codec.specs.Put.{put}
use Rattle.codec.proofs.Put.{put-none, put-append}
use Rattle.image_lists.specs.Lists.{list_bytes}

pub list_bytes-append : {A : Type 0} (f : A → List ℕ) (xs ys : List A) → list_bytes f (xs ++ ys) ≡ list_bytes f xs ++ list_bytes f ys
unfolding list_bytes
list_bytes-append f [] ys = refl
list_bytes-append f (x ∷ xs) ys = rw (append_assoc, list_bytes-append f xs ys)

list_bytes-one : {A : Type 0} (f : A → List ℕ) (x : A) → list_bytes f (x ∷ []) ≡ f x
unfolding list_bytes
list_bytes-one f x = append-nil (f x)

module _ {A : Type 0} (f : A → List ℕ) (w : ℕ) (wide : (x : A) → length (f x) ≡ w) where
  pub length_list_bytes : (xs : List A) → length (list_bytes f xs) ≡ w * length xs
  unfolding list_bytes
  length_list_bytes [] = omega arith
  length_list_bytes (x ∷ xs) = rw (length-append, wide x, length_list_bytes xs, mul-suc) (omega arith)

  pub turn : (at i : ℕ) (xs : List A) (d : A) (m : List ℕ) → i < length xs → at + w * length xs ≤ length m
      → put (at + w * i) (f (get_or xs i d)) (put at (list_bytes f (take i xs)) m) ≡ put at (list_bytes f (take (i + 1) xs)) m
  turn at i xs d m h room =
      let front : length (list_bytes f (take i xs)) ≡ w * i = length_list_bytes (take i xs) ∙ ap (λ (n : ℕ). w * n) (length-take-le i xs (omega arith)) in
      let one : length (f (get_or xs i d)) ≡ w = wide (get_or xs i d) in
      let most : w * i + w ≤ w * length xs = rw mul-suc at (mul-le-mul_left w h) in
      let enough : at + (length (list_bytes f (take i xs)) + length (f (get_or xs i d))) ≤ length m = omega arith in
      let e : list_bytes f (take (i + 1) xs) ≡ list_bytes f (take i xs) ++ f (get_or xs i d) =
      rw (add-one, take-suc xs i d h, list_bytes-append f (take i xs) (get_or xs i d ∷ []), list_bytes-one f (get_or xs i d)) in
      rw (e, ← front) (sym (put-append at (list_bytes f (take i xs)) (f (get_or xs i d)) m enough))

-- what holds at the head of a loop that puts n items of xs from `at` on, when i of them stand
pub record Stands {A : Type 0} (f : A → List ℕ) (n at : ℕ) (xs : List A) (m dst : List ℕ) (i : ℕ) : Type 0 where
  pub most : i ≤ n
  pub count : length xs ≡ n
  pub same : length dst ≡ length m
  pub is : dst ≡ put at (list_bytes f (take i xs)) m

module _ {A : Type 0} (f : A → List ℕ) (n at : ℕ) (xs : List A) (m : List ℕ) where
  pub begins : length xs ≡ n → Stands f n at xs m m 0
  unfolding list_bytes
  begins e = record { most = omega arith; count = e; same = refl; is = sym (put-none at m) }

  pub goes_on : (w : ℕ) (wide : (x : A) → length (f x) ≡ w) (i : ℕ) (d : A) (dst dst' : List ℕ) → at + w * n ≤ length m → Stands f n at xs m dst i → i < n
      → length dst' ≡ length dst → dst' ≡ put (at + w * i) (f (get_or xs i d)) dst → Stands f n at xs m dst' (i + 1)
  goes_on w wide i d dst dst' room s h l e =
      record {
        most = omega arith;
        count = s.count;
        same = l ∙ s.same;
        is = rw (e, s.is) (turn f w wide at i xs d m (rw s.count h) (rw s.count room));
      }

  pub ends : (i : ℕ) (dst : List ℕ) → n ≤ i → Stands f n at xs m dst i → dst ≡ put at (list_bytes f xs) m
  ends i dst h s = rw (← take_all i xs (rw s.count h)) s.is
