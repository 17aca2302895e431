-- The list of items that bytes hold: its length, its entries, what comes back of a list's own bytes, and a turn of the loop that reads it.
-- Assumes nothing.
use Prim.Native.Nat.{ℕ, zero, suc, ◌+◌, ◌*◌, ◌≤◌, ◌<◌}
use native.Mathlib.Nat.{add_assoc, mul-suc, zero-add}
use native.Mathlib.Omega.{arith}
use mathlib.Core.Path.{◌≡◌, refl, sym, ap, subst, ◌∙◌}
use mathlib.Core.List.{List, [], ◌∷◌, ◌++◌, append_assoc}
use lib.ListN.{length, get_or, take}
use denote.Param.Members.{Mut}
use Rattle.std.specs.Array.{IsFromFnResultFrom}
use Rattle.std.specs.Fn.{Called}
use Rattle.codec.proofs.Inside.{Skips, Starts, inside}
use Rattle.image_lists.specs.Lists.{list_bytes, list_at}

module _ {A : Type 0} (read : List ℕ → ℕ → A) (size : ℕ) where
  pub length_list_at : (n : ℕ) (bytes : List ℕ) (at : ℕ) → length (list_at read size n bytes at) ≡ n
  unfolding list_at
  length_list_at zero bytes at = refl
  length_list_at (suc n) bytes at = ap suc (length_list_at n bytes (at + size))

  further : (at i : ℕ) → at + size + size * i ≡ at + size * suc i
  further at i = rw mul-suc (omega arith)

  -- entry i is the item at its place
  pub get_d_list_at : (n : ℕ) (bytes : List ℕ) (at i : ℕ) (d : A) → i < n → get_or (list_at read size n bytes at) i d ≡ read bytes (at + size * i)
  unfolding list_at
  get_d_list_at zero bytes at i d h = absurd (omega arith)
  get_d_list_at (suc n) bytes at zero d h = let e : at + size * 0 ≡ at = omega arith in rw e
  get_d_list_at (suc n) bytes at (suc i) d h =
      get_d_list_at n bytes (at + size) i d (omega arith) ∙ ap (read bytes) (further at i)

  -- one item more stands behind
  list_at_more : (n : ℕ) (bytes : List ℕ) (at : ℕ) → list_at read size (suc n) bytes at ≡ list_at read size n bytes at ++ (read bytes (at + size * n) ∷ [])
  unfolding list_at
  list_at_more zero bytes at = let e : at + size * 0 ≡ at = omega arith in rw e
  list_at_more (suc n) bytes at =
      ap (λ (l : List A). read bytes at ∷ l) (list_at_more n bytes (at + size) ∙ rw (further at n))

  -- the first k of n items
  pub take_list_at : (k n : ℕ) (bytes : List ℕ) (at : ℕ) → k ≤ n → take k (list_at read size n bytes at) ≡ list_at read size k bytes at
  unfolding list_at
  take_list_at zero n bytes at h = refl
  take_list_at (suc k) zero bytes at h = absurd (omega arith)
  take_list_at (suc k) (suc n) bytes at h =
      ap (λ (l : List A). read bytes at ∷ l) (take_list_at k n bytes (at + size) (omega arith))

  pub list_at_skips : Skips read → (n : ℕ) → Skips (list_at read size n)
  unfolding list_at
  list_at_skips skips zero p q at = refl
  list_at_skips skips (suc n) p q at = rw (skips p q at, add_assoc, list_at_skips skips n p q (at + size))

  -- the items come back where each does
  pub list_at_starts : Skips read → (write : A → List ℕ) (wide : (x : A) → length (write x) ≡ size) (d : A) (xs : List A)
      → ((i : ℕ) → i < length xs → Starts read (write (get_or xs i d)) (get_or xs i d)) → Starts (list_at read size (length xs)) (list_bytes write xs) xs
  unfolding list_at list_bytes
  list_at_starts skips write wide d [] back rest = refl
  list_at_starts skips write wide d (x ∷ xs) back rest =
      let behind : list_at read size (length xs) (write x ++ (list_bytes write xs ++ rest)) size ≡ xs =
      inside (list_at read size (length xs)) (list_at_skips skips (length xs)) (list_bytes write xs) xs
      (list_at_starts skips write wide d xs (λ (i : ℕ) (h : i < length xs). back (suc i) (omega arith))) (write x) rest size (wide x) in
      rw (append_assoc, zero-add, back 0 (omega arith) (list_bytes write xs ++ rest), behind)

  -- and so they do inside a longer list
  pub list_at_inside : Skips read → (write : A → List ℕ) (xs : List A) → Starts (list_at read size (length xs)) (list_bytes write xs) xs
      → (pre post : List ℕ) (at : ℕ) → length pre ≡ at → list_at read size (length xs) (pre ++ (list_bytes write xs ++ post)) at ≡ xs
  list_at_inside skips write xs starts = inside (list_at read size (length xs)) (list_at_skips skips (length xs)) (list_bytes write xs) xs starts

  -- a list whose entry i is the item at its place, for each i
  pub made : (n : ℕ) (bytes : List ℕ) (at : ℕ) (xs : List A) → length xs ≡ n → ((i : ℕ) (d : A) → i < n → get_or xs i d ≡ read bytes (at + size * i))
      → xs ≡ list_at read size n bytes at
  unfolding list_at
  made zero bytes at [] l h = refl
  made zero bytes at (x ∷ xs) l h = absurd (omega arith)
  made (suc n) bytes at [] l h = absurd (omega arith)
  made (suc n) bytes at (x ∷ xs) l h =
      let e : at + size * 0 ≡ at = omega arith in
      let first : x ≡ read bytes at = rw e at (h 0 x (omega arith)) in
      let rest : xs ≡ list_at read size n bytes (at + size) =
      made n bytes (at + size) xs (omega arith) (λ (i : ℕ) (d : A) (m : i < n). h (suc i) d (omega arith) ∙ ap (read bytes) (sym (further at i))) in
      rw (← first, ← rest)

-- what `from_fn` makes, where each call leaves the closure as it was and gives `item` of its number
module _ {F A : Type 0} (g : Mut F (ℕ × Unit {0}) A) (f : F) (item : ℕ → A) (calls : (i : ℕ) (y : A) (q : F) → Called g f (i, tt) y q → (q ≡ f) × (y ≡ item i)) where
  from_each : (n i k : ℕ) (ys : List A) (p : F) (d : A) → p ≡ f → IsFromFnResultFrom g p ys i n → k < n → get_or ys (i + k) d ≡ item (i + k)
  from_each zero i k ys p d e h l = absurd (omega arith)
  from_each (suc n) i zero ys p d e h l =
      let first : h.1 ≡ item i = (calls i h.1 h.0 (subst (λ (z : F). Called g z (i, tt) h.1 h.0) e h.3)).1 in
      let at : i + 0 ≡ i = omega arith in
      rw at (h.2.1 d ∙ first)
  from_each (suc n) i (suc k) ys p d e h l =
      let same : h.0 ≡ f = (calls i h.1 h.0 (subst (λ (z : F). Called g z (i, tt) h.1 h.0) e h.3)).0 in
      let at : i + suc k ≡ i + 1 + k = omega arith in
      rw at (from_each n (i + 1) k ys h.0 d same h.4 (omega arith))

  pub made_by : (n : ℕ) (ys : List A) → IsFromFnResultFrom g f ys 0 n → (i : ℕ) (d : A) → i < n → get_or ys i d ≡ item i
  made_by n ys h i d l = rw zero-add at (from_each n 0 i ys f d refl h l)
