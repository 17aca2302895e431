-- Bytes that are at a place of a longer list: parts one after another, items of one width, numbers, and a table's fields.
-- Assumes nothing.
use Prim.Native.Nat.{ℕ, zero, suc, ◌+◌, ◌*◌, ◌^◌, ◌≤◌, ◌<◌}
use native.Mathlib.Nat.{mul-suc}
use native.Mathlib.Omega.{arith}
use mathlib.Core.Path.{◌≡◌, refl, sym, ap, ◌∙◌}
use mathlib.Core.List.{List, [], ◌∷◌, ◌++◌}
use lib.ListN.{length, get_or, take, drop, length-append, length-drop}
use lib.Seq.{length-take-le, take-append_seam, drop-append_seam, take-take, take-add, drop_at, drop-drop, get_or-take, get_or-drop}
use Rattle.codec.specs.Little.{little_bytes, little_number, number_at, Bytes}
use Rattle.codec.proofs.Laws.Little.{length-little_bytes, little_number-little_bytes, little_bytes-little_number}
use Rattle.image_lists.specs.Lists.{list_bytes, list_at}
use Rattle.image.specs.Table.{Field, table_bytes, Tiles}
use Rattle.image.proofs.Held.{HoldsField}

-- v is at the place
abbrev pub IsAt : List ℕ → List ℕ → ℕ → Type 0
IsAt v bytes at = take (length v) (drop at bytes) ≡ v

pub held_is : {bytes : List ℕ} {f : Field} → HoldsField bytes f → IsAt f.bytes bytes f.place
held_is {f = f} h =
    rw h.is
    (ap (take (length f.bytes)) (drop_at h.front (f.bytes ++ h.behind) f.place h.long) ∙ take-append_seam f.bytes h.behind)

pub byte_is : (v bytes : List ℕ) (at i : ℕ) → IsAt v bytes at → i < length v → get_or bytes (at + i) 0 ≡ get_or v i 0
byte_is v bytes at i h l =
    sym (get_or-drop at bytes i 0) ∙ sym (get_or-take (length v) (drop at bytes) i 0 l) ∙ ap (λ (w : List ℕ). get_or w i 0) h

-- ---- parts one after another

module _ (v w bytes : List ℕ) (at : ℕ) where
  parts : take (length (v ++ w)) (drop at bytes) ≡ take (length v) (drop at bytes) ++ take (length w) (drop (at + length v) bytes)
  parts = rw (length-append v w) (take-add (length v) (length w) (drop at bytes) ∙ rw (drop-drop (length v) at bytes))

  pub join : IsAt v bytes at → IsAt w bytes (at + length v) → IsAt (v ++ w) bytes at
  join h k = parts ∙ rw (h, k)

  pub front : IsAt (v ++ w) bytes at → IsAt v bytes at
  front h =
      let most : length v ≤ length (v ++ w) = omega (arith, length-append v w) in
      sym (take-take (length v) (length (v ++ w)) (drop at bytes) most) ∙ ap (take (length v)) h ∙ take-append_seam v w

  pub behind : IsAt (v ++ w) bytes at → IsAt w bytes (at + length v)
  behind h =
      let x = take (length w) (drop (at + length v) bytes) in
      let same : v ++ x ≡ v ++ w = ap (λ (l : List ℕ). l ++ x) (sym (front h)) ∙ sym parts ∙ h in
      sym (drop-append_seam v x) ∙ ap (drop (length v)) same ∙ drop-append_seam v w

-- ---- items of one width

module _ {A : Type 0} (write : A → List ℕ) (size : ℕ) (wide : (x : A) → length (write x) ≡ size) where
  pub item_is : (bytes : List ℕ) (d : A) (xs : List A) (at k : ℕ) → IsAt (list_bytes write xs) bytes at → k < length xs → IsAt (write (get_or xs k d)) bytes (at + size * k)
  unfolding list_bytes
  item_is bytes d [] at k h l = absurd (omega arith)
  item_is bytes d (x ∷ xs) at zero h l = let e : at + size * 0 ≡ at = omega arith in rw e (front (write x) (list_bytes write xs) bytes at h)
  item_is bytes d (x ∷ xs) at (suc k) h l =
      let e : at + size * suc k ≡ at + length (write x) + size * k = rw (mul-suc, wide x) (omega arith) in
      rw e (item_is bytes d xs (at + length (write x)) k (behind (write x) (list_bytes write xs) bytes at h) (omega arith))

  pub list_is : (read : List ℕ → ℕ → A) (bytes : List ℕ) (n at : ℕ) → ((i : ℕ) → i < n → IsAt (write (read bytes (at + size * i))) bytes (at + size * i))
      → IsAt (list_bytes write (list_at read size n bytes at)) bytes at
  unfolding list_bytes list_at
  list_is read bytes zero at h = refl
  list_is read bytes (suc n) at h =
      let e₀ : at + size * 0 ≡ at = omega arith in
      let x = read bytes at in
      let rest = list_at read size n bytes (at + size) in
      join (write x) (list_bytes write rest) bytes at (rw e₀ at (h 0 (omega arith)))
      (rw (wide x)
      (list_is read bytes n (at + size)
      (λ (i : ℕ) (l : i < n).
      let e : at + size + size * i ≡ at + size * suc i = rw mul-suc (omega arith) in
      rw e (h (suc i) (omega arith)))))

-- ---- numbers

bytes_taken : (k : ℕ) (bs : List ℕ) → Bytes bs → Bytes (take k bs)
bytes_taken zero bs h i = omega arith
bytes_taken (suc k) [] h i = omega arith
bytes_taken (suc k) (b ∷ bs) h zero = h 0
bytes_taken (suc k) (b ∷ bs) h (suc i) = bytes_taken k bs (λ (j : ℕ). h (suc j)) i

module _ (k : ℕ) (bytes : List ℕ) (at : ℕ) where
  pub number_is : Bytes bytes → at + k ≤ length bytes → IsAt (little_bytes k (number_at k bytes at)) bytes at
  number_is b room =
      let t = take k (drop at bytes) in
      let rest : k ≤ length (drop at bytes) = rw length-drop (omega arith) in
      let long : length t ≡ k = length-take-le k (drop at bytes) rest in
      let small : Bytes t = bytes_taken k (drop at bytes) (λ (i : ℕ). rw get_or-drop (b (at + i))) in
      rw (length-little_bytes k (little_number t)) (sym (rw long at (little_bytes-little_number t small)))

  -- of a number of some bytes that is at most 255, the low byte is all
  pub low_byte : number_at (suc k) bytes at ≤ 255 → number_at 1 bytes at ≡ number_at (suc k) bytes at
  unfolding little_number
  low_byte = by_cases (drop at bytes)
    where
      by_cases : (bs : List ℕ) → little_number (take (suc k) bs) ≤ 255 → little_number (take 1 bs) ≡ little_number (take (suc k) bs)
      by_cases [] h = refl
      by_cases (c ∷ bs) h = omega arith

  pub is_number : (n : ℕ) → n < 256 ^ k → IsAt (little_bytes k n) bytes at → number_at k bytes at ≡ n
  is_number n less h = ap little_number (rw (length-little_bytes k n) at h) ∙ little_number-little_bytes k n less

-- ---- a table

-- one proof more before the others, for chains of pairs
infixr 4 ◌also◌
pub ◌also◌ : {A B : Type 0} → A → B → A × B
a also b = (a, b)

abbrev pub AllAt : List ℕ → List Field → Type 0
AllAt bytes [] = Unit
AllAt bytes (f ∷ fs) = IsAt f.bytes bytes f.place × AllAt bytes fs

pub table_is : (n e : ℕ) (fs : List Field) (bytes : List ℕ) → Tiles n fs e → AllAt bytes fs → IsAt (table_bytes fs) bytes n
unfolding table_bytes
table_is n e [] bytes t h = refl
table_is n e (f ∷ fs) bytes t h =
    join f.bytes (table_bytes fs) bytes n (rw t.0 at h.0) (table_is (n + length f.bytes) e fs bytes t.1 h.1)
