-- What `put` leaves: its length, a run of stores, two parts one after the other, and what is read where it wrote, before and behind, as parts and at each index.
-- Assumes nothing.
use Prim.Native.Nat.{ℕ, zero, suc, ◌+◌, ◌-◌, ◌≤◌, ◌<◌}
use native.Mathlib.Nat.{zero-add, suc-add, add_assoc}
use native.Mathlib.Omega.{arith}
use mathlib.Core.Path.{◌≡◌, refl, sym, ap, ◌∙◌}
use mathlib.Core.Logic.{◌⊎◌, ⊎_elim}
use mathlib.Core.List.{List, [], ◌∷◌, ◌++◌, append_assoc, append-nil, flatten}
use lib.ListN.{length, take, drop, set, get_or, length-append, length-drop, drop_of_length-le, take-append-drop, get_or-append}
use lib.Seq.{sets, sets-eq, get_or-append-add, get_or-take, get_or-drop, length-take-le, take-append-le, take-take, take-nil, take_at, drop-nil, drop_at, drop-drop}
use Rattle.codec.specs.Put.{put}

pub take-drop : {A : Type 0} (k n : ℕ) (l : List A) → take k (drop n l) ≡ drop n (take (n + k) l)
take-drop k zero l = rw zero-add
take-drop k (suc n) [] = simp (take-nil, drop-nil)
take-drop k (suc n) (x ∷ l) = rw suc-add (take-drop k n l)

-- stores one after the other
pub put_sets : {A : Type 0} (at : ℕ) (vs m : List A) → at + length vs ≤ length m → sets m at vs ≡ put at vs m
unfolding put
put_sets at vs m h = sets-eq vs m at h ∙ simp (append_assoc, ← drop-drop)

pub one_store : (at : ℕ) (m : List ℕ) (a : ℕ) → at + 1 ≤ length m → set m at a ≡ put at (a ∷ []) m
one_store at m a h = put_sets at (a ∷ []) m h

pub put-none : {A : Type 0} (at : ℕ) (m : List A) → put at [] m ≡ m
unfolding put
put-none at m = take-append-drop at m

-- position i is none of the n from `at` on
abbrev pub Outside : ℕ → ℕ → ℕ → Type 0
Outside at n i = (i < at) ⊎ (at + n ≤ i)

module _ {A : Type 0} (at : ℕ) (vs m : List A) (room : at + length vs ≤ length m) where
  head_length : length (take at m) ≡ at
  head_length = length-take-le at m (omega arith)

  pub length-put : length (put at vs m) ≡ length m
  unfolding put
  length-put = simp (length-append, length-drop, head_length) (omega arith)

  -- what was put, and the rest behind it
  pub drop-put : drop at (put at vs m) ≡ vs ++ drop (length vs) (drop at m)
  unfolding put
  drop-put = drop_at (take at m) (vs ++ drop (length vs) (drop at m)) at head_length

  pub read_put : take (length vs) (drop at (put at vs m)) ≡ vs
  read_put = rw drop-put (take_at vs (drop (length vs) (drop at m)) (length vs) refl)

  before : (n : ℕ) → n ≤ at → take n (put at vs m) ≡ take n m
  unfolding put
  before n h = take-append-le n (take at m) (vs ++ drop (length vs) (drop at m)) (rw head_length h) ∙ take-take n at m h

  -- the k elements from n on, all of them before what was put
  pub read_before : (k n : ℕ) → n + k ≤ at → take k (drop n (put at vs m)) ≡ take k (drop n m)
  read_before k n h =
      take-drop k n (put at vs m) ∙ ap (λ (l : List A). drop n l) (before (n + k) h) ∙ sym (take-drop k n m)

  take_seam : take (at + length vs) (put at vs m) ≡ take at m ++ vs
  unfolding put
  take_seam =
      let long : length (take at m ++ vs) ≡ at + length vs = simp (length-append, head_length) in
      rw (← append_assoc) (take_at (take at m ++ vs) (drop (length vs) (drop at m)) (at + length vs) long)

  drop_seam : drop (at + length vs) (put at vs m) ≡ drop (at + length vs) m
  drop_seam =
      sym (drop-drop (length vs) at (put at vs m))
      ∙ ap (λ (l : List A). drop (length vs) l) drop-put
      ∙ drop_at vs (drop (length vs) (drop at m)) (length vs) refl
      ∙ drop-drop (length vs) at m

  pub drop_behind : (n : ℕ) → at + length vs ≤ n → drop n (put at vs m) ≡ drop n m
  drop_behind n h =
      let s : ℕ = at + length vs in
      let t : ℕ = n - s in
      let e : n ≡ s + t = omega arith in
      ap (λ (k : ℕ). drop k (put at vs m)) e
      ∙ sym (drop-drop t s (put at vs m))
      ∙ ap (λ (l : List A). drop t l) drop_seam
      ∙ drop-drop t s m
      ∙ ap (λ (k : ℕ). drop k m) (sym e)

  module _ (d : A) where
    from_there : (j : ℕ) → get_or (put at vs m) (at + j) d ≡ get_or (vs ++ drop (length vs) (drop at m)) j d
    from_there j = sym (get_or-drop at (put at vs m) j d) ∙ ap (λ (l : List A). get_or l j d) drop-put

    pub get_d_put : (j : ℕ) → j < length vs → get_or (put at vs m) (at + j) d ≡ get_or vs j d
    get_d_put j h = from_there j ∙ get_or-append vs (drop (length vs) (drop at m)) d j h

    get_d_before : (i : ℕ) → i < at → get_or (put at vs m) i d ≡ get_or m i d
    unfolding put
    get_d_before i h =
        get_or-append (take at m) (vs ++ drop (length vs) (drop at m)) d i (rw head_length h) ∙ get_or-take at m i d h

    get_d_behind : (i : ℕ) → at + length vs ≤ i → get_or (put at vs m) i d ≡ get_or m i d
    get_d_behind i h =
        let t : ℕ = i - (at + length vs) in
        let e : i ≡ at + (length vs + t) = omega arith in
        ap (λ (n : ℕ). get_or (put at vs m) n d) e
        ∙ from_there (length vs + t)
        ∙ get_or-append-add vs (drop (length vs) (drop at m)) t d
        ∙ get_or-drop (length vs) (drop at m) t d
        ∙ get_or-drop at m (length vs + t) d
        ∙ ap (λ (n : ℕ). get_or m n d) (sym e)

    pub get_d_outside : (i : ℕ) → Outside at (length vs) i → get_or (put at vs m) i d ≡ get_or m i d
    get_d_outside i o = ⊎_elim (get_d_before i) (get_d_behind i) o

pub put-append : {A : Type 0} (at : ℕ) (vs ws m : List A) → at + (length vs + length ws) ≤ length m → put at (vs ++ ws) m ≡ put (at + length vs) ws (put at vs m)
unfolding put
put-append at vs ws m h =
    let room : at + length vs ≤ length m = omega arith in
    rw (take_seam at vs m room, drop_seam at vs m room) (simp (length-append, drop-drop, append_assoc, add_assoc))

-- parts one after the other, the first of them o behind `at`
abbrev pub puts : {A : Type 0} → ℕ → ℕ → List (List A) → List A → List A
puts at o [] m = m
puts at o (v ∷ vs) m = puts at (o + length v) vs (put (at + o) v m)

pub puts_are : {A : Type 0} (at o : ℕ) (ws : List A) (vs : List (List A)) (m : List A) → length ws ≡ o → at + (o + length (flatten vs)) ≤ length m
    → puts at o vs (put at ws m) ≡ put at (ws ++ flatten vs) m
unfolding flatten
puts_are at o ws [] m e h = rw append-nil
puts_are at o ws (v ∷ vs) m e h =
    let room : at + (length ws + length v) ≤ length m = omega (arith, length-append v (flatten vs)) in
    let joined : put (at + o) v (put at ws m) ≡ put at (ws ++ v) m = rw (← e) (sym (put-append at ws v m room)) in
    let long : length (ws ++ v) ≡ o + length v = length-append ws v ∙ ap (λ (k : ℕ). k + length v) e in
    let more : at + (o + length v + length (flatten vs)) ≤ length m = omega (arith, length-append v (flatten vs)) in
    rw (joined, ← append_assoc) (puts_are at (o + length v) (ws ++ v) vs m long more)

pub put_whole : {A : Type 0} (vs m : List A) → length m ≡ length vs → put 0 vs m ≡ vs
unfolding put
put_whole vs m h = rw (drop_of_length-le m {i = length vs} (omega arith)) (append-nil vs)

-- a part has its length
pub part_length : {A : Type 0} (a n : ℕ) (m : List A) → a + n ≤ length m → length (take n (drop a m)) ≡ n
part_length a n m room = length-take-le n (drop a m) (rw length-drop (omega arith))

-- a part that was lent and written whole is put back
pub put_back : {A : Type 0} (m : List A) {a at n : ℕ} {ys vs : List A} → a ≡ at → ys ≡ vs → length vs ≡ n → take a m ++ (ys ++ drop n (drop a m)) ≡ put at vs m
unfolding put
put_back m p q l = rw (p, q, ← l)
