-- What `all` and `fold` answer over a list, a range and a list's chunks, as a test of every number below a bound.
-- Assumes nothing.
use Prim.Native.Nat.{ℕ, zero, suc, ◌+◌, ◌-◌, ◌*◌, ◌/◌, ◌≤◌, ◌<◌}
use native.Mathlib.Nat.{mul-suc, zero-add}
use native.Mathlib.Omega.{arith}
use mathlib.Core.Path.{◌≡◌, refl, sym, ap, ap₂, ◌∙◌}
use mathlib.Core.Bool.{Bool, true, false, ◌&&◌, ◌||◌}
use mathlib.Core.List.{List, [], ◌∷◌, ◌++◌}
use lib.Dec.{eqb}
use lib.ListN.{length, get_or, take, drop}
use lib.Seq.{drop-drop, take-take, get_or-take, get_or-drop}
use lib.Pointwise.{pointwise}
use Rattle.std.specs.List.{list_all, range_with_len, zip}
use Rattle.std.specs.Simd.{first_chunks}
use Rattle.d3d9_types.specs.Light.{default_light}
use Rattle.words.specs.Bits.{has_bit}
use Rattle.codec.proofs.Put.{take-drop, part_length}
use Rattle.codec.proofs.Laws.Light.{length-light_bytes}
use Rattle.codec.specs.Light.{light_bytes}
use Rattle.codec.specs.Little.{number_at, little_number}
use Rattle.codec.specs.Entry.{entry_at}
use Rattle.light_table.specs.Overflow.{ascending}
use Rattle.image_lists.specs.Lists.{list_at}
use Rattle.image_reasons.specs.Every.{every_below}
use Rattle.image_reasons.specs.Tests.{plain_record, plain_word, plain_at, nan_free, ascends, zeros, zero_byte, flags, flag_at, bits_defined, bit_defined, default_at, same_bytes, same_byte, slot_default, slots_default}

swap : (b : Bool) → (true && b) ≡ (b && true)
swap true = refl
swap false = refl

assoc : (a b c : Bool) → ((a && b) && c) ≡ (a && (b && c))
assoc true b c = refl
assoc false b c = refl

-- the first number apart
every_first : (p : ℕ → Bool) (n : ℕ) → every_below (suc n) p ≡ (p 0 && every_below n (λ i. p (suc i)))
unfolding every_below
every_first p zero = swap (p 0)
every_first p (suc n) = ap (λ (b : Bool). b && p (suc n)) (every_first p n) ∙ assoc (p 0) (every_below n (λ i. p (suc i))) (p (suc n))

pub every_same : (p q : ℕ → Bool) (n : ℕ) → ((k : ℕ) → k < n → p k ≡ q k) → every_below n p ≡ every_below n q
unfolding every_below
every_same p q zero h = refl
every_same p q (suc n) h = rw (every_same p q n (λ (k : ℕ) (l : k < n). h k (omega arith)), h n (omega arith))

-- a turn of a fold that keeps whether all passed
pub all_more : {A : Type 0} (t : A → Bool) (xs : List A) (x : A) → list_all t (xs ++ (x ∷ [])) ≡ (list_all t xs && t x)
all_more t [] x = sym (swap (t x))
all_more t (y ∷ xs) x = ap (λ (b : Bool). t y && b) (all_more t xs x) ∙ sym (assoc (t y) (list_all t xs) (t x))

all_of_list : (t : ℕ → Bool) (xs : List ℕ) → list_all t xs ≡ every_below (length xs) (λ k. t (get_or xs k 0))
unfolding every_below
all_of_list t [] = refl
all_of_list t (x ∷ xs) = ap (λ (b : Bool). t x && b) (all_of_list t xs) ∙ sym (every_first (λ k. t (get_or (x ∷ xs) k 0)) (length xs))

all_of_range : (t : ℕ → Bool) (a n : ℕ) → list_all t (range_with_len a n) ≡ every_below n (λ i. t (a + i))
unfolding every_below
all_of_range t a zero = refl
all_of_range t a (suc n) =
    let here : a + 0 ≡ a = omega arith in
    let rest : every_below n (λ i. t (a + 1 + i)) ≡ every_below n (λ i. t (a + suc i)) =
    every_same (λ i. t (a + 1 + i)) (λ i. t (a + suc i)) n (λ (i : ℕ) (l : i < n). let e : a + 1 + i ≡ a + suc i = omega arith in ap t e) in
    ap (λ (b : Bool). t a && b) (all_of_range t (a + 1) n ∙ rest)
    ∙ ap (λ (k : ℕ). t k && every_below n (λ i. t (a + suc i))) (sym here)
    ∙ sym (every_first (λ i. t (a + i)) n)

all_of_chunks : (t : List ℕ → Bool) (size k : ℕ) (xs : List ℕ) → list_all t (first_chunks size k xs) ≡ every_below k (λ i. t (take size (drop (size * i) xs)))
unfolding every_below
all_of_chunks t size zero xs = refl
all_of_chunks t size (suc k) xs =
    let here : size * 0 ≡ 0 = omega arith in
    let rest : every_below k (λ i. t (take size (drop (size * i) (drop size xs)))) ≡ every_below k (λ i. t (take size (drop (size * suc i) xs))) =
    every_same (λ i. t (take size (drop (size * i) (drop size xs)))) (λ i. t (take size (drop (size * suc i) xs))) k
    (λ (i : ℕ) (l : i < k).
    let e : size + size * i ≡ size * suc i = omega (arith, mul-suc size i) in
    ap (λ (ys : List ℕ). t (take size ys)) (drop-drop (size * i) size xs ∙ ap (λ (n : ℕ). drop n xs) e)) in
    ap (λ (b : Bool). t (take size xs) && b) (all_of_chunks t size k (drop size xs) ∙ rest)
    ∙ ap (λ (n : ℕ). t (take size (drop n xs)) && every_below k (λ i. t (take size (drop (size * suc i) xs)))) (sym here)
    ∙ sym (every_first (λ i. t (take size (drop (size * i) xs))) k)

all_of_zip : (t : ℕ × List ℕ → Bool) (size a k : ℕ) (xs : List ℕ)
    → list_all t (zip (range_with_len a k) (first_chunks size k xs)) ≡ every_below k (λ i. t (a + i, take size (drop (size * i) xs)))
unfolding every_below
all_of_zip t size a zero xs = refl
all_of_zip t size a (suc k) xs =
    let from : a + 0 ≡ a = omega arith in
    let here : size * 0 ≡ 0 = omega arith in
    let rest : every_below k (λ i. t (a + 1 + i, take size (drop (size * i) (drop size xs)))) ≡ every_below k (λ i. t (a + suc i, take size (drop (size * suc i) xs))) =
    every_same (λ i. t (a + 1 + i, take size (drop (size * i) (drop size xs)))) (λ i. t (a + suc i, take size (drop (size * suc i) xs))) k
    (λ (i : ℕ) (l : i < k).
    let e : size + size * i ≡ size * suc i = omega (arith, mul-suc size i) in
    let f : a + 1 + i ≡ a + suc i = omega arith in
    let g : drop (size * i) (drop size xs) ≡ drop (size * suc i) xs = drop-drop (size * i) size xs ∙ ap (λ (n : ℕ). drop n xs) e in
    rw (f, g)) in
    ap (λ (b : Bool). t (a, take size xs) && b) (all_of_zip t size (a + 1) k (drop size xs) ∙ rest)
    ∙ ap₂ (λ (m n : ℕ). t (m, take size (drop n xs)) && every_below k (λ i. t (a + suc i, take size (drop (size * suc i) xs)))) (sym from) (sym here)
    ∙ sym (every_first (λ i. t (a + i, take size (drop (size * i) xs))) k)

chunk_at : (n k i : ℕ) (xs : List ℕ) → i < k → get_or (first_chunks n k xs) i [] ≡ take n (drop (n * i) xs)
chunk_at n zero i xs h = absurd (omega arith)
chunk_at n (suc k) zero xs h = let e : n * 0 ≡ 0 = omega arith in rw e
chunk_at n (suc k) (suc i) xs h =
    let e : n + n * i ≡ n * suc i = omega (arith, mul-suc n i) in
    chunk_at n k i (drop n xs) (omega arith) ∙ ap (λ (ys : List ℕ). take n ys) (drop-drop (n * i) n xs ∙ ap (λ (j : ℕ). drop j xs) e)

-- a part of a part, and what stands there
part_of_part : {A : Type 0} (n m a b : ℕ) (s : List A) → b + n ≤ m → take n (drop b (take m (drop a s))) ≡ take n (drop (a + b) s)
part_of_part {A} n m a b s h =
    take-drop n b (take m (drop a s))
    ∙ ap (λ (l : List A). drop b l) (take-take (b + n) m (drop a s) h)
    ∙ sym (take-drop n b (drop a s))
    ∙ ap (λ (l : List A). take n l) (drop-drop b a s)

number_in_part : (m a j : ℕ) (s : List ℕ) → j + 4 ≤ m → number_at 4 (take m (drop a s)) j ≡ number_at 4 s (a + j)
number_in_part m a j s h = ap little_number (part_of_part 4 m a j s h)

-- the index of entry i of some entries
pub index_in_chunk : (k i : ℕ) (bs : List ℕ) → i < k → number_at 4 (get_or (first_chunks 112 k bs) i []) 0 ≡ number_at 4 bs (0 + 112 * i)
index_in_chunk k i bs l =
    let e : 112 * i + 0 ≡ 0 + 112 * i = omega arith in
    ap (λ (c : List ℕ). number_at 4 c 0) (chunk_at 112 k i bs l) ∙ number_in_part 112 (112 * i) 0 bs (omega arith) ∙ ap (number_at 4 bs) e

ascending_in_part : (n from m a j : ℕ) (s : List ℕ) → j + 112 * n ≤ m
    → ascending from (list_at entry_at 112 n (take m (drop a s)) j) ≡ ascending from (list_at entry_at 112 n s (a + j))
unfolding ascending list_at entry_at
ascending_in_part zero from m a j s h = refl
ascending_in_part (suc n) from m a j s h =
    let here : number_at 4 (take m (drop a s)) j ≡ number_at 4 s (a + j) = number_in_part m a j s (omega arith) in
    let e : a + (j + 112) ≡ a + j + 112 = omega arith in
    let rest : ascending (suc (number_at 4 s (a + j))) (list_at entry_at 112 n (take m (drop a s)) (j + 112)) ≡ ascending (suc (number_at 4 s (a + j))) (list_at entry_at 112 n s (a + j + 112)) =
    ascending_in_part n (suc (number_at 4 s (a + j))) m a (j + 112) s (omega arith) ∙ ap (λ (i : ℕ). ascending (suc (number_at 4 s (a + j))) (list_at entry_at 112 n s i)) e in
    rw (here, rest)

pub ascends_in_part : (n m a : ℕ) (s : List ℕ) → 112 * n ≤ m → ascends n (take m (drop a s)) 0 ≡ ascends n s a
unfolding ascends
ascends_in_part n m a s h =
    let e : a + 0 ≡ a = omega arith in
    ascending_in_part n _ m a 0 s (omega arith) ∙ ap (λ (i : ℕ). ascending _ (list_at entry_at 112 n s i)) e

pub default_in_part : (m a j : ℕ) (s : List ℕ) → j + 104 ≤ m → default_at (take m (drop a s)) j ≡ default_at s (a + j)
unfolding default_at same_bytes
default_in_part m a j s h =
    let ws = light_bytes default_light in
    every_same (same_byte ws (take m (drop a s)) j) (same_byte ws s (a + j)) (length ws)
    (λ (k : ℕ) (l : k < length ws).
    let e : a + (j + k) ≡ a + j + k = omega arith in
    ap (λ (n : ℕ). eqb n (get_or ws k 0))
    (get_or-take m (drop a s) (j + k) 0 (omega (arith, length-light_bytes default_light, l)) ∙ get_or-drop a s (j + k) 0 ∙ ap (λ (i : ℕ). get_or s i 0) e))

pub nans_in_part : (n m a j : ℕ) (s : List ℕ) → j + 4 * n ≤ m → nan_free n (take m (drop a s)) j ≡ nan_free n s (a + j)
unfolding nan_free
nans_in_part n m a j s h =
    every_same (plain_at (take m (drop a s)) j) (plain_at s (a + j)) n
    (λ (k : ℕ) (l : k < n).
    let e : a + (j + 4 * k) ≡ a + j + 4 * k = omega arith in
    ap plain_word (number_in_part m a (j + 4 * k) s (omega arith) ∙ ap (number_at 4 s) e))

pub flags_in_part : (n m a : ℕ) (s : List ℕ) → 112 * n ≤ m → flags n (take m (drop a s)) 0 ≡ flags n s a
unfolding flags entry_at
flags_in_part n m a s h =
    every_same (flag_at (take m (drop a s)) 0) (flag_at s a) n
    (λ (k : ℕ) (l : k < n).
    let e : a + (0 + 112 * k + 4) ≡ a + 112 * k + 4 = omega arith in
    let here : number_at 4 (take m (drop a s)) (0 + 112 * k + 4) ≡ number_at 4 s (a + 112 * k + 4) = number_in_part m a (0 + 112 * k + 4) s (omega arith) ∙ ap (number_at 4 s) e in
    rw here)

pub zeros_in_part : (n a : ℕ) (s : List ℕ) → zeros n (take n (drop a s)) 0 ≡ zeros n s a
unfolding zeros
zeros_in_part n a s =
    every_same (zero_byte (take n (drop a s)) 0) (zero_byte s a) n
    (λ (k : ℕ) (l : k < n).
    let here : get_or (take n (drop a s)) k 0 ≡ get_or s (a + k) 0 = get_or-take n (drop a s) k 0 l ∙ get_or-drop a s k 0 in
    rw (zero-add, here))

-- k records of n bytes and 25 floats each, one after another in a part
pub nans_in_records : (n k m a : ℕ) (s : List ℕ) → a + m ≤ length s → ((i : ℕ) → i < k → (n + 100) * i + (n + 100) ≤ m)
    → list_all (plain_record n (n + 100)) (first_chunks (n + 100) k (take m (drop a s))) ≡ every_below k (λ i. nan_free 25 s (a + (n + 100) * i + n))
nans_in_records n k m a s room fits =
    all_of_chunks (plain_record n (n + 100)) (n + 100) k (take m (drop a s))
    ∙ every_same (λ i. plain_record n (n + 100) (take (n + 100) (drop ((n + 100) * i) (take m (drop a s))))) (λ i. nan_free 25 s (a + (n + 100) * i + n)) k
    (λ (i : ℕ) (l : i < k).
    let at : ℕ = a + (n + 100) * i in
    let inside : (n + 100) * i + (n + 100) ≤ m = fits i l in
    let whole : List ℕ = take (n + 100) (drop ((n + 100) * i) (take m (drop a s))) in
    let width : n + 100 - n ≡ 100 = omega arith in
    let floats : take (n + 100 - n) (drop n whole) ≡ take 100 (drop (at + n) s) =
    ap (λ (w : ℕ). take w (drop n whole)) width
    ∙ ap (λ (r : List ℕ). take 100 (drop n r)) (part_of_part (n + 100) m a ((n + 100) * i) s inside)
    ∙ part_of_part 100 (n + 100) at n s (omega arith) in
    let long : length (take 100 (drop (at + n) s)) ≡ 100 = part_length (at + n) 100 s (omega arith) in
    let e : at + n + 0 ≡ at + n = omega arith in
    ap (λ (r : List ℕ). nan_free (length r / 4) r 0) floats
    ∙ ap (λ (j : ℕ). nan_free (j / 4) (take 100 (drop (at + n) s)) 0) long
    ∙ nans_in_part 25 100 (at + n) 0 s (omega arith)
    ∙ ap (nan_free 25 s) e)

-- one byte, as the definition tests it
abbrev pub is_zero : ℕ → Bool
is_zero b = zero_byte (b ∷ []) 0 0

pub zeros_all : (bs : List ℕ) → list_all is_zero bs ≡ zeros (length bs) bs 0
unfolding zeros
zeros_all bs =
    all_of_list is_zero bs
    ∙ every_same (λ k. is_zero (get_or bs k 0)) (zero_byte bs 0) (length bs) (λ (k : ℕ) (l : k < length bs). rw zero-add)

-- a word as it stands in four bytes
abbrev pub plain_four : List ℕ → Bool
plain_four w = plain_word (number_at 4 w 0)

pub nans_all : (bs : List ℕ) → list_all plain_four (first_chunks 4 (length bs / 4) bs) ≡ nan_free (length bs / 4) bs 0
unfolding nan_free
nans_all bs =
    all_of_chunks plain_four 4 (length bs / 4) bs
    ∙ every_same (λ i. plain_four (take 4 (drop (4 * i) bs))) (plain_at bs 0) (length bs / 4)
    (λ (k : ℕ) (l : k < length bs / 4).
    let e : 4 * k + 0 ≡ 0 + 4 * k = omega arith in
    ap plain_word (number_in_part 4 (4 * k) 0 bs (omega arith) ∙ ap (number_at 4 bs) e))

-- an entry's enable, as the definition tests it
abbrev pub flag_of : List ℕ → Bool
flag_of e = flag_at e 0 0

pub flags_all : (bs : List ℕ) → list_all flag_of (first_chunks 112 (length bs / 112) bs) ≡ flags (length bs / 112) bs 0
unfolding flags entry_at
flags_all bs =
    all_of_chunks flag_of 112 (length bs / 112) bs
    ∙ every_same (λ i. flag_of (take 112 (drop (112 * i) bs))) (flag_at bs 0) (length bs / 112)
    (λ (k : ℕ) (l : k < length bs / 112).
    let e : 112 * k + 4 ≡ 0 + 112 * k + 4 = omega arith in
    let here : number_at 4 (take 112 (drop (112 * k) bs)) 4 ≡ number_at 4 bs (0 + 112 * k + 4) = number_in_part 112 (112 * k) 4 bs (omega arith) ∙ ap (number_at 4 bs) e in
    rw here)

same_pointwise : (xs ys : List ℕ) → length xs ≡ length ys → pointwise eqb xs ys ≡ every_below (length ys) (λ k. eqb (get_or xs k 0) (get_or ys k 0))
unfolding every_below
same_pointwise [] [] e = refl
same_pointwise [] (y ∷ ys) e = absurd (omega arith)
same_pointwise (x ∷ xs) [] e = absurd (omega arith)
same_pointwise (x ∷ xs) (y ∷ ys) e =
    ap (λ (b : Bool). eqb x y && b) (same_pointwise xs ys (omega arith)) ∙ sym (every_first (λ k. eqb (get_or (x ∷ xs) k 0) (get_or (y ∷ ys) k 0)) (length ys))

pub default_same : (bs : List ℕ) → length bs ≡ 104 → pointwise eqb bs (light_bytes default_light) ≡ default_at bs 0
unfolding default_at same_bytes
default_same bs l =
    let ws = light_bytes default_light in
    same_pointwise bs ws (l ∙ sym (length-light_bytes default_light))
    ∙ every_same (λ k. eqb (get_or bs k 0) (get_or ws k 0)) (same_byte ws bs 0) (length ws) (λ (k : ℕ) (h : k < length ws). rw zero-add)

-- a slot's number beside its bytes
abbrev pub slot_of : ℕ → ℕ × List ℕ → Bool
slot_of d p = has_bit d p.0 || default_at p.1 0

pub slots_all : (d : ℕ) (s : List ℕ) → list_all (slot_of d) (zip (range_with_len 0 8) (first_chunks 104 8 (take 832 (drop 17_092 s)))) ≡ slots_default d s 17_092
unfolding slots_default
slots_all d s =
    let part : List ℕ = take 832 (drop 17_092 s) in
    all_of_zip (slot_of d) 104 0 8 part
    ∙ every_same (λ i. slot_of d (0 + i, take 104 (drop (104 * i) part))) (slot_default d s 17_092) 8
    (λ (i : ℕ) (l : i < 8).
    let e : 17_092 + 104 * i + 0 ≡ 17_092 + 104 * i = omega arith in
    let here : default_at (take 104 (drop (104 * i) part)) 0 ≡ default_at s (17_092 + 104 * i) =
    ap (λ (l : List ℕ). default_at l 0) (part_of_part 104 832 17_092 (104 * i) s (omega arith))
    ∙ default_in_part 104 (17_092 + 104 * i) 0 s (omega arith)
    ∙ ap (default_at s) e in
    rw (zero-add, here))

pub bits_all : (e d : ℕ) → list_all (bit_defined e d) (range_with_len 0 8) ≡ bits_defined e d
unfolding bits_defined
bits_all e d = all_of_range (bit_defined e d) 0 8 ∙ every_same (λ i. bit_defined e d (0 + i)) (bit_defined e d) 8 (λ (i : ℕ) (l : i < 8). rw zero-add)
