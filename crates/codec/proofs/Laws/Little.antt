-- Bytes to a number and back, over the width.
use Prim.Native.Nat.{ℕ, zero, suc, ◌+◌, ◌*◌, ◌/◌, ◌%◌, ◌^◌, ◌<◌}
use native.Mathlib.Nat.{one-le-pow, pow-suc, div-lt_iff_lt-mul}
use native.Mathlib.Omega.{arith}
use mathlib.Core.Path.{◌≡◌, refl, ap, ◌∙◌}
use mathlib.Core.List.{List, [], ◌∷◌}
use lib.ListN.{length, get_or, take, drop}
use lib.Seq.{get_or-drop, drop-append-add, drop-cons, take_at}
use Rattle.std.specs.Int.{w16, w32, to_le_bytes}
use Rattle.codec.specs.Little.{little_bytes, little_number, number_at, Bytes}
use Rattle.codec.proofs.Inside.{Skips, Starts}
pub use Rattle.codec.specs.Sizes.{length-little_bytes}

pub little_number-little_bytes : (k n : ℕ) → n < 256 ^ k → little_number (little_bytes k n) ≡ n
unfolding little_bytes little_number
little_number-little_bytes zero n h = omega arith
little_number-little_bytes (suc k) n h =
    let less : n < 256 ^ k * 256 = rw pow-suc at h in
    let e : little_number (little_bytes k (n / 256)) ≡ n / 256 = little_number-little_bytes k (n / 256) ((div-lt_iff_lt-mul (omega arith)).1 less) in
    rw e (omega arith)

pub little_bytes-little_number : (bs : List ℕ) → Bytes bs → little_bytes (length bs) (little_number bs) ≡ bs
unfolding little_bytes little_number
little_bytes-little_number [] h = refl
little_bytes-little_number (b ∷ bs) h =
    let small : b < 256 = h 0 in
    let low : (b + 256 * little_number bs) % 256 ≡ b = omega arith in
    let high : (b + 256 * little_number bs) / 256 ≡ little_number bs = omega arith in
    rw (low, high, little_bytes-little_number bs (λ (i : ℕ). h (suc i)))

-- one, two and four bytes, written out, as std's `from_le_bytes` sums them
pub number_at_one : (s : List ℕ) (at : ℕ) → at < length s → get_or s at 0 ≡ number_at 1 s at
unfolding little_number
number_at_one s at h = rw (drop-cons s at 0) (omega arith)

pub number_of_two : (t : List ℕ) → length t ≡ 2 → get_or t 0 0 + 0x100 * get_or t 1 0 ≡ little_number t
unfolding little_number
number_of_two [] h = absurd (omega arith)
number_of_two (a ∷ []) h = absurd (omega arith)
number_of_two (a ∷ b ∷ []) h = omega arith
number_of_two (a ∷ b ∷ c ∷ t) h = absurd (omega arith)

pub number_of_four : (t : List ℕ) → length t ≡ 4 → get_or t 0 0 + 0x100 * get_or t 1 0 + 0x1_0000 * get_or t 2 0 + 0x100_0000 * get_or t 3 0 ≡ little_number t
unfolding little_number
number_of_four [] h = absurd (omega arith)
number_of_four (a ∷ []) h = absurd (omega arith)
number_of_four (a ∷ b ∷ []) h = absurd (omega arith)
number_of_four (a ∷ b ∷ c ∷ []) h = absurd (omega arith)
number_of_four (a ∷ b ∷ c ∷ d ∷ []) h = omega arith
number_of_four (a ∷ b ∷ c ∷ d ∷ e ∷ t) h = absurd (omega arith)

-- the same bytes as std's `to_le_bytes` gives
pub bytes_of_two : (n : ℕ) → to_le_bytes w16 n ≡ little_bytes 2 n
unfolding little_bytes
bytes_of_two n = refl

pub bytes_of_four : (n : ℕ) → to_le_bytes w32 n ≡ little_bytes 4 n
unfolding little_bytes
bytes_of_four n =
    let third : n / 0x1_0000 % 256 ≡ n / 256 / 256 % 256 = omega arith in
    let fourth : n / 0x100_0000 % 256 ≡ n / 256 / 256 / 256 % 256 = omega arith in
    rw (third, fourth)

pub number_at_skips : (k : ℕ) → Skips (number_at k)
number_at_skips k p q n = rw drop-append-add

pub number_at_starts : (k n : ℕ) → n < 256 ^ k → Starts (number_at k) (little_bytes k n) n
number_at_starts k n h rest =
    ap little_number (take_at (little_bytes k n) rest k (length-little_bytes k n)) ∙ little_number-little_bytes k n h

-- k bytes make a number of k bytes
front_lt : (k : ℕ) (bs : List ℕ) → Bytes bs → little_number (take k bs) < 256 ^ k
unfolding little_number
front_lt zero bs h = omega arith
front_lt (suc k) [] h = one-le-pow (suc k) 256 (omega arith)
front_lt (suc k) (b ∷ bs) h =
    let small : b < 256 = h 0 in
    let rest : little_number (take k bs) < 256 ^ k = front_lt k bs (λ (i : ℕ). h (suc i)) in
    rw pow-suc (omega arith)

pub number_at_lt : (k : ℕ) (bytes : List ℕ) (at : ℕ) → Bytes bytes → number_at k bytes at < 256 ^ k
number_at_lt k bytes at h = front_lt k (drop at bytes) (λ (i : ℕ). rw get_or-drop (h (at + i)))
