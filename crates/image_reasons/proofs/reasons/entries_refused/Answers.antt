-- The entries in use and what is left behind them are parts of the image; `|` is `||` of tests that were made.
use Rattle.std.proofs.Common.{◌≡◌, ◌∙◌, ◌+◌, ◌≤◌, ◌-◌, ◌*◌, ◌/◌, ◌||◌, ℕ, List, not, ap, take, drop, length, arith, refl}
use mathlib.Core.Bool.{Bool, true, false}
use Rattle.image_reasons.specs.Tests.{ascends, flags, zeros}
use Rattle.image_reasons.specs.Reasons.{entries_refused, count_of}
use Rattle.codec.proofs.Put.{part_length}
use Rattle.image_reasons.proofs.Chains.{ascends_in_part, flags_in_part, zeros_in_part}
use Rattle.image_reasons.proofs.reasons.entries_refused.Goals as goal

or_assoc3 : (a b c : Bool) → ((a || b) || c) ≡ (a || (b || c))
or_assoc3 true b c = refl
or_assoc3 false b c = refl

in_use : (n k : ℕ) (s : List ℕ) → 17_932 + 112 * n ≤ length s → k ≡ 112 * n → flags (length (take k (drop 17_932 s)) / 112) (take k (drop 17_932 s)) 0 ≡ flags n s 17_932
in_use n k s room e =
    let count : k / 112 ≡ n = omega (arith, e) in
    ap (λ (j : ℕ). flags (j / 112) (take k (drop 17_932 s)) 0) (part_length 17_932 k s (omega (arith, e)))
    ∙ ap (λ (j : ℕ). flags j (take k (drop 17_932 s)) 0) count
    ∙ flags_in_part n k 17_932 s (omega (arith, e))

ascend : (n k : ℕ) (s : List ℕ) → 17_932 + 112 * n ≤ length s → k ≡ 112 * n → ascends (length (take k (drop 17_932 s)) / 112) (take k (drop 17_932 s)) 0 ≡ ascends n s 17_932
ascend n k s room e =
    let count : k / 112 ≡ n = omega (arith, e) in
    ap (λ (j : ℕ). ascends (j / 112) (take k (drop 17_932 s)) 0) (part_length 17_932 k s (omega (arith, e)))
    ∙ ap (λ (j : ℕ). ascends j (take k (drop 17_932 s)) 0) count
    ∙ ascends_in_part n k 17_932 s (omega (arith, e))

behind : (k at : ℕ) (s : List ℕ) → at + k ≤ length s → zeros (length (take k (drop at s))) (take k (drop at s)) 0 ≡ zeros k s at
behind k at s room = ap (λ (j : ℕ). zeros j (take k (drop at s)) 0) (part_length at k s room) ∙ zeros_in_part k at s

pub returns : goal.returns
unfolding entries_refused
returns c =
    let s = c.args.s.now in
    let n = c.from-n.result in
    let count : n ≡ count_of s = c.from-n.ensures ∙ c.read.ensures in
    let few : n ≤ 56 = omega (arith, count, c.requires) in
    let sorted : c.entries_ascending.result ≡ ascends n s 17_932 = c.entries_ascending.ensures ∙ ascend n (17_932 + 112 * n - 17_932) s (omega arith) (omega arith) in
    let used : c.flags_ok.result ≡ flags n s 17_932 = c.flags_ok.ensures ∙ in_use n (17_932 + 112 * n - 17_932) s (omega arith) (omega arith) in
    let unused : c.all_zero.result ≡ zeros (24_204 - (17_932 + 112 * n)) s (17_932 + 112 * n) = c.all_zero.ensures ∙ behind (24_204 - (17_932 + 112 * n)) (17_932 + 112 * n) s (omega arith) in
    rw (or_assoc3 (not c.entries_ascending.result) (not c.flags_ok.result) (not c.all_zero.result), sorted, used, unused, count)
