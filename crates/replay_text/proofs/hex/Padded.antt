-- What `{:08x}` writes of a word is its eight digits: those that the number has, and zeros before them.
use Prim.Native.Nat.{ℕ, zero, suc, ◌+◌, ◌-◌, ◌/◌, ◌%◌, ◌^◌, ◌<◌}
use mathlib.Core.Path.{◌≡◌, refl, sym, ap, ◌∙◌}
use mathlib.Core.Bool.{Bool, true, false, cond}
use mathlib.Core.List.{List, [], ◌∷◌, ◌++◌, append-nil}
use native.Mathlib.Omega.{arith}
use lib.Dec.{eqb, ltb}
use lib.ListN.{length}
use borrow.Author.Tests.{eq-eqb, ne_eqb, ltb-true, ltb-false}
use Rattle.std.proofs.Math.ListN.{replicate}
use Rattle.std.specs.Fmt.{digits_onto, digits, padded_integral, format_spec, char_count}
use Rattle.std.proofs.Math.Seq.{append_snoc}
use Rattle.std.proofs.lemmas.List.{replicate-append-replicate}
use Rattle.io.specs.Digits.{hex_digit_ascii, last_digits}

zeros : (k : ℕ) → last_digits 16 k 0 ≡ replicate k 48
zeros zero = refl
zeros (suc k) = ap (λ (t : List ℕ). t ++ (48 ∷ [])) (zeros k) ∙ replicate-append-replicate k 1 48 ∙ ap (λ (j : ℕ). replicate j 48) {x = k + 1} {y = suc k} (omega arith)

-- the digits of n, put before acc
abbrev put : (m n : ℕ) (acc : List ℕ) → List ℕ
put m n acc = digits_onto m 16 false n acc

by : (m n : ℕ) (acc : List ℕ) (t : Bool) → eqb (n / 16) 0 ≡ t → put (suc m) n acc ≡ cond t (hex_digit_ascii (n % 16) ∷ acc) (put m (n / 16) (hex_digit_ascii (n % 16) ∷ acc))
by m n acc t e = ap (λ (b : Bool). cond b (hex_digit_ascii (n % 16) ∷ acc) (put m (n / 16) (hex_digit_ascii (n % 16) ∷ acc))) e

-- zeros before a text, up to a length
abbrev filled : ℕ → List ℕ → List ℕ
filled k t = replicate (k - length t) 48 ++ t

onto : (k m n : ℕ) (acc : List ℕ) (t : Bool) → ltb n 16 ≡ t → n < 16 ^ suc k → k < m → filled (suc k + length acc) (put m n acc) ≡ last_digits 16 (suc k) n ++ acc
onto k zero n acc t e fits room = absurd (omega arith)
onto k (suc m) n acc true e fits room =
    let none : n / 16 ≡ 0 = omega (arith, ltb-true n 16 e) in
    let count : suc k + length acc - suc (length acc) ≡ k = omega arith in
    ap (filled (suc k + length acc)) (by m n acc true (eq-eqb _ 0 none))
    ∙ ap (λ (j : ℕ). replicate j 48 ++ hex_digit_ascii (n % 16) ∷ acc) count
    ∙ sym (append_snoc (replicate k 48) (hex_digit_ascii (n % 16)) acc)
    ∙ ap (λ (ds : List ℕ). (ds ++ (hex_digit_ascii (n % 16) ∷ [])) ++ acc) (sym (zeros k) ∙ ap (λ (j : ℕ). last_digits 16 k j) (sym none))
onto zero (suc m) n acc false e fits room = absurd (omega (arith, ltb-false n 16 e))
onto (suc k) (suc m) n acc false e fits room =
    let some : n / 16 ≡ 0 → ⊥ = λ z. omega (arith, ltb-false n 16 e, z) in
    ap (filled (suc (suc k) + length acc)) (by m n acc false (ne_eqb _ 0 some))
    ∙ ap (λ (j : ℕ). filled j (put m (n / 16) (hex_digit_ascii (n % 16) ∷ acc))) {x = suc (suc k) + length acc} {y = suc k + suc (length acc)} (omega arith)
    ∙ onto k m (n / 16) (hex_digit_ascii (n % 16) ∷ acc) (ltb (n / 16) 16) refl (omega arith) (omega arith)
    ∙ sym (append_snoc (last_digits 16 (suc k) (n / 16)) (hex_digit_ascii (n % 16)) acc)

padded : (ds : List ℕ) → padded_integral (format_spec 32 0 4 8 (2 ^ 64 - 1)) false [] ds ≡ filled 8 ds
unfolding padded_integral char_count
padded ds =
    ap (λ (j : ℕ). replicate j 48 ++ (ds ++ [])) {x = 8 - length ds - 0 - 0} {y = 8 - length ds} (omega arith)
    ∙ ap (λ (t : List ℕ). replicate (8 - length ds) 48 ++ t) (append-nil ds)

of_digits : (w : ℕ) → digits 16 false w ≡ put 64 w []
unfolding digits
of_digits w = refl

pub word_text : (w : ℕ) → w < 2 ^ 32 → padded_integral (format_spec 32 0 4 8 (2 ^ 64 - 1)) false [] (digits 16 false w) ≡ last_digits 16 8 w
word_text w h =
    padded (digits 16 false w)
    ∙ ap (filled 8) (of_digits w)
    ∙ onto 7 64 w [] (ltb w 16) refl (omega arith) (omega arith)
    ∙ append-nil (last_digits 16 8 w)
