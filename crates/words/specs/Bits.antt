-- One bit of a word.
use Rattle.std.specs.Prelude.{ℕ, zero, suc, ◌+◌, ◌*◌, ◌/◌, ◌%◌, ◌^◌, Bool, cond, eqb}

unfoldable pub has_bit : ℕ → ℕ → Bool
has_bit w i = eqb (w / 2 ^ i % 2) 1

-- the word with bit i as the Bool says: the digits below stay, and those above
unfoldable pub with_bit : ℕ → ℕ → Bool → ℕ
with_bit w zero on = w / 2 * 2 + cond on 1 0
with_bit w (suc i) on = with_bit (w / 2) i on * 2 + w % 2
