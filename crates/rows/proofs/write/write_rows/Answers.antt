-- The row that a turn writes goes from the front of what is left.
use Rattle.std.proofs.Common.{◌≡◌, ◌∙◌, ◌+◌, ◌*◌, ◌<◌, ◌≤◌, ℕ, List, ◌∷◌, Float, sym, ap, refl, arith, add-one, length, get_or, drop, drop-cons}
use lib.Seq.{sets}
use lib.ListN.{drop_of_length-le}
use Rattle.d3d9_types.specs.declared.matrix.Row.{Row}
use Rattle.rows.specs.Rows.{row_floats, floats}
use Rattle.rows.proofs.Stores.{sets_append}
use Rattle.rows.proofs.write.write_rows.Goals as goal

turn : (at i : ℕ) (d : Row) (rs : List Row) (m : List Float) → i < length rs
    → sets (sets m (at + 4 * i) (row_floats (get_or rs i d))) (at + 4 * (i + 1)) (floats (drop (i + 1) rs)) ≡ sets m (at + 4 * i) (floats (drop i rs))
unfolding floats
turn at i d rs m h =
    let e : at + 4 * (i + 1) ≡ at + 4 * i + 4 = omega arith in
    let front : drop i rs ≡ get_or rs i d ∷ drop (i + 1) rs = rw add-one (drop-cons rs i d h) in
    rw (e, front) (sym (sets_append m (at + 4 * i) (row_floats (get_or rs i d)) (floats (drop (i + 1) rs))))

none_left : (n at : ℕ) (rs : List Row) (m : List Float) → length rs ≤ n → sets m at (floats (drop n rs)) ≡ m
unfolding floats
none_left n at rs m h = rw (drop_of_length-le rs {i = n} h) refl

pub loop-i-preserved : goal.loop-i-preserved
loop-i-preserved c =
    let l = c.loop-i in (
      omega arith,
      ap (λ x. sets x (c.args.at + 4 * (l.i + 1)) (floats (drop (l.i + 1) c.args.rows.now))) c.write_row.ensures
          ∙ turn c.args.at l.i _ c.args.rows.now l.dst c.loop-i-test.true
          ∙ l.invariant.1,
    )

pub returns : goal.returns
returns c =
    let l = c.loop-i in
    sym (none_left l.i (c.args.at + 4 * l.i) c.args.rows.now l.dst c.loop-i-test.false) ∙ l.invariant.1
