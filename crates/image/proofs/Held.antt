-- A field of a table that tiles stands at its place, and reads there as what was written.
-- Assumes nothing.
use Prim.Native.Nat.{ℕ, ◌+◌}
use mathlib.Core.Path.{◌≡◌, refl, sym, ap, ◌∙◌}
use mathlib.Core.List.{List, [], ◌∷◌, ◌++◌, append_assoc}
use lib.ListN.{length, length-append}
use Rattle.codec.proofs.Inside.{Skips, Starts, inside}
use Rattle.image.specs.Table.{Field, table_bytes, Tiles}

-- the field's bytes stand at its place
pub record HoldsField (bytes : List ℕ) (f : Field) : Type 0 where
  pub front : List ℕ
  pub behind : List ℕ
  pub long : length front ≡ f.place
  pub is : bytes ≡ front ++ (f.bytes ++ behind)

pub held_reads : {A : Type 0} {x : A} {bytes : List ℕ} {f : Field} (read : List ℕ → ℕ → A) → Skips read → Starts read f.bytes x → HoldsField bytes f → read bytes f.place ≡ x
held_reads {x = x} {f = f} read skips starts h = rw h.is (inside read skips f.bytes x starts h.front h.behind f.place h.long)

-- each field of a list
abbrev pub AllHold : List ℕ → List Field → Type 0
AllHold bytes [] = Unit
AllHold bytes (f ∷ fs) = HoldsField bytes f × AllHold bytes fs

pub tiles_hold : (n e : ℕ) (fs : List Field) (front : List ℕ) → length front ≡ n → Tiles n fs e → AllHold (front ++ table_bytes fs) fs
unfolding table_bytes
tiles_hold n e [] front l t = tt
tiles_hold n e (f ∷ fs) front l t =
    let long : length (front ++ f.bytes) ≡ n + length f.bytes = length-append front f.bytes ∙ ap (λ (k : ℕ). k + length f.bytes) l in (
      record { front = front; behind = table_bytes fs; long = l ∙ sym t.0; is = refl },
      rw append_assoc at (tiles_hold (n + length f.bytes) e fs (front ++ f.bytes) long t.1),
    )
