-- The fields of a table that tiles, each put at its place, are the table's bytes put at the front.
-- Assumes nothing.
use Prim.Native.Nat.{ℕ, ◌+◌, ◌≤◌}
use native.Mathlib.Omega.{arith}
use mathlib.Core.Path.{◌≡◌, refl, sym, ap, ◌∙◌}
use mathlib.Core.List.{List, [], ◌∷◌, ◌++◌, append_assoc, append-nil}
use lib.ListN.{length, length-append}
use Rattle.codec.specs.Put.{put}
use Rattle.codec.proofs.Put.{put-none, put-append, put_whole}
use Rattle.image.specs.Table.{Field, table_bytes, Tiles}

pub length-table_bytes : (n e : ℕ) (fs : List Field) → Tiles n fs e → n + length (table_bytes fs) ≡ e
unfolding table_bytes
length-table_bytes n e [] t = omega arith
length-table_bytes n e (f ∷ fs) t =
    let rest : n + length f.bytes + length (table_bytes fs) ≡ e = length-table_bytes (n + length f.bytes) e fs t.1 in
    rw length-append (omega arith)

-- each field at its place
abbrev pub field_placed : List Field → List ℕ → List ℕ
field_placed [] m = m
field_placed (f ∷ fs) m = field_placed fs (put f.place f.bytes m)

placed_behind : (n e : ℕ) (fs : List Field) (ws m : List ℕ) → length ws ≡ n → Tiles n fs e → e ≤ length m
    → field_placed fs (put 0 ws m) ≡ put 0 (ws ++ table_bytes fs) m
unfolding table_bytes
placed_behind n e [] ws m l t h = rw append-nil
placed_behind n e (f ∷ fs) ws m l t h =
    let v = f.bytes in
    let rest : n + length v + length (table_bytes fs) ≡ e = length-table_bytes (n + length v) e fs t.1 in
    let room : 0 + (length ws + length v) ≤ length m = omega arith in
    let here : f.place ≡ 0 + length ws = omega (arith, t.0) in
    let joined : put f.place v (put 0 ws m) ≡ put 0 (ws ++ v) m = rw here (sym (put-append 0 ws v m room)) in
    let long : length (ws ++ v) ≡ n + length v = length-append ws v ∙ ap (λ (k : ℕ). k + length v) l in
    rw (joined, ← append_assoc) (placed_behind (n + length v) e fs (ws ++ v) m long t.1 h)

-- over a list as long as the table, nothing of the list is left
pub placed_all : (e : ℕ) (fs : List Field) (m : List ℕ) → Tiles 0 fs e → length m ≡ e → field_placed fs m ≡ table_bytes fs
placed_all e fs m t h =
    let long : 0 + length (table_bytes fs) ≡ e = length-table_bytes 0 e fs t in
    ap (field_placed fs) (sym (put-none 0 m)) ∙ placed_behind 0 e fs [] m refl t (omega arith) ∙ put_whole (table_bytes fs) m (omega arith)
