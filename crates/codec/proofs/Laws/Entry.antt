-- An entry whose numbers are u32 and whose light fits comes back from its bytes.
use Prim.Native.Nat.{ℕ, ◌<◌, ◌^◌}
use native.Mathlib.Nat.{add_assoc}
use mathlib.Core.Path.{◌≡◌, refl}
use mathlib.Core.List.{[], ◌++◌, append-nil, flatten}
use Rattle.d3d9_types.specs.Light.{lightFits}
use Rattle.codec.specs.Little.{little_bytes}
use Rattle.codec.specs.Light.{light_bytes, light_at}
use Rattle.codec.proofs.Inside.{Skips, Starts, inside}
use Rattle.codec.proofs.Laws.Little.{little_number-little_bytes, number_at_skips}
use Rattle.codec.proofs.Laws.Light.{light_at_skips, light_at_starts}
use Rattle.d3d9_types.specs.declared.light.D3DLIGHT9.{D3DLIGHT9}
use Rattle.light_table.specs.Entry.{light_entry}
use Rattle.light_table.specs.declared.entry.OverflowLight.{OverflowLight}
use Rattle.codec.specs.Entry.{entry_bytes, entry_at}
pub use Rattle.codec.specs.Entry.{length-entry_bytes}

pub entry_at_skips : Skips entry_at
unfolding entry_at
entry_at_skips p q n = simp (add_assoc, number_at_skips, light_at_skips)

comes_back : (e : OverflowLight) (i n : ℕ) (l : D3DLIGHT9) → i ≡ e.index → n ≡ e.enabled → l ≡ e.light → light_entry i n l ≡ e
comes_back e i n l p q r = rw (p, q, r)

pub entry_at_starts : {e : OverflowLight} → e.index < 2 ^ 32 → e.enabled < 2 ^ 32 → lightFits e.light → Starts entry_at (entry_bytes e) e
unfolding entry_at entry_bytes flatten little_bytes
entry_at_starts {e} i n f rest =
    let light : light_at (little_bytes 4 e.index ++ (little_bytes 4 e.enabled ++ ((light_bytes e.light ++ []) ++ rest))) 8 ≡ e.light =
    rw (append-nil (light_bytes e.light)) (inside light_at light_at_skips (light_bytes e.light) e.light (light_at_starts f) (little_bytes 4 e.index ++ little_bytes 4 e.enabled) rest 8 refl) in
    comes_back e _ _ _ (little_number-little_bytes 4 e.index i) (little_number-little_bytes 4 e.enabled n) light
