-- "The fresh palette is 256 identity matrices laid down by one repeat": one lemma gives every entry.
-- Assumes nothing.
use Prim.Native.Nat.{ℕ, ◌<◌}
use mathlib.Core.Path.{◌≡◌}
use lib.ListN.{get_or, get_or-replicate}
use Rattle.d3d9_types.specs.Matrix.{identity}
use Rattle.ff_state.specs.State.{fresh_state, no_matrix}

pub fresh_palette : (i : ℕ) → i < 256 → get_or fresh_state.world_palette i no_matrix ≡ identity
unfolding fresh_state
fresh_palette i h = get_or-replicate 256 i identity no_matrix h
