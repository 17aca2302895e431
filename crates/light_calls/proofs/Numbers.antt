-- The number of a set on states, from the room that the host's code tests.
-- Assumes nothing.
use Prim.Native.Nat.{ℕ}
use mathlib.Core.Path.{◌≡◌, ◌∙◌}
use mathlib.Core.Bool.{true, false}
use Rattle.d3d9_types.specs.declared.light.D3DLIGHT9.{D3DLIGHT9}
use Rattle.ff_state.specs.Lights.{has_room, light_number, set_light_at}
use Rattle.ff_state.specs.declared.state.FfState.{FfState}
use Rattle.ff_state.proofs.Room.{set-answer}

module _ (s : FfState) (i : ℕ) where
  pub set_full : (l : D3DLIGHT9) → has_room s i ≡ false → light_number (set_light_at s i l).answer ≡ 3
  set_full l h = set-answer s i l ∙ rw h

  pub set_room : (l : D3DLIGHT9) → has_room s i ≡ true → light_number (set_light_at s i l).answer ≡ 0
  set_room l h = set-answer s i l ∙ rw h
