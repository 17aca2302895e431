-- What is known of every section under an accepted mask: its floats fill its place in the mirror.
-- Assumes nothing.
use Prim.Native.Nat.{◌+◌, ◌*◌, ◌≤◌, ◌<◌}
use native.Mathlib.Omega.{arith}
use mathlib.Core.Path.{◌≡◌, refl}
use mathlib.Core.Bool.{true}
use lib.ListN.{length}
use Rattle.sections.specs.declared.sections.Section.{Section}
use Rattle.sections.specs.declared.sections.Section.TheVariants.{Wv, Proj, Material, Lights, Palette, Tt, Fog, Ambient}
use Rattle.ff_state.specs.declared.state.FfState.{FfState}
use Rattle.sections.specs.declared.key.FfVsKey.{FfVsKey}
use Rattle.sections.proofs.Tiles.{fits_mirror}
use Rattle.packing.specs.Inputs.{mask_accepted, inputs_of}
use Rattle.packing.specs.Pack.{state_rows, state_count}
use Rattle.packing.proofs.Lengths.{floats-length}
use Rattle.refresh.specs.Written.{first_float}

-- a state and a key of the sizes that their types have, and a mask that is accepted
pub record Ready (s : FfState) (k : FfVsKey) : Type 0 where
  pub count : k.vertex_blend_count < 256
  pub palette : length s.world_palette ≡ 256
  pub textures : length s.texture_transforms ≡ 8
  pub mask : mask_accepted Lights k (inputs_of s) ≡ true

-- only the lights' section looks at the mask
pub every_accepted : (s : FfState) (k : FfVsKey) → mask_accepted Lights k (inputs_of s) ≡ true → (σ : Section) → mask_accepted σ k (inputs_of s) ≡ true
unfolding mask_accepted
every_accepted s k m Wv = refl
every_accepted s k m Proj = refl
every_accepted s k m Material = refl
every_accepted s k m Lights = m
every_accepted s k m Palette = refl
every_accepted s k m Tt = refl
every_accepted s k m Fog = refl
every_accepted s k m Ambient = refl

module _ {s : FfState} {k : FfVsKey} (r : Ready s k) (σ : Section) where
  pub accepted : mask_accepted σ k (inputs_of s) ≡ true
  accepted = every_accepted s k r.mask σ

  pub rows-length : length (state_rows σ s k) ≡ 4 * state_count σ s k
  rows-length = floats-length k (inputs_of s) (record { count = r.count; palette = r.palette; textures = r.textures }) σ accepted

  pub fits : first_float σ + length (state_rows σ s k) ≤ 4460
  fits = omega (arith, rows-length, fits_mirror k (inputs_of s).texture_mask r.count σ)
