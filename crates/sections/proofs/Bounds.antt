-- How many places a mask has, and how many rows a section at most.
use Prim.Native.Nat.{ℕ, ◌+◌, ◌-◌, ◌*◌, ◌^◌, ◌≤◌, ◌<◌}
use native.Mathlib.Omega.{arith}
use mathlib.Core.Path.{◌≡◌, subst}
use lib.Count.{count_leading_zeros, leading_length}
use lib.Dec.{eqb}
use mathlib.Core.Bool.{cond}
use Rattle.lemmas.proofs.Branch.{branch}
use Rattle.sections.specs.Counts.{places, material_count, light_count, palette_matrices, palette_count, texture_count}
use Rattle.sections.specs.declared.key.FfVsKey.{FfVsKey}

-- up to the highest bit and no further, however many bits are set below it
pub places-length : (mask : ℕ) → mask < 256 → (mask < 2 ^ places mask) × (2 ^ places mask ≤ 2 * mask + 1)
unfolding places
places-length mask byte =
    let l = leading_length 8 mask byte in
    let e : l.0 ≡ 8 - count_leading_zeros 8 mask = omega (arith, l.1) in
    subst (λ (n : ℕ). (mask < 2 ^ n) × (2 ^ n ≤ 2 * mask + 1)) e (l.2, l.3)

pub places_most : (mask : ℕ) → places mask ≤ 8
unfolding places
places_most mask = omega arith

pub lights_most : (k : FfVsKey) → light_count k ≤ 48
unfolding light_count
lights_most k = omega (arith, places_most k.light_active_mask)

pub texture_most : (mask : ℕ) → texture_count mask ≤ 32
unfolding texture_count
texture_most mask = omega (arith, places_most mask)

module _ (k : FfVsKey) where
  pub material_most : material_count k ≤ 5
  unfolding material_count
  material_most =
      branch (λ (n : ℕ). n ≤ 5) k.lighting_enabled (cond k.specular_enable 5 4) 1
      (λ lit. branch (λ (n : ℕ). n ≤ 5) k.specular_enable 5 4 (λ on. omega arith) (λ off. omega arith))
      (λ unlit. omega arith)

  pub matrices_most : k.vertex_blend_count < 256 → palette_matrices k ≤ 255
  unfolding palette_matrices
  matrices_most h =
      branch (λ (n : ℕ). n ≤ 255) (eqb k.vertex_blend_count 0) 0 (cond k.vertex_blend_indexed 40 k.vertex_blend_count)
      (λ none. omega arith)
      (λ some. branch (λ (n : ℕ). n ≤ 255) k.vertex_blend_indexed 40 k.vertex_blend_count (λ on. omega arith) (λ off. omega arith))

  pub palette_most : k.vertex_blend_count < 256 → palette_count k ≤ 1020
  unfolding palette_count
  palette_most h = omega (arith, matrices_most h)
