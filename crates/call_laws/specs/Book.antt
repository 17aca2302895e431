-- Two abstract states that no refusal, read or later operation tells apart (proofs/Book). Document 01's plain book "holds matrices by state number, material, and lights by index, each with an enable"; beside them stand the highest palette index and, by document 02, T-05, "what they set": fog, the ambient colour and the texture mask.
use Rattle.std.specs.Prelude.{ℕ, ◌≡◌, true}
use Rattle.d3d9_model.specs.Operations.{known}
use Rattle.d3d9_model.specs.State.{AbstractState}

pub record SameBook (a b : AbstractState) : Type 0 where
  pub matrix : (n : ℕ) → known n ≡ true → a.matrix n ≡ b.matrix n
  pub material : a.material ≡ b.material
  pub lights : a.lights ≡ b.lights
  pub highest : a.highest_index ≡ b.highest_index
  pub states : a.render_states ≡ b.render_states
  pub texture-mask : a.texture_mask ≡ b.texture_mask
