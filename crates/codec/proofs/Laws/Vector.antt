-- A vector of f32 values comes back from its bytes, and what is read is one.
use Prim.Native.Nat.{ℕ}
use native.Mathlib.Nat.{add_assoc}
use mathlib.Core.Path.{◌≡◌}
use mathlib.Core.List.{List, flatten}
use Rattle.d3d9_types.specs.Vector.{vectorFits}
use Rattle.d3d9_types.specs.declared.vector.D3DVECTOR.{D3DVECTOR}
use Rattle.codec.specs.Little.{little_bytes}
use Rattle.codec.specs.Float.{float_bytes, float_at}
use Rattle.codec.specs.Vector.{vector_bytes, vector_at}
use Rattle.codec.proofs.Inside.{Skips, Starts}
use Rattle.codec.proofs.Laws.Float.{again, again_is, float_at_skips, float_at_fits}
pub use Rattle.codec.specs.Sizes.{length-vector_bytes}

pub vector_at_skips : Skips vector_at
unfolding vector_at
vector_at_skips p q n = simp (add_assoc, float_at_skips)

-- what the bytes of a vector read as
abbrev pub vector_again : D3DVECTOR → D3DVECTOR
vector_again v = record { x = again v.x; y = again v.y; z = again v.z }

pub vector_again_is : {v : D3DVECTOR} → vectorFits v → vector_again v ≡ v
vector_again_is h = rw (again_is h.x, again_is h.y, again_is h.z)

pub vector_at_starts : {v : D3DVECTOR} → vectorFits v → Starts vector_at (vector_bytes v) v
unfolding vector_at vector_bytes flatten float_at float_bytes little_bytes
vector_at_starts h rest = vector_again_is h

pub vector_at_fits : (bytes : List ℕ) (at : ℕ) → vectorFits (vector_at bytes at)
unfolding vector_at
vector_at_fits bytes at = record { x = float_at_fits bytes _; y = float_at_fits bytes _; z = float_at_fits bytes _ }
