-- A light that fits comes back from its bytes, and what is read from bytes is one.
use Prim.Native.Nat.{ℕ}
use native.Mathlib.Nat.{add_assoc}
use mathlib.Core.Path.{◌≡◌, sym, ◌∙◌}
use mathlib.Core.List.{List, flatten}
use lib.ListN.{length}
use Rattle.d3d9_types.specs.Light.{lightFits}
use Rattle.d3d9_types.specs.declared.light.D3DLIGHT9.{D3DLIGHT9}
use Rattle.codec.specs.Little.{little_bytes, little_number, Bytes}
use Rattle.codec.specs.Put.{put}
use Rattle.codec.specs.Float.{float_bytes, float_at}
use Rattle.codec.specs.Matrix.{row_bytes, row_at}
use Rattle.codec.specs.Color.{color_bytes, color_at}
use Rattle.codec.specs.Vector.{vector_bytes, vector_at}
use Rattle.codec.specs.Light.{light_bytes, light_at}
use Rattle.codec.proofs.Put.{put_whole}
use Rattle.codec.proofs.Inside.{Skips, Starts}
use Rattle.codec.proofs.Laws.Little.{little_number-little_bytes, number_at_skips, number_at_lt}
use Rattle.codec.proofs.Laws.Float.{again, again_is, float_at_skips, float_at_fits}
use Rattle.codec.proofs.Laws.Color.{color_again, color_again_is, color_at_skips, color_at_fits}
use Rattle.codec.proofs.Laws.Vector.{vector_again, vector_again_is, vector_at_skips, vector_at_fits}
pub use Rattle.codec.specs.Sizes.{length-light_bytes}

pub put-light_bytes : (l : D3DLIGHT9) (out : List ℕ) → length out ≡ 104 → put 0 (light_bytes l) out ≡ light_bytes l
put-light_bytes l out e = put_whole (light_bytes l) out (e ∙ sym (length-light_bytes l))

pub light_at_skips : Skips light_at
unfolding light_at
light_at_skips p q n = simp (add_assoc, number_at_skips, color_at_skips, vector_at_skips, float_at_skips)

again_is_it : {l : D3DLIGHT9} → lightFits l
    → record {
      type_ = little_number (little_bytes 4 l.type_);
      diffuse = color_again l.diffuse;
      specular = color_again l.specular;
      ambient = color_again l.ambient;
      position = vector_again l.position;
      direction = vector_again l.direction;
      range = again l.range;
      falloff = again l.falloff;
      attenuation0 = again l.attenuation0;
      attenuation1 = again l.attenuation1;
      attenuation2 = again l.attenuation2;
      theta = again l.theta;
      phi = again l.phi;
    }
    ≡ l
again_is_it {l} h =
    rw (
      little_number-little_bytes 4 l.type_ h.type_,
      color_again_is h.diffuse,
      color_again_is h.specular,
      color_again_is h.ambient,
      vector_again_is h.position,
      vector_again_is h.direction,
      again_is h.range,
      again_is h.falloff,
      again_is h.attenuation0,
      again_is h.attenuation1,
      again_is h.attenuation2,
      again_is h.theta,
      again_is h.phi,
    )

pub light_at_starts : {l : D3DLIGHT9} → lightFits l → Starts light_at (light_bytes l) l
unfolding light_at color_at row_at vector_at light_bytes color_bytes row_bytes vector_bytes flatten float_at float_bytes little_bytes
light_at_starts h rest = again_is_it h

pub light_at_fits : (bytes : List ℕ) (at : ℕ) → Bytes bytes → lightFits (light_at bytes at)
unfolding light_at
light_at_fits bytes at b =
    record {
      type_ = number_at_lt 4 bytes at b;
      diffuse = color_at_fits bytes _;
      specular = color_at_fits bytes _;
      ambient = color_at_fits bytes _;
      position = vector_at_fits bytes _;
      direction = vector_at_fits bytes _;
      range = float_at_fits bytes _;
      falloff = float_at_fits bytes _;
      attenuation0 = float_at_fits bytes _;
      attenuation1 = float_at_fits bytes _;
      attenuation2 = float_at_fits bytes _;
      theta = float_at_fits bytes _;
      phi = float_at_fits bytes _;
    }
