-- A material of f32 values comes back from its bytes, and what is read is one.
use Prim.Native.Nat.{ℕ}
use native.Mathlib.Nat.{add_assoc}
use mathlib.Core.Path.{◌≡◌, sym, ◌∙◌}
use mathlib.Core.List.{List, flatten}
use lib.ListN.{length}
use Rattle.d3d9_types.specs.Material.{materialFits}
use Rattle.d3d9_types.specs.declared.material.D3DMATERIAL9.{D3DMATERIAL9}
use Rattle.codec.specs.Little.{little_bytes}
use Rattle.codec.specs.Put.{put}
use Rattle.codec.specs.Float.{float_bytes, float_at}
use Rattle.codec.specs.Matrix.{row_bytes, row_at}
use Rattle.codec.specs.Color.{color_bytes, color_at}
use Rattle.codec.specs.Material.{material_bytes, material_at}
use Rattle.codec.proofs.Put.{put_whole}
use Rattle.codec.proofs.Inside.{Skips, Starts}
use Rattle.codec.proofs.Laws.Float.{again, again_is, float_at_skips, float_at_fits}
use Rattle.codec.proofs.Laws.Color.{color_again, color_again_is, color_at_skips, color_at_fits}
pub use Rattle.codec.specs.Sizes.{length-material_bytes}

pub put-material_bytes : (m : D3DMATERIAL9) (out : List ℕ) → length out ≡ 68 → put 0 (material_bytes m) out ≡ material_bytes m
put-material_bytes m out e = put_whole (material_bytes m) out (e ∙ sym (length-material_bytes m))

pub material_at_skips : Skips material_at
unfolding material_at
material_at_skips p q n = simp (add_assoc, color_at_skips, float_at_skips)

again_is_it : {m : D3DMATERIAL9} → materialFits m
    → record {
      diffuse = color_again m.diffuse;
      ambient = color_again m.ambient;
      specular = color_again m.specular;
      emissive = color_again m.emissive;
      power = again m.power;
    }
    ≡ m
again_is_it h =
    rw
    (color_again_is h.diffuse, color_again_is h.ambient, color_again_is h.specular, color_again_is h.emissive, again_is h.power)

pub material_at_starts : {m : D3DMATERIAL9} → materialFits m → Starts material_at (material_bytes m) m
unfolding material_at color_at row_at material_bytes color_bytes row_bytes flatten float_at float_bytes little_bytes
material_at_starts h rest = again_is_it h

pub material_at_fits : (bytes : List ℕ) (at : ℕ) → materialFits (material_at bytes at)
unfolding material_at
material_at_fits bytes at =
    record {
      diffuse = color_at_fits bytes _;
      ambient = color_at_fits bytes _;
      specular = color_at_fits bytes _;
      emissive = color_at_fits bytes _;
      power = float_at_fits bytes _;
    }
