-- The cone of a spot light. Document 01, 'Rows of a section': "scale is 1 / larger of (ct − cp) and 1e-6; offset is (−cp) × scale. Other kinds have 0, 0." (ff_state.rs 1874–1881)
use Rattle.std.specs.Prelude.{ℕ, false, cond, eqb, negsuc, Float}
use Rattle.std.specs.Float.{fin, binary32}
use Rattle.std.specs.Float.Ieee.{sub, div, neg}
use Rattle.d3d9_types.specs.Numbers.{zero, one}
use Rattle.float32.specs.Cosine.{cos_of}
use Rattle.matrix.specs.Sum.{times}
use Rattle.light_rows.specs.Floor.{floored}
use Rattle.light_rows.specs.declared.cone.Cone.{Cone}

-- 0.5
abbrev pub half : Float
half = fin false 1 (negsuc 0)

-- "ct and cp are the cosines of theta × 0.5 and phi × 0.5"
unfoldable pub half_cosine : Float → Float
half_cosine angle = cos_of (times angle half)

unfoldable pub spot_scale : Float → Float → Float
spot_scale theta phi = div binary32 one (floored (sub binary32 (half_cosine theta) (half_cosine phi)))

unfoldable pub cone_of : ℕ → Float → Float → Cone
cone_of kind theta phi =
    cond (eqb kind 2)
    (record { scale = spot_scale theta phi; offset = times (neg (half_cosine phi)) (spot_scale theta phi) })
    (record { scale = zero; offset = zero })
