-- The steps of `inverse`, cited by no public contract: the minors of two rows, kept by their columns, and a column of the inverse.
use Rattle.std.specs.Prelude.{Float}
use Rattle.std.specs.Float.Ieee.{neg}
use Rattle.d3d9_types.specs.declared.matrix.Row.{Row}
use Rattle.matrix.specs.declared.inversion.Minors.{Minors}
use Rattle.matrix.specs.Inversion.{det2, sum3}
use Rattle.matrix.specs.Sum.{plus, times}

unfoldable pub minors_of : Row → Row → Minors
minors_of a b =
    record {
      xy = det2 a.x b.x a.y b.y;
      xz = det2 a.x b.x a.z b.z;
      xw = det2 a.x b.x a.w b.w;
      yz = det2 a.y b.y a.z b.z;
      yw = det2 a.y b.y a.w b.w;
      zw = det2 a.z b.z a.w b.w;
    }

unfoldable pub determinant_of : Minors → Minors → Float
determinant_of s c =
    plus (sum3 s.xy c.zw (neg s.xz) c.yw s.xw c.yz) (sum3 s.yz c.xw (neg s.yw) c.xz s.zw c.xy)

unfoldable pub negated_row : Row → Row
negated_row a = record { x = neg a.x; y = neg a.y; z = neg a.z; w = neg a.w }

unfoldable pub column_of : Row → Minors → Float → Row
column_of a n d =
    record {
      x = times (sum3 a.y n.zw (neg a.z) n.yw a.w n.yz) d;
      y = times (sum3 (neg a.x) n.zw a.z n.xw (neg a.w) n.xz) d;
      z = times (sum3 a.x n.yw (neg a.y) n.xw a.w n.xy) d;
      w = times (sum3 (neg a.x) n.yz a.y n.xz (neg a.z) n.xy) d;
    }
