-- Two directions, the second of components 2 ^ t times as large, whose sums of squares differ by 2 ^ (2 t): their lengths differ by 2 ^ t, and their unit directions are the same.
-- Assumes nothing.
use Prim.Native.Nat.{ℕ, ◌+◌, ◌*◌, ◌^◌, ◌<◌}
use native.Mathlib.Nat.{le_trans, le_of_eq, lt_of_le_of_lt, le-mul_of_pos_right, mul-pos}
use mathlib.Core.Path.{◌≡◌, sym, ap, subst, ◌∙◌}
use mathlib.Core.Bool.{Bool, false, cond}
use mathlib.Core.List.{[], ◌∷◌}
use lib.Pow.{pow_pos}
use lib.Ieee.Exact.{HasValue}
use Rattle.d3d9_types.specs.declared.vector.D3DVECTOR.{D3DVECTOR}
use Rattle.matrix.specs.Sum.{times}
use Rattle.matrix.proofs.Fits.{sum_fits}
use Rattle.directions.specs.Direction.{length_of, over, no_direction, over_length}
use Rattle.direction_laws.specs.Domain.{sum_of_squares}
use Rattle.float32.proofs.Grid.{unit}
use Rattle.direction_laws.proofs.Sum.{total}
use Rattle.direction_laws.proofs.Steps.{limit, sum_value}
use Rattle.direction_laws.proofs.Length.{root, root_value, root_moved, root_above, exceeds, quotient_same}

module _ (d e : D3DVECTOR) (r s u : Bool) (a b c t : ℕ)
    (x : HasValue d.x r a unit) (y : HasValue d.y s b unit) (z : HasValue d.z u c unit)
    (x' : HasValue e.x r (a * 2 ^ t) unit) (y' : HasValue e.y s (b * 2 ^ t) unit) (z' : HasValue e.z u (c * 2 ^ t) unit) where
  abbrev n : ℕ
  n = total a b c

  module _ (some : 0 < n) (small : total (a * 2 ^ t) (b * 2 ^ t) (c * 2 ^ t) < limit) (is : total (a * 2 ^ t) (b * 2 ^ t) (c * 2 ^ t) ≡ n * 2 ^ (t + t)) where
    sum_d : HasValue (sum_of_squares d) false n unit
    sum_d = sum_value d.x d.y d.z r s u a b c x y z (lt_of_le_of_lt (le_trans (le-mul_of_pos_right n (pow_pos (t + t))) (le_of_eq (sym is))) small)

    sum_e : HasValue (sum_of_squares e) false (n * 2 ^ (t + t)) unit
    sum_e = subst (λ (i : ℕ). HasValue (sum_of_squares e) false i unit) is (sum_value e.x e.y e.z r s u (a * 2 ^ t) (b * 2 ^ t) (c * 2 ^ t) x' y' z' small)

    above : 0 < root n
    above = root_above (sum_of_squares d) n (sum_fits (times d.x d.x ∷ times d.y d.y ∷ times d.z d.z ∷ [])) sum_d some

    length_d : HasValue (length_of d) false (root n) unit
    unfolding length_of
    length_d = root_value (sum_of_squares d) n sum_d some

    length_e : HasValue (length_of e) false (root n * 2 ^ t) unit
    unfolding length_of
    length_e = subst (λ (i : ℕ). HasValue (length_of e) false i unit) (root_moved n t some) (root_value (sum_of_squares e) (n * 2 ^ (t + t)) sum_e (mul-pos some (pow_pos (t + t))))

    divided : (v : D3DVECTOR) (k : ℕ) → HasValue (length_of v) false k unit → 0 < k → over_length v ≡ over v (length_of v)
    unfolding over_length
    divided v k h p = ap (λ (q : Bool). cond q (over v (length_of v)) no_direction) (exceeds (length_of v) k h p)

    pub same : over_length d ≡ over_length e
    same =
        divided d (root n) length_d above
        ∙ (λ i. record {
          x = quotient_same d.x (length_of d) e.x (length_of e) r a (root n) t x length_d x' length_e above i;
          y = quotient_same d.y (length_of d) e.y (length_of e) s b (root n) t y length_d y' length_e above i;
          z = quotient_same d.z (length_of d) e.z (length_of e) u c (root n) t z length_d z' length_e above i;
        })
        ∙ sym (divided e (root n * 2 ^ t) length_e (mul-pos above (pow_pos t)))
