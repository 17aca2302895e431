-- The bits of the slots that were handed out stand, as `Masked` says, whatever test the closure makes; the lights from the next slot on are left.
use Rattle.std.proofs.Common.{◌≡◌, ◌<◌, ◌^◌, ◌&&◌, ℕ, Bool, drop}
use Rattle.words.specs.Bits.{has_bit}
use Rattle.image_lists.specs.Masks.{type_at}
use Rattle.image_lists.proofs.Mask.{Masked}
use Rattle.image_lists.proofs.masks.mask.Given as goal

abbrev pub invariant-loop-i : goal.invariant-loop-i
invariant-loop-i g l =
    (l.i-iterator.a.end ≡ 8)
    × (l.i-iterator.b.rest.now ≡ drop l.i-iterator.a.start l.fn.lights)
    × ((p : ℕ → Bool) → ((n : ℕ) → (b : Bool) → n < 2 ^ 32 → g.F.Fn.post l.fn.passes (n, tt) b → b ≡ p n)
    → Masked (λ (i : ℕ). has_bit l.fn.defined i && p (type_at l.fn.lights i)) l.fn.lights l.mask l.i-iterator.a.start)
