-- The lights are those that are left and those that are done, and the mask is that of the done ones.
use Rattle.std.proofs.Common.{◌≡◌, List, ◌++◌}
use Rattle.d3d9_types.specs.declared.light.D3DLIGHT9.{D3DLIGHT9}
use Rattle.light_table.specs.Active.{kind_mask}
use Rattle.light_table.proofs.active.kind_mask.Given as goal

abbrev pub invariant-loop-light : goal.invariant-loop-light
invariant-loop-light l =
    (done : List D3DLIGHT9) × ((l.light-iterator.iter.rest.now ++ done ≡ l.fn.lights) × (l.mask ≡ kind_mask l.kind done))
