-- What the read of a light answers for what the abstract state holds.
use Rattle.std.proofs.Math.Option.{Option, none, some}
use Rattle.std.specs.Prelude.{Some, None}
use Rattle.std.specs.Prelude as Std
use Rattle.d3d9_types.specs.declared.light.D3DLIGHT9.{D3DLIGHT9}
use Rattle.d3d9_model.specs.State.{AbstractLight}

unfoldable pub light_read : Option AbstractLight → Std.Option D3DLIGHT9
light_read none = None
light_read (some l) = Some l.light
