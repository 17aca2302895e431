-- Every call that changes the state, as one operation, and the operations whose arguments a program can hold.
use Rattle.std.specs.Prelude.{ℕ, ◌<◌}
use Rattle.d3d9_types.specs.Numbers.{float_fits}
use Rattle.d3d9_types.specs.Matrix.{matrixFits}
use Rattle.d3d9_types.specs.Material.{materialFits}
use Rattle.d3d9_types.specs.Light.{lightFits}
use Rattle.d3d9_model.specs.Operations.{Operation, set_transform, multiply_transform, set_material, set_light, enable_light, set_fog_start, set_fog_end, set_fog_density, set_ambient, set_texture_mask, mark}
use Rattle.ff_state.specs.Transforms as Transforms
use Rattle.ff_state.specs.Material as Material
use Rattle.ff_state.specs.RenderStates as RenderStates
use Rattle.ff_state.specs.Lights as Lights
use Rattle.ff_state.specs.Dirty as Dirty
use Rattle.ff_state.specs.declared.state.FfState.{FfState}

-- document 01's number of the answer, and the state afterwards
pub record Operated : Type 0 where
  pub number : ℕ
  pub state : FfState

unfoldable pub operate : FfState → Operation → Operated
operate s (set_transform n m) = let r = Transforms.set_transform s n m in record { number = Transforms.transform_number r.answer; state = r.state }
operate s (multiply_transform n m) = let r = Transforms.multiply_transform s n m in record { number = Transforms.transform_number r.answer; state = r.state }
operate s (set_material m) = record { number = 0; state = Material.set_material s m }
operate s (set_light i l) = let r = Lights.set_light_at s i l in record { number = Lights.light_number r.answer; state = r.state }
operate s (enable_light i on) = let r = Lights.set_light_enabled_at s i on in record { number = Lights.light_number r.answer; state = r.state }
operate s (set_fog_start x) = record { number = 0; state = RenderStates.set_fog_start s x }
operate s (set_fog_end x) = record { number = 0; state = RenderStates.set_fog_end s x }
operate s (set_fog_density x) = record { number = 0; state = RenderStates.set_fog_density s x }
operate s (set_ambient c) = record { number = 0; state = RenderStates.set_ambient s c }
operate s (set_texture_mask t) = record { number = 0; state = RenderStates.set_texture_mask s t }
operate s (mark bits) = let r = Dirty.mark_ff_vs_dirty s bits in record { number = Dirty.mark_number r.answer; state = r.state }

-- floats are f32 values, an index and a colour a u32, a mask a u8
abbrev pub OperationFits : Operation → Type 0
OperationFits (set_transform n m) = matrixFits m
OperationFits (multiply_transform n m) = matrixFits m
OperationFits (set_material m) = materialFits m
OperationFits (set_light i l) = (i < 0x1_0000_0000) × lightFits l
OperationFits (enable_light i on) = i < 0x1_0000_0000
OperationFits (set_fog_start x) = float_fits x
OperationFits (set_fog_end x) = float_fits x
OperationFits (set_fog_density x) = float_fits x
OperationFits (set_ambient c) = c < 0x1_0000_0000
OperationFits (set_texture_mask t) = t < 256
OperationFits (mark bits) = Unit {0}
