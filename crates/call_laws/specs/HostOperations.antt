-- The host's calls that change a state, as operations: the definition of each, what its item says, and document 01's number of its refusal. Document 01, 'State image'; document 02, T-05.
use Rattle.std.specs.Prelude.{ℕ, ◌<◌, Bool, true, cond, not, List, eqb, length}
use Rattle.std.proofs.Math.Option.{Option, none, some}
use Rattle.std.specs.Float.{binary32}
use Rattle.std.specs.Float.Ieee.{of_bits}
use Rattle.codec.specs.Little.{Bytes}
use Rattle.codec.specs.Matrix.{matrix_at}
use Rattle.codec.specs.Material.{material_at}
use Rattle.codec.specs.Light.{light_at}
use Rattle.d3d9_model.specs.Operations.{OperationOn, Operation, set_transform, multiply_transform, set_material, set_light, enable_light, set_fog_start, set_fog_end, set_fog_density, set_ambient, set_texture_mask, mark, abstract_refusal}
use Rattle.image_reasons.specs.Reasons.{refused}
use Rattle.image_model.specs.Abstract.{image_abstract}
use Rattle.calls.specs.Answer.{Answer}
use Rattle.calls.specs.Bits.{ff_mark_ff_vs_dirty}
use Rattle.calls.specs.Materials.{ff_set_material}
use Rattle.calls.specs.RenderStates.{ff_set_fog_start, ff_set_fog_end, ff_set_fog_density, ff_set_ambient, ff_set_texture_mask}
use Rattle.transform_calls.specs.Transforms.{ff_set_transform, ff_multiply_transform}
use Rattle.light_calls.specs.Lights.{ff_set_light_at, ff_set_light_enabled_at}

-- their items cross as bytes, an enable and a float's bits as numbers
abbrev pub HostOperation : Type 0
HostOperation = OperationOn (List ℕ) (List ℕ) (List ℕ) ℕ ℕ

-- what the host's function gives: its number, and the image afterwards
unfoldable pub host_answer : HostOperation → List ℕ → Answer (List ℕ)
host_answer (set_transform n m) image = ff_set_transform image n m
host_answer (multiply_transform n m) image = ff_multiply_transform image n m
host_answer (set_material m) image = ff_set_material image m
host_answer (set_light i l) image = ff_set_light_at image i l
host_answer (enable_light i on) image = ff_set_light_enabled_at image i on
host_answer (set_fog_start bits) image = ff_set_fog_start image bits
host_answer (set_fog_end bits) image = ff_set_fog_end image bits
host_answer (set_fog_density bits) image = ff_set_fog_density image bits
host_answer (set_ambient color) image = ff_set_ambient image color
host_answer (set_texture_mask mask) image = ff_set_texture_mask image mask
host_answer (mark bits) image = ff_mark_ff_vs_dirty image bits

-- a matrix is 64 bytes, a material 68, a light 104
unfoldable pub is_whole : HostOperation → Bool
is_whole (set_transform n m) = eqb (length m) 64
is_whole (multiply_transform n m) = eqb (length m) 64
is_whole (set_material m) = eqb (length m) 68
is_whole (set_light i l) = eqb (length l) 104
is_whole (enable_light i on) = true
is_whole (set_fog_start bits) = true
is_whole (set_fog_end bits) = true
is_whole (set_fog_density bits) = true
is_whole (set_ambient color) = true
is_whole (set_texture_mask mask) = true
is_whole (mark bits) = true

-- what the bytes say; any number but 0 enables, and any NaN pattern is the NaN
unfoldable pub said : HostOperation → Operation
said (set_transform n m) = set_transform n (matrix_at m 0)
said (multiply_transform n m) = multiply_transform n (matrix_at m 0)
said (set_material m) = set_material (material_at m 0)
said (set_light i l) = set_light i (light_at l 0)
said (enable_light i on) = enable_light i (not (eqb on 0))
said (set_fog_start bits) = set_fog_start (of_bits binary32 bits)
said (set_fog_end bits) = set_fog_end (of_bits binary32 bits)
said (set_fog_density bits) = set_fog_density (of_bits binary32 bits)
said (set_ambient color) = set_ambient color
said (set_texture_mask mask) = set_texture_mask mask
said (mark bits) = mark bits

-- an item of another length says none
unfoldable pub operation_of : HostOperation → Option Operation
operation_of h = cond (is_whole h) (some (said h)) none

-- a refusal, or the next one where there is none
abbrev first : ℕ → ℕ → ℕ
first n next = cond (eqb n 0) next n

-- "9 goes before the call's own refusals"; "A slice of another length than its item's is refused 4, after 9 and before anything else except the refusals of a wrong state or index."
unfoldable pub host_refusal : List ℕ → HostOperation → ℕ
host_refusal image h = cond (refused image) 9 (first (abstract_refusal (image_abstract image) (said h)) (cond (is_whole h) 0 4))

-- arguments are values of their types: bytes, u32 numbers, a mask of a byte
abbrev pub ItemFits : HostOperation → Type 0
ItemFits (set_transform n m) = Bytes m
ItemFits (multiply_transform n m) = Bytes m
ItemFits (set_material m) = Bytes m
ItemFits (set_light i l) = (i < 0x1_0000_0000) × Bytes l
ItemFits (enable_light i on) = i < 0x1_0000_0000
ItemFits (set_fog_start bits) = bits < 0x1_0000_0000
ItemFits (set_fog_end bits) = bits < 0x1_0000_0000
ItemFits (set_fog_density bits) = bits < 0x1_0000_0000
ItemFits (set_ambient color) = color < 0x1_0000_0000
ItemFits (set_texture_mask mask) = mask < 256
ItemFits (mark bits) = Unit {0}
