-- A tail of five different values: the twenty bytes that document 02, T-05, asks for, what they read as, and what the book holds of them; the fresh image has every dirty bit and is read.
-- The bytes are IEEE 754's of 1, 2 and 0.5, a colour's and a mask's, lowest first. Assumes nothing.
use native.Mathlib.Omega.{arith}
use mathlib.Core.Path.{◌≡◌, refl}
use mathlib.Core.Bool.{false}
use mathlib.Core.List.{List, [], ◌∷◌, flatten}
use lib.Ieee.{binary32, of_bits, to_bits}
use lib.Ieee.Bits.{of_bits-fits}
use lib.ListN.{take, drop}
use Rattle.codec.specs.Little.{little_bytes, number_at}
use Rattle.codec.specs.Float.{float_bytes}
use Rattle.codec.specs.RenderStates.{states_bytes}
use Rattle.d3d9_model.specs.Operations.{set_fog_start, set_fog_end, set_fog_density, set_ambient, set_texture_mask}
use Rattle.ff_state.specs.Dirty.{dirtied}
use Rattle.ff_state.specs.Operate.{operate}
use Rattle.ff_state.specs.RenderStates as Setters
use Rattle.ff_state.specs.State.{fresh_state}
use Rattle.ff_state.specs.Valid.{Valid}
use Rattle.ff_state.specs.declared.state.FfState.{FfState}
use Rattle.agreement.specs.Agrees.{Agrees}
use Rattle.agreement.proofs.Fresh.{fresh_valid}
use Rattle.image_reasons.specs.Reasons.{refused}
use Rattle.image_model.specs.Abstract.{image_abstract}
use Rattle.image.specs.Format.{image_bytes}
use Rattle.image.specs.Read.{state_of}
use Rattle.image.proofs.Format.{valid_sized}
use Rattle.image_laws.proofs.Fields.{written, number_reads}
use Rattle.image_laws.proofs.IsAt.{held_is, join}
use Rattle.image_laws.proofs.ReadWritten.{read_written}
use Rattle.image_laws.proofs.ValidAccepted.{valid_accepted}
use Rattle.image_agreement.specs.Reachable.{Change, operates, changed, changed_all}
use Rattle.image_agreement.proofs.Reachable.{reachable_valid}
use Rattle.image_agreement.proofs.ReadIn.{written_agrees}

abbrev setters : List Change
setters =
    operates (set_fog_start (of_bits binary32 0x3F80_0000))
    ∷ operates (set_fog_end (of_bits binary32 0x4000_0000))
    ∷ operates (set_fog_density (of_bits binary32 0x3F00_0000))
    ∷ operates (set_ambient 0xFF80_4020)
    ∷ operates (set_texture_mask 255)
    ∷ []

abbrev five : FfState
five = changed_all fresh_state setters

five_valid : Valid five
five_valid =
    reachable_valid five
    (record {
      changes = setters;
      fit = (of_bits-fits binary32 _, (of_bits-fits binary32 _, (of_bits-fits binary32 _, (omega arith, (omega arith, tt)))));
      is = refl;
    })

-- "in this order: three floats, colour u32, mask u32"
pub tail_bytes : take 20 (drop 24_204 (image_bytes five))
    ≡ 0x00 ∷ 0x00 ∷ 0x80 ∷ 0x3F ∷ 0x00 ∷ 0x00 ∷ 0x00 ∷ 0x40 ∷ 0x00 ∷ 0x00 ∷ 0x00 ∷ 0x3F ∷ 0x20 ∷ 0x40 ∷ 0x80 ∷ 0xFF ∷ 0xFF ∷ 0x00 ∷ 0x00 ∷ 0x00 ∷ []
unfolding changed_all changed operate Setters.set_fog_start Setters.set_fog_end Setters.set_fog_density Setters.set_ambient Setters.set_texture_mask dirtied fresh_state states_bytes flatten float_bytes little_bytes to_bits of_bits
tail_bytes =
    let w = written five (valid_sized five_valid) in
    join (states_bytes five.render_states) (little_bytes 4 five.tt_active_mask) (image_bytes five) 24_204 (held_is w.states) (held_is w.texture-mask)

-- the mask 255 among them is read
pub tail_read : (refused (image_bytes five) ≡ false) × (state_of (image_bytes five) ≡ five)
tail_read = (valid_accepted five five_valid, read_written five five_valid)

pub tail_held : Agrees five (image_abstract (image_bytes five))
tail_held = written_agrees five five_valid

-- "any dirty byte is read"; "A fresh state has … all eight bits"
pub fresh_dirty_byte : (number_at 1 (image_bytes fresh_state) 17_926 ≡ 255) × (refused (image_bytes fresh_state) ≡ false)
unfolding fresh_state
fresh_dirty_byte = (number_reads 1 255 (omega arith) (written fresh_state (valid_sized fresh_valid)).dirty, valid_accepted fresh_state fresh_valid)
