-- Each field of a written image reads as what was written.
-- Assumes nothing.
use Prim.Native.Nat.{ℕ, ◌^◌, ◌<◌}
use native.Mathlib.Omega.{arith}
use mathlib.Core.Path.{◌≡◌}
use mathlib.Core.List.{List}
use lib.ListN.{length, get_or}
use Rattle.codec.specs.Little.{little_bytes, number_at}
use Rattle.codec.specs.Material.{material_bytes, material_at}
use Rattle.codec.specs.Matrix.{matrix_bytes, matrix_at}
use Rattle.codec.specs.Light.{light_bytes, light_at}
use Rattle.codec.specs.RenderStates.{states_bytes, states_at}
use Rattle.codec.proofs.Laws.Little.{number_at_skips, number_at_starts}
use Rattle.codec.proofs.Laws.Light.{light_at_skips}
use Rattle.codec.proofs.Laws.Material.{material_at_skips, material_at_starts}
use Rattle.codec.proofs.Laws.Matrix.{matrix_at_skips, matrix_at_starts}
use Rattle.codec.proofs.Laws.RenderStates.{states_at_skips, states_at_starts}
use Rattle.d3d9_types.specs.Light.{default_light, lightFits}
use Rattle.d3d9_types.specs.Matrix.{matrixFits}
use Rattle.d3d9_types.specs.Material.{materialFits}
use Rattle.d3d9_types.specs.RenderStates.{statesFit}
use Rattle.d3d9_types.specs.declared.light.D3DLIGHT9.{D3DLIGHT9}
use Rattle.d3d9_types.specs.declared.material.D3DMATERIAL9.{D3DMATERIAL9}
use Rattle.d3d9_types.specs.declared.matrix.D3DMATRIX.{D3DMATRIX}
use Rattle.d3d9_types.specs.declared.render_states.RenderStates.{RenderStates}
use Rattle.light_table.specs.Entry.{zero_entry}
use Rattle.light_table.specs.declared.entry.OverflowLight.{OverflowLight}
use Rattle.ff_state.specs.State.{no_matrix, dirty_word}
use Rattle.ff_state.specs.declared.state.FfState.{FfState}
use Rattle.codec.specs.Entry.{entry_bytes, entry_at}
use Rattle.image_lists.specs.Lists.{list_bytes, list_at}
use Rattle.image_lists.proofs.Back.{entryFits, matrices_start, lights_start, entries_start}
use Rattle.codec.proofs.Laws.Entry.{entry_at_skips}
use Rattle.image_lists.proofs.Reading.{list_at_skips}
use Rattle.image.specs.Format.{image_bytes, image_table, Sized}
use Rattle.image.specs.Table.{field}
use Rattle.image.proofs.Format.{image_holds}
use Rattle.image.proofs.Held.{HoldsField, held_reads}

-- the fields of a written image by name
pub record Written (s : FfState) (bytes : List ℕ) : Type 0 where
  pub view : HoldsField bytes (field 0 (matrix_bytes s.view))
  pub projection : HoldsField bytes (field 64 (matrix_bytes s.projection))
  pub palette : HoldsField bytes (field 128 (list_bytes matrix_bytes s.world_palette))
  pub texture : HoldsField bytes (field 16_512 (list_bytes matrix_bytes s.texture_transforms))
  pub material : HoldsField bytes (field 17_024 (material_bytes s.material))
  pub lights : HoldsField bytes (field 17_092 (list_bytes light_bytes s.lights))
  pub enabled : HoldsField bytes (field 17_924 (little_bytes 1 s.light_enabled))
  pub defined : HoldsField bytes (field 17_925 (little_bytes 1 s.light_defined_mask))
  pub dirty : HoldsField bytes (field 17_926 (little_bytes 1 (dirty_word s)))
  pub zero : HoldsField bytes (field 17_927 (little_bytes 1 0))
  pub index : HoldsField bytes (field 17_928 (little_bytes 2 s.world_palette_high_water))
  pub count : HoldsField bytes (field 17_930 (little_bytes 2 s.overflow_count))
  pub entries : HoldsField bytes (field 17_932 (list_bytes entry_bytes s.overflow_lights))
  pub states : HoldsField bytes (field 24_204 (states_bytes s.render_states))
  pub texture-mask : HoldsField bytes (field 24_220 (little_bytes 4 s.tt_active_mask))

pub written : (s : FfState) → Sized s → Written s (image_bytes s)
unfolding image_table
written s z =
    let h₁ = image_holds s z in
    let h₂ = h₁.1 in
    let h₃ = h₂.1 in
    let h₄ = h₃.1 in
    let h₅ = h₄.1 in
    let h₆ = h₅.1 in
    let h₇ = h₆.1 in
    let h₈ = h₇.1 in
    let h₉ = h₈.1 in
    let h₁₀ = h₉.1 in
    let h₁₁ = h₁₀.1 in
    let h₁₂ = h₁₁.1 in
    let h₁₃ = h₁₂.1 in
    let h₁₄ = h₁₃.1 in
    let h₁₅ = h₁₄.1 in
    record {
      view = h₁.0;
      projection = h₂.0;
      palette = h₃.0;
      texture = h₄.0;
      material = h₅.0;
      lights = h₆.0;
      enabled = h₇.0;
      defined = h₈.0;
      dirty = h₉.0;
      zero = h₁₀.0;
      index = h₁₁.0;
      count = h₁₂.0;
      entries = h₁₃.0;
      states = h₁₄.0;
      texture-mask = h₁₅.0;
    }

-- ---- what a field that stands at its place reads as

module _ {bytes : List ℕ} {at : ℕ} where
  pub number_reads : (k n : ℕ) → n < 256 ^ k → HoldsField bytes (field at (little_bytes k n)) → number_at k bytes at ≡ n
  number_reads k n less = held_reads (number_at k) (number_at_skips k) (number_at_starts k n less)

  -- a byte's number in four bytes
  pub mask_reads : {n : ℕ} → n < 256 → HoldsField bytes (field at (little_bytes 4 n)) → number_at 4 bytes at ≡ n
  mask_reads {n} less = number_reads 4 n (omega arith)

  pub matrix_reads : {m : D3DMATRIX} → matrixFits m → HoldsField bytes (field at (matrix_bytes m)) → matrix_at bytes at ≡ m
  matrix_reads fits = held_reads matrix_at matrix_at_skips (matrix_at_starts fits)

  pub material_reads : {m : D3DMATERIAL9} → materialFits m → HoldsField bytes (field at (material_bytes m)) → material_at bytes at ≡ m
  material_reads fits = held_reads material_at material_at_skips (material_at_starts fits)

  pub states_read : {r : RenderStates} → statesFit r → HoldsField bytes (field at (states_bytes r)) → states_at bytes at ≡ r
  states_read fits = held_reads states_at states_at_skips (states_at_starts fits)

  -- a list of n items, each of which fits
  pub matrices_read : (n : ℕ) (ms : List D3DMATRIX) → length ms ≡ n → ((i : ℕ) → i < n → matrixFits (get_or ms i no_matrix)) → HoldsField bytes (field at (list_bytes matrix_bytes ms))
      → list_at matrix_at 64 n bytes at ≡ ms
  matrices_read n ms e fits =
      held_reads (list_at matrix_at 64 n) (list_at_skips matrix_at 64 matrix_at_skips n) (rw e at (matrices_start no_matrix ms (rw e fits)))

  pub lights_read : (n : ℕ) (ls : List D3DLIGHT9) → length ls ≡ n → ((i : ℕ) → i < n → lightFits (get_or ls i default_light)) → HoldsField bytes (field at (list_bytes light_bytes ls))
      → list_at light_at 104 n bytes at ≡ ls
  lights_read n ls e fits =
      held_reads (list_at light_at 104 n) (list_at_skips light_at 104 light_at_skips n) (rw e at (lights_start default_light ls (rw e fits)))

  pub entries_read : (n : ℕ) (es : List OverflowLight) → length es ≡ n → ((i : ℕ) → i < n → entryFits (get_or es i zero_entry)) → HoldsField bytes (field at (list_bytes entry_bytes es))
      → list_at entry_at 112 n bytes at ≡ es
  entries_read n es e fits =
      held_reads (list_at entry_at 112 n) (list_at_skips entry_at 112 entry_at_skips n) (rw e at (entries_start zero_entry es (rw e fits)))
