-- Matrices, lights and entries that fit come back from their bytes.
-- Assumes nothing.
use Prim.Native.Nat.{ℕ, ◌<◌, ◌^◌}
use mathlib.Core.List.{List}
use lib.ListN.{length, get_or}
use Rattle.d3d9_types.specs.Light.{lightFits}
use Rattle.d3d9_types.specs.Matrix.{matrixFits}
use Rattle.d3d9_types.specs.declared.light.D3DLIGHT9.{D3DLIGHT9}
use Rattle.d3d9_types.specs.declared.matrix.D3DMATRIX.{D3DMATRIX}
use Rattle.codec.specs.Light.{light_bytes, light_at}
use Rattle.codec.specs.Matrix.{matrix_bytes, matrix_at}
use Rattle.codec.proofs.Inside.{Starts}
use Rattle.codec.proofs.Laws.Light.{length-light_bytes, light_at_skips, light_at_starts}
use Rattle.codec.proofs.Laws.Matrix.{length-matrix_bytes, matrix_at_skips, matrix_at_starts}
use Rattle.light_table.specs.declared.entry.OverflowLight.{OverflowLight}
use Rattle.codec.specs.Entry.{entry_bytes, entry_at}
use Rattle.image_lists.specs.Lists.{list_bytes, list_at}
use Rattle.codec.proofs.Laws.Entry.{length-entry_bytes, entry_at_skips, entry_at_starts}
use Rattle.image_lists.proofs.Reading.{list_at_starts}

pub matrices_start : (d : D3DMATRIX) (ms : List D3DMATRIX) → ((i : ℕ) → i < length ms → matrixFits (get_or ms i d)) → Starts (list_at matrix_at 64 (length ms)) (list_bytes matrix_bytes ms) ms
matrices_start d ms fit =
    list_at_starts matrix_at 64 matrix_at_skips matrix_bytes length-matrix_bytes d ms (λ (i : ℕ) (l : i < length ms). matrix_at_starts (fit i l))

pub lights_start : (d : D3DLIGHT9) (ls : List D3DLIGHT9) → ((i : ℕ) → i < length ls → lightFits (get_or ls i d)) → Starts (list_at light_at 104 (length ls)) (list_bytes light_bytes ls) ls
lights_start d ls fit =
    list_at_starts light_at 104 light_at_skips light_bytes length-light_bytes d ls (λ (i : ℕ) (l : i < length ls). light_at_starts (fit i l))

pub record entryFits (e : OverflowLight) : Type 0 where
  pub index : e.index < 2 ^ 32
  pub enabled : e.enabled < 2 ^ 32
  pub light : lightFits e.light

pub entries_start : (d : OverflowLight) (es : List OverflowLight) → ((i : ℕ) → i < length es → entryFits (get_or es i d)) → Starts (list_at entry_at 112 (length es)) (list_bytes entry_bytes es) es
entries_start d es fit =
    list_at_starts entry_at 112 entry_at_skips entry_bytes length-entry_bytes d es
    (λ (i : ℕ) (l : i < length es). entry_at_starts (fit i l).index (fit i l).enabled (fit i l).light)
