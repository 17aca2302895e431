-- The calls on row counts of docs/INTERFACE.md. They refuse 9 alone.
use Rattle.std.specs.Prelude.{ℕ, List}
use Rattle.sections.specs.declared.sections.Section.{Section}
use Rattle.calls.specs.Answer.{Answer}
use Rattle.calls.specs.Call.{reading, none}
use Rattle.sections.specs.RowCount as RowCount
use Rattle.sections.specs.declared.key.FfVsKey.{FfVsKey}
use Rattle.packing.specs.Pack.{state_count}
use Rattle.packing.specs.Inputs.{inputs_of}

abbrev pub ff_section_rows : Section → List ℕ → FfVsKey → ℕ → Answer ℕ
ff_section_rows σ image k = reading none (λ s. state_count σ s k) 0 image

abbrev pub host_row_count : List ℕ → FfVsKey → ℕ → Answer ℕ
host_row_count image k = reading none (λ s. RowCount.ff_vs_row_count k (inputs_of s).texture_mask) 0 image
