-- A section without its bit after an operation was neither dirty before nor marked by it, and keeps its inputs.
-- Assumes nothing.
use mathlib.Core.Path.{◌≡◌, sym, ◌∙◌}
use mathlib.Core.Bool.{false}
use Rattle.lemmas.proofs.Tests.{neither}
use Rattle.sections.specs.Sections.{has_section}
use Rattle.sections.specs.declared.sections.Section.{Section}
use Rattle.ff_state.specs.State.{dirty_word}
use Rattle.ff_state.specs.Inputs.{same_inputs}
use Rattle.ff_state.specs.Operate.{operate}
use Rattle.ff_state.specs.Valid.{Valid}
use Rattle.ff_state.specs.declared.state.FfState.{FfState}
use Rattle.ff_state.proofs.Frame.{unmarked_same}
use Rattle.d3d9_model.specs.State.{AbstractState}
use Rattle.d3d9_model.specs.Operations.{Operation}
use Rattle.agreement.specs.Agrees.{Agrees}
use Rattle.agreement.proofs.Marks.{dirty_after}
use Rattle.trace.specs.World.{marks}

pub record Unmarked (s : FfState) (a : AbstractState) (op : Operation) (σ : Section) : Type 0 where
  pub clean : has_section (dirty_word s) σ ≡ false
  pub unmarked : marks a op σ ≡ false
  pub inputs : same_inputs σ s (operate s op).state

pub left_clean : {s : FfState} {a : AbstractState} → Valid s → Agrees s a → (op : Operation) (σ : Section)
    → has_section (dirty_word (operate s op).state) σ ≡ false → Unmarked s a op σ
unfolding marks
left_clean {s} {a} v g op σ off =
    let h = neither (has_section (dirty_word s) σ) (marks a op σ) (sym (dirty_after v g op σ) ∙ off) in
    record { clean = h.0; unmarked = h.1; inputs = unmarked_same s op σ off }
