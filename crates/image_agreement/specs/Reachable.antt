-- The states that a program can come to by the public calls, from the fresh one: each gets the state as the last one left it.
use Rattle.std.specs.Prelude.{ℕ, ◌≡◌, List, [], ◌∷◌}
use Rattle.codec.specs.Little.{Bytes}
use Rattle.d3d9_model.specs.Operations.{Operation}
use Rattle.ff_state.specs.Dirty.{take_ff_vs_dirty}
use Rattle.ff_state.specs.Operate.{operate, OperationFits}
use Rattle.ff_state.specs.State.{fresh_state}
use Rattle.ff_state.specs.declared.state.FfState.{FfState}
use Rattle.image.specs.Read.{read_image}

-- refused ones too, which leave the state
pub data Change : Type 0 where
  operates : Operation → Change
  takes : Change
  reads_in : List ℕ → Change

unfoldable pub changed : FfState → Change → FfState
changed s (operates op) = (operate s op).state
changed s takes = (take_ff_vs_dirty s).state
changed s (reads_in bytes) = (read_image s bytes).state

unfoldable pub changed_all : FfState → List Change → FfState
changed_all s [] = s
changed_all s (c ∷ cs) = changed_all (changed s c) cs

-- arguments are values of their types
abbrev pub ChangeFits : Change → Type 0
ChangeFits (operates op) = OperationFits op
ChangeFits takes = Unit {0}
ChangeFits (reads_in bytes) = Bytes bytes

abbrev pub AllFit : List Change → Type 0
AllFit [] = Unit {0}
AllFit (c ∷ cs) = ChangeFits c × AllFit cs

pub record Reachable (s : FfState) : Type 0 where
  pub changes : List Change
  pub fit : AllFit changes
  pub is : changed_all fresh_state changes ≡ s
