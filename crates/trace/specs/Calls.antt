-- The calls of a list. Document 01, 'The list and the count of demand 3'.
use Rattle.std.specs.Prelude.{ℕ, List, Float}
use Rattle.sections.specs.declared.key.FfVsKey.{FfVsKey}
use Rattle.d3d9_model.specs.Operations.{Operation}
use Rattle.call_laws.specs.HostOperations.{HostOperation}

-- the slice that a refresh is lent: the mirror's, or another
pub data Lent (A : Type 0) : Type 0 where
  the_mirror another : List A → Lent A

pub data HostCall : Type 0 where
  operates : HostOperation → HostCall
  refreshes : FfVsKey → Lent ℕ → HostCall
  -- reads, row counts, fills
  reads : HostCall

pub data Call : Type 0 where
  -- by value
  own : Operation → Call
  -- an image is read in
  read_in : List ℕ → Call
  refresh : FfVsKey → Lent Float → Call
  -- "overwritings, which put any floats in any rows": one row; several are several calls
  overwrite : ℕ → Float → Float → Float → Float → Call
  -- by the host, on the image that stands for the state, and on another one
  host : HostCall → Call
  host_on : List ℕ → HostCall → Call
  -- "Reads, row count, writing an image and packing into other buffers change neither and may fall anywhere."
  reads : Call

unfoldable pub slice : {A : Type 0} → Lent A → List A
slice (the_mirror m) = m
slice (another m) = m
