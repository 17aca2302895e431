-- On every admissible list the functions refuse exactly as document 01 says of the abstract state: the operations by value and by the host, the refresh by value and by the host.
-- Assumes nothing.
use Prim.Native.Nat.{ℕ}
use mathlib.Core.Path.{◌≡◌, ◌∙◌}
use mathlib.Core.List.{List, [], ◌∷◌, ◌++◌}
use mathlib.Core.Option.{some}
use lib.Dec.{eqb}
use lib.Ieee.{Float}
use lib.ListN.{length}
use Rattle.sections.specs.declared.key.FfVsKey.{FfVsKey}
use Rattle.d3d9_model.specs.Operations.{Operation, abstract_refusal}
use Rattle.ff_state.specs.Operate.{operate}
use Rattle.agreement.proofs.Kept.{refused-alike}
use Rattle.refresh.specs.Answer.{refresh_number}
use Rattle.call_laws.specs.HostOperations.{HostOperation, host_answer, operation_of}
use Rattle.call_laws.proofs.HostOperations.{host_number}
use Rattle.trace.specs.Calls.{Lent, slice, Call}
use Rattle.trace.specs.World.{World, as_state, as_image, start}
use Rattle.trace.specs.Step.{refresh_refusal, ours, run}
use Rattle.trace.specs.Claim.{Admissible}
use Rattle.trace.proofs.Always.{Good, before_last}
use Rattle.trace.proofs.HostCalls.{host_refresh_code}
use Rattle.trace.proofs.Invariant.{by-value, image_accepted, by-host}
use Rattle.trace.proofs.Refusals.{refresh-number, host_refresh_number}

module _ (m : List Float) (long : length m ≡ 4460) (calls : List Call) (c : Call) (admissible : Admissible ours (start m) (calls ++ c ∷ [])) where
  abbrev w : World
  w = run ours calls (start m)

  good : Good w
  good = (before_last m long calls c admissible).0

  pub operation_answers : (op : Operation) → (operate (as_state w.stored) op).number ≡ abstract_refusal w.abstract op
  operation_answers op = let inv = by-value good.1 in refused-alike inv.valid inv.agrees op

  pub host_operation_answers : (h : HostOperation) (op : Operation) → operation_of h ≡ some op → (host_answer h (as_image w.stored)).code ≡ abstract_refusal w.abstract op
  host_operation_answers h op e =
      let inv = by-host good.1 in
      host_number h (as_image w.stored) (image_accepted good.1) op e ∙ refused-alike inv.valid inv.agrees op

  pub refresh_answers : (k : FfVsKey) (l : Lent Float)
      → refresh_number (ours.by_value (as_state w.stored) k (slice l)).result.answer ≡ refresh_refusal w.abstract k (eqb (length (slice l)) 4460)
  refresh_answers k l = let inv = by-value good.1 in refresh-number inv.valid inv.agrees k (slice l)

  pub host_refresh_answers : (k : FfVsKey) (l : Lent ℕ)
      → (ours.by_host (as_image w.stored) k (slice l) 0).code ≡ refresh_refusal w.abstract k (eqb (length (slice l)) 17_840)
  host_refresh_answers k l =
      let inv = by-host good.1 in
      host_refresh_code (as_image w.stored) k (slice l) (image_accepted good.1).taken ∙ host_refresh_number inv.valid inv.agrees k (slice l)
