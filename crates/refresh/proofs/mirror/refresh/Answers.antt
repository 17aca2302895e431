-- Beside a refusal the state that was lent is as it was.
use Rattle.std.proofs.Common.{◌≡◌, ◌∙◌, List, Float, Result, Ok, Err, sym, ap, length}
use Rattle.std.proofs.lemmas.Result.{err_from_is_err_and}
use Rattle.ff_state.specs.declared.state.FfState.{FfState}
use Rattle.sections.specs.declared.key.FfVsKey.{FfVsKey}
use Rattle.refresh.specs.Answer.{refresh_answer}
use Rattle.refresh.specs.Mirror.{RefreshOutcome, refreshed, refusal, refresh_by, refresh_mirror}
use Rattle.refresh.specs.declared.answer.RefreshError.{RefreshError}
use Rattle.refresh.proofs.mirror.refresh.Goals as goal

module _ (s t : FfState) (k : FfVsKey) (m n : List Float) (e : RefreshError) where
  same_by : (a : Result Unit RefreshError) → refreshed (refusal (Err e) t) n ≡ refresh_by a s k m → refreshed (refusal (Err e) s) n ≡ refresh_by a s k m
  unfolding refresh_by
  same_by (Ok u) q = let p = ap (λ (o : RefreshOutcome). o.result.answer) q in cc
  same_by (Err x) q = ap (λ (z : FfState). refreshed (refusal (Err e) z) n) (sym (ap (λ (o : RefreshOutcome). o.result.state) q)) ∙ q

  same : refreshed (refusal (Err e) t) n ≡ refresh_mirror s k m → refreshed (refusal (Err e) s) n ≡ refresh_mirror s k m
  unfolding refresh_mirror
  same = same_by (refresh_answer s k (length m))

pub returns-in_err-bits : goal.returns-in_err-bits
returns-in_err-bits c =
    let p = err_from_is_err_and c.from_residual.result c.from_residual.ensures.1 in
    rw (p.1, p.2) (same c.args.s _ c.args.key c.args.mirror.now _ _ c.in_err-bits.ensures)
