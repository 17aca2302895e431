-- Every reachable state is valid: the fresh one is, and each call keeps it. What a call leaves of a reachable state is reachable. Assumes nothing.
use mathlib.Core.Path.{◌≡◌, refl, ap, subst, ◌∙◌}
use mathlib.Core.List.{List, [], ◌∷◌, ◌++◌}
use Rattle.ff_state.specs.State.{fresh_state}
use Rattle.ff_state.specs.Valid.{Valid}
use Rattle.ff_state.specs.declared.state.FfState.{FfState}
use Rattle.agreement.proofs.Dirty.{taken_valid}
use Rattle.agreement.proofs.Fresh.{fresh_valid}
use Rattle.agreement.proofs.Kept.{valid_kept}
use Rattle.image_agreement.specs.Reachable.{Change, operates, takes, reads_in, changed, changed_all, ChangeFits, AllFit, Reachable}
use Rattle.image_agreement.proofs.ReadIn.{read_valid_kept}

change_valid : {s : FfState} (c : Change) → ChangeFits c → Valid s → Valid (changed s c)
unfolding changed
change_valid (operates op) f v = valid_kept v op f
change_valid takes f v = taken_valid v
change_valid {s} (reads_in bytes) f v = read_valid_kept s bytes f v

all_valid : (s : FfState) (cs : List Change) → AllFit cs → Valid s → Valid (changed_all s cs)
unfolding changed_all
all_valid s [] f v = v
all_valid s (c ∷ cs) f v = all_valid (changed s c) cs f.1 (change_valid c f.0 v)

pub reachable_valid : (s : FfState) → Reachable s → Valid s
reachable_valid s r = subst Valid r.is (all_valid fresh_state r.changes r.fit fresh_valid)

-- ---- one call more

pub fresh_reachable : Reachable fresh_state
unfolding changed_all
fresh_reachable = record { changes = []; fit = tt; is = refl }

all_then : (s : FfState) (cs : List Change) (c : Change) → changed_all s (cs ++ c ∷ []) ≡ changed (changed_all s cs) c
unfolding changed_all
all_then s [] c = refl
all_then s (b ∷ cs) c = all_then (changed s b) cs c

fit_then : (cs : List Change) (c : Change) → AllFit cs → ChangeFits c → AllFit (cs ++ c ∷ [])
fit_then [] c f g = (g, tt)
fit_then (b ∷ cs) c f g = (f.0, fit_then cs c f.1 g)

pub change_reachable : (s : FfState) → Reachable s → (c : Change) → ChangeFits c → Reachable (changed s c)
change_reachable s r c f =
    record {
      changes = r.changes ++ c ∷ [];
      fit = fit_then r.changes c r.fit f;
      is = all_then fresh_state r.changes c ∙ ap (λ (t : FfState). changed t c) r.is;
    }
