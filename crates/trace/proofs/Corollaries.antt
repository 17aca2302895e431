-- What a player can cite. Lists without overwriting leave no section wrong, since none is exempt; after a marking of all eight sections and an accepted refresh the whole mirror is right, whatever happened before, since the marking ends every exemption.
-- Assumes nothing.
use Prim.Native.Nat.{ℕ}
use native.Mathlib.Omega.{arith}
use mathlib.Core.Path.{◌≡◌, refl, sym, subst, ◌∙◌}
use mathlib.Core.Logic.{◌⊎◌, inl, inr, ⊎_elim}
use mathlib.Core.Bool.{true, false}
use mathlib.Core.List.{List, [], ◌∷◌, ◌++◌}
use mathlib.Core.Option.{some}
use lib.Ieee.{Float}
use lib.ListN.{length}
use Rattle.lemmas.proofs.Tests.{never, test}
use Rattle.sections.specs.declared.sections.Section.{Section}
use Rattle.sections.specs.Sections.{all_bits}
use Rattle.sections.specs.declared.key.FfVsKey.{FfVsKey}
use Rattle.d3d9_model.specs.Operations.{mark}
use Rattle.trace.specs.Calls.{Call, own, read_in, refresh, overwrite, host, host_on, operates}
use Rattle.call_laws.specs.HostOperations.{is_whole, said, operation_of}
use Rattle.trace.specs.Calls as Calls
use Rattle.trace.specs.World.{World, start, wrong_rows}
use Rattle.trace.specs.Step.{accepted_key, ours, step, run}
use Rattle.trace.specs.Claim.{Admissible}
use Rattle.trace.proofs.Allowed.{marks_all}
use Rattle.trace.proofs.Always.{always_right}
use Rattle.trace.proofs.Exempt.{Hits, only_hit, none_first, marking_ends, host_marking_ends}

-- what begins an admissible list is admissible: the claim, of a list's last call, holds of each of its calls
pub begins_admissible : (w : World) (calls after : List Call) → Admissible ours w (calls ++ after) → Admissible ours w calls
begins_admissible w [] after a = tt
begins_admissible w (c ∷ calls) after a = (a.0, begins_admissible (step ours c w) calls after a.1)

-- ---- lists without overwriting

abbrev pub Overwrites : Call → Type 0
Overwrites (own op) = ⊥
Overwrites (read_in bytes) = ⊥
Overwrites (refresh k l) = ⊥
Overwrites (overwrite r x y z t) = Unit {0}
Overwrites (host h) = ⊥
Overwrites (host_on bytes h) = ⊥
Overwrites Calls.Call.reads = ⊥

abbrev pub NoneOverwrites : List Call → Type 0
NoneOverwrites [] = Unit {0}
NoneOverwrites (c ∷ cs) = (Overwrites c → ⊥) × NoneOverwrites cs

hit_overwrites : (c : Call) (w : World) (σ : Section) → Hits c w σ → Overwrites c
hit_overwrites (own op) w σ h = h
hit_overwrites (read_in bytes) w σ h = h
hit_overwrites (refresh k l) w σ h = h
hit_overwrites (overwrite r x y z t) w σ h = tt
hit_overwrites (host c) w σ h = h
hit_overwrites (host_on bytes c) w σ h = h
hit_overwrites Calls.Call.reads w σ h = h

none_exempt : (c : Call) (w : World) (σ : Section) → (Hits c w σ → ⊥) → w.track.exempt σ ≡ false → (step ours c w).track.exempt σ ≡ false
none_exempt c w σ none-hits off = go (test ((step ours c w).track.exempt σ))
  where
    go : ((step ours c w).track.exempt σ ≡ true) ⊎ ((step ours c w).track.exempt σ ≡ false) → (step ours c w).track.exempt σ ≡ false
    go (inl on) = ⊎_elim (λ (e : w.track.exempt σ ≡ true). never (sym e ∙ off)) (λ (h : Hits c w σ). absurd (none-hits h)) (only_hit ours σ c w on)
    go (inr e) = e

none_exempt_all : (cs : List Call) (w : World) (σ : Section) → NoneOverwrites cs → w.track.exempt σ ≡ false → (run ours cs w).track.exempt σ ≡ false
unfolding run
none_exempt_all [] w σ none-hits off = off
none_exempt_all (c ∷ cs) w σ none-hits off = none_exempt_all cs (step ours c w) σ none-hits.1 (none_exempt c w σ (λ h. none-hits.0 (hit_overwrites c w σ h)) off)

-- an accepted refresh overwrites nothing
accepted_none : (c : Call) (w : World) (k : FfVsKey) (σ : Section) → accepted_key w c ≡ some k → Hits c w σ → ⊥
unfolding accepted_key
accepted_none (own op) w k σ e h = h
accepted_none (read_in bytes) w k σ e h = h
accepted_none (refresh j l) w k σ e h = h
accepted_none (overwrite r x y z t) w k σ e h = let q : ◌≡◌ {A = ℕ} 0 1 = cc in omega arith
accepted_none (host c) w k σ e h = h
accepted_none (host_on bytes c) w k σ e h = h
accepted_none Calls.Call.reads w k σ e h = h

-- "the mirror's zero count covers eight sections"
pub without_overwriting : (m : List Float) → length m ≡ 4460 → (calls : List Call) (c : Call) (k : FfVsKey) → NoneOverwrites calls
    → Admissible ours (start m) (calls ++ c ∷ []) → let w = run ours calls (start m) in accepted_key w c ≡ some k → (σ : Section) → wrong_rows (step ours c w) k σ ≡ 0
without_overwriting m long calls c k none-hits admissible e σ =
    let w = run ours calls (start m) in
    always_right m long calls c k admissible e σ
    (none_exempt c w σ (accepted_none c w k σ e) (none_exempt_all calls (start m) σ none-hits (none_first ours σ m)))

-- ---- a player that loses its rows

run_last : (calls : List Call) (c : Call) (w : World) → run ours (calls ++ c ∷ []) w ≡ step ours c (run ours calls w)
unfolding run
run_last [] c w = refl
run_last (b ∷ calls) c w = run_last calls c (step ours b w)

-- a marking of every section, by value or by the host
abbrev pub MarksAll : Call → Type 0
MarksAll c = (c ≡ own (mark all_bits)) ⊎ (c ≡ host (operates (mark all_bits)))

marking_clears : (c : Call) → MarksAll c → (w : World) (σ : Section) → (step ours c w).track.exempt σ ≡ false
unfolding operation_of is_whole said
marking_clears c (inl e) w σ = rw e (marking_ends ours σ (mark all_bits) w (marks_all w.abstract σ))
marking_clears c (inr e) w σ = rw e (host_marking_ends ours σ (mark all_bits) (mark all_bits) w refl (marks_all w.abstract σ))

-- "a player that loses its rows must recover without a restart": after any admissible calls, a marking and an accepted refresh
module _ (m : List Float) (long : length m ≡ 4460) (calls : List Call) (marking c : Call) (k : FfVsKey) (all : MarksAll marking) where
  abbrev lost : World
  lost = run ours calls (start m)

  abbrev marked : World
  marked = step ours marking lost

  clear : accepted_key marked c ≡ some k → (σ : Section) → (step ours c marked).track.exempt σ ≡ false
  clear e σ = none_exempt c marked σ (accepted_none c marked k σ e) (marking_clears marking all lost σ)

  pub marking_recovers : Admissible ours (start m) ((calls ++ marking ∷ []) ++ c ∷ []) → accepted_key marked c ≡ some k → (σ : Section) → wrong_rows (step ours c marked) k σ ≡ 0
  marking_recovers admissible e σ = right σ (clear e σ)
    where
      is : run ours (calls ++ marking ∷ []) (start m) ≡ marked
      is = run_last calls marking (start m)

      right : (τ : Section) → (step ours c marked).track.exempt τ ≡ false → wrong_rows (step ours c marked) k τ ≡ 0
      right τ off =
          subst (λ (w : World). accepted_key w c ≡ some k → (step ours c w).track.exempt τ ≡ false → wrong_rows (step ours c w) k τ ≡ 0) is
          (λ q. always_right m long (calls ++ marking ∷ []) c k admissible q τ) e off
