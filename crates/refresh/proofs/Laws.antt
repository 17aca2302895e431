-- What an accepted refresh leaves: each section that was dirty holds its packing, all else in the mirror stands, no bit is dirty, and the state packs as before. A refused one changes nothing.
-- Assumes nothing.
use Prim.Native.Nat.{ℕ, ◌*◌, ◌<◌}
use mathlib.Core.Path.{◌≡◌, refl, sym, ap, subst, ◌∙◌}
use mathlib.Core.Bool.{true, false}
use mathlib.Core.List.{List}
use lib.Ieee.{Float, nan}
use lib.ListN.{length, get_or}
use Rattle.std.specs.Prelude.{Result, Ok, Err}
use Rattle.codec.proofs.Put.{Outside}
use Rattle.ff_state.specs.State.{dirty_word}
use Rattle.ff_state.specs.Dirty.{take_ff_vs_dirty}
use Rattle.ff_state.specs.Inputs.{same_inputs}
use Rattle.sections.specs.Sections.{sections, has_section}
use Rattle.sections.specs.declared.sections.Section.{Section}
use Rattle.ff_state.specs.declared.state.FfState.{FfState}
use Rattle.ff_state.proofs.Frame.{taken_same}
use Rattle.sections.specs.declared.key.FfVsKey.{FfVsKey}
use Rattle.packing.specs.Pack.{state_rows, state_count}
use Rattle.refresh.specs.Answer.{refresh_answer}
use Rattle.refresh.specs.Mirror.{RefreshOutcome, refreshed, refusal, acceptance, refresh_by, refresh_mirror}
use Rattle.refresh.specs.Written.{first_float, written}
use Rattle.refresh.specs.declared.answer.RefreshError.{RefreshError}
use Rattle.refresh.proofs.Answers.{accepted_fits}
use Rattle.refresh.proofs.Packed.{Ready}
use Rattle.refresh.proofs.Parts.{Holds}
use Rattle.refresh.proofs.Holding.{every_in, written-length, written_outside, written_off, written_on}

-- "Bits stay untaken", and "bits beside one are 0": state and mirror are as found
module _ (s : FfState) (k : FfVsKey) (m : List Float) (f : refresh_answer s k (length m) ≡ Ok tt → ⊥) where
  pub refused_same : refresh_mirror s k m ≡ refreshed (refusal (refresh_answer s k (length m)) s) m
  unfolding refresh_mirror refresh_by
  refused_same = go (refresh_answer s k (length m)) f
    where
      go : (a : Result Unit RefreshError) → (a ≡ Ok tt → ⊥) → refresh_by a s k m ≡ refreshed (refusal a s) m
      go (Ok u) n = absurd (n refl)
      go (Err e) n = refl

  pub refused_bits : (refresh_mirror s k m).result.bits ≡ 0
  refused_bits = ap (λ (o : RefreshOutcome). o.result.bits) refused_same

  pub refused_state : (refresh_mirror s k m).result.state ≡ s
  refused_state = ap (λ (o : RefreshOutcome). o.result.state) refused_same

  pub refused_mirror : (refresh_mirror s k m).floats ≡ m
  refused_mirror = ap (λ (o : RefreshOutcome). o.floats) refused_same

-- of a count that is a u8, 256 world matrices and 8 of textures
module _ (s : FfState) (k : FfVsKey) (m : List Float) (byte : k.vertex_blend_count < 256) (palette : length s.world_palette ≡ 256)
    (textures : length s.texture_transforms ≡ 8) (is : refresh_answer s k (length m) ≡ Ok tt) where
  ready : Ready s k
  ready = record { count = byte; palette = palette; textures = textures; mask = (accepted_fits s k (length m) is).mask }

  long : length m ≡ 4460
  long = (accepted_fits s k (length m) is).long

  -- the outcome
  pub accepted_is : refresh_mirror s k m ≡ refreshed (acceptance (take_ff_vs_dirty s)) (written sections (dirty_word s) s k m)
  unfolding refresh_mirror refresh_by take_ff_vs_dirty
  accepted_is = ap (λ (a : Result Unit RefreshError). refresh_by a s k m) is

  mirror_is : (refresh_mirror s k m).floats ≡ written sections (dirty_word s) s k m
  mirror_is = ap (λ (o : RefreshOutcome). o.floats) accepted_is

  state_is : (refresh_mirror s k m).result.state ≡ (take_ff_vs_dirty s).state
  state_is = ap (λ (o : RefreshOutcome). o.result.state) accepted_is

  -- "The answer is the bits taken."
  pub bits_taken : (refresh_mirror s k m).result.bits ≡ dirty_word s
  unfolding take_ff_vs_dirty
  bits_taken = ap (λ (o : RefreshOutcome). o.result.bits) accepted_is

  pub dirty_holds : (σ : Section) → has_section (dirty_word s) σ ≡ true → Holds (refresh_mirror s k m).floats (first_float σ) (state_rows σ s k)
  dirty_holds σ on =
      subst (λ (x : List Float). Holds x (first_float σ) (state_rows σ s k)) (sym mirror_is) (written_on ready (dirty_word s) sections σ (every_in σ) on m long)

  pub clean_holds : (σ : Section) → has_section (dirty_word s) σ ≡ false → (p : List Float) → length p ≡ 4 * state_count σ s k
      → Holds m (first_float σ) p → Holds (refresh_mirror s k m).floats (first_float σ) p
  clean_holds σ off p full h =
      subst (λ (x : List Float). Holds x (first_float σ) p) (sym mirror_is) (written_off ready (dirty_word s) sections σ off m p long full h)

  -- "Other rows keep their contents."
  pub others_stay : (i : ℕ) → ((σ : Section) → has_section (dirty_word s) σ ≡ true → Outside (first_float σ) (length (state_rows σ s k)) i)
      → get_or (refresh_mirror s k m).floats i nan ≡ get_or m i nan
  others_stay i out =
      ap (λ (x : List Float). get_or x i nan) mirror_is ∙ written_outside ready (dirty_word s) sections m long i out

  pub length_stays : length (refresh_mirror s k m).floats ≡ 4460
  length_stays = ap (λ (x : List Float). length x) mirror_is ∙ written-length ready (dirty_word s) sections m long

  pub none_dirty : dirty_word (refresh_mirror s k m).result.state ≡ 0
  unfolding take_ff_vs_dirty
  none_dirty = ap (λ (t : FfState). dirty_word t) state_is

  pub inputs_stay : (σ : Section) → same_inputs σ s (refresh_mirror s k m).result.state
  inputs_stay σ = subst (λ (t : FfState). same_inputs σ s t) (sym state_is) (taken_same s σ)
