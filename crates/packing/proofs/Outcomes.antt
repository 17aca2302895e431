-- The outcomes of packing past the test of the length. Assumes nothing.
use Prim.Native.Nat.{◌*◌}
use mathlib.Core.Path.{◌≡◌, refl, sym, ap, ◌∙◌}
use mathlib.Core.Bool.{Bool, true, false, cond}
use mathlib.Core.List.{List}
use lib.Dec.{eqb}
use lib.Ieee.{Float}
use lib.ListN.{length}
use borrow.Author.Tests.{eqb-true}
use Rattle.std.specs.Prelude.{Result, Ok, Err}
use Rattle.sections.specs.declared.sections.Section.{Section}
use Rattle.ff_state.specs.declared.state.FfState.{FfState}
use Rattle.sections.specs.declared.key.FfVsKey.{FfVsKey}
use Rattle.packing.specs.Inputs.{mask_accepted, inputs_of}
use Rattle.packing.specs.Pack.{pack_outcome, pack_inputs, state_rows, pack_section, state_count}
use Rattle.packing.specs.declared.answer.PackError.{PackError}
use Rattle.packing.specs.declared.answer.PackError.TheVariants.{WrongLength, WrongMask}

-- what is known once the test of the length has passed
pub record Passed (σ : Section) (s : FfState) (k : FfVsKey) (dst : List Float) : Type 0 where
  pub long : length dst ≡ 4 * state_count σ s k
  pub another_mask : mask_accepted σ k (inputs_of s) ≡ false → pack_outcome (Err WrongMask) dst ≡ pack_section σ s k dst
  pub packs : mask_accepted σ k (inputs_of s) ≡ true → (xs : List Float) → xs ≡ state_rows σ s k → pack_outcome (Ok tt) xs ≡ pack_section σ s k dst

module _ (σ : Section) (s : FfState) (k : FfVsKey) (dst : List Float) {r : Result Unit PackError} (tested : r ≡ cond (eqb (length dst) (4 * state_count σ s k)) (Ok tt) (Err WrongLength)) where
  pub passed : {u : Unit} → r ≡ Ok u → Passed σ s k dst
  unfolding pack_section pack_inputs
  passed {u} is = go (eqb (length dst) (4 * state_count σ s k)) refl
    where
      go : (b : Bool) → eqb (length dst) (4 * state_count σ s k) ≡ b → Passed σ s k dst
      go true q =
          record {
            long = eqb-true (length dst) (4 * state_count σ s k) q;
            another_mask = λ m. rw (q, m);
            packs = λ m xs same. rw (q, m) (ap (pack_outcome (Ok tt)) same);
          }
      go false q = let n = rw q at (sym tested ∙ is) in cc
