-- Bytes that say 256 for the texture mask are refused, and so is a fog end of another NaN than 0x7FC00000: document 02, T-05, and document 01's "another NaN".
-- An accepted image passes the test that such bytes fail. Assumes nothing.
use Prim.Native.Nat.{ℕ}
use native.Mathlib.Omega.{arith}
use mathlib.Core.Path.{◌≡◌, sym}
use mathlib.Core.Logic.{inl, inr, ◌⊎◌}
use mathlib.Core.Bool.{true, false}
use mathlib.Core.List.{List}
use Rattle.codec.specs.Little.{number_at}
use Rattle.lemmas.proofs.Tests.{never, test}
use Rattle.image_reasons.specs.Reasons.{refused}
use Rattle.image_reasons.specs.Tests.{nan_free, plain_at, plain_word}
use Rattle.image_reasons.proofs.Accepted.{accepted}
use Rattle.image_reasons.proofs.Every.{every_holds}

module _ (bytes : List ℕ) where
  pub mask_256_refused : number_at 4 bytes 24_220 ≡ 256 → refused bytes ≡ true
  mask_256_refused e = go (test (refused bytes))
    where
      go : (refused bytes ≡ true) ⊎ (refused bytes ≡ false) → refused bytes ≡ true
      go (inl on) = on
      go (inr off) = let most = (accepted bytes off).mask in absurd (omega (arith, most, e))

  pub fog_end_nan_refused : number_at 4 bytes 24_208 ≡ 0x7FC0_0001 → refused bytes ≡ true
  unfolding nan_free plain_word
  fog_end_nan_refused e = go (test (refused bytes))
    where
      go : (refused bytes ≡ true) ⊎ (refused bytes ≡ false) → refused bytes ≡ true
      go (inl on) = on
      go (inr off) = never (sym (rw e at (every_holds (plain_at bytes 24_204) 3 (accepted bytes off).fog_floats 1 (omega arith))))
