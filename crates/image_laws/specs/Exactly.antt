-- Which bytes are images. Document 01, 'State image'.
use Rattle.std.specs.Prelude.{ℕ, ◌≡◌, false, List}
use Rattle.codec.specs.Little.{Bytes}
use Rattle.ff_state.specs.Valid.{Valid}
use Rattle.ff_state.specs.declared.state.FfState.{FfState}
use Rattle.image_reasons.specs.Reasons.{refused}
use Rattle.image.specs.Format.{image_bytes}

-- each number is a byte, and no reason refuses them
pub record IsAccepted (bytes : List ℕ) : Type 0 where
  pub each : Bytes bytes
  pub taken : refused bytes ≡ false

-- they are what is written for a valid state
pub record IsWriting (bytes : List ℕ) : Type 0 where
  pub state : FfState
  pub valid : Valid state
  pub is : image_bytes state ≡ bytes
