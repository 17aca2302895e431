-- The letters of the lines on running things, and the places of the five values at the image's end.
use Rattle.std.specs.Prelude.{ℕ, Result, Ok, Err, cond, eqb}
use Rattle.replay_text.specs.declared.answer.Unanswered.{Unanswered}
use Rattle.replay_text.specs.declared.answer.Unanswered.TheVariants.{BadLine}
use Rattle.replay_calls.specs.declared.call.Line.{Line}
use Rattle.replay_calls.specs.declared.call.Line.TheVariants.{PutItem, PutImage, PutKey, PutMirror, Call}
use Rattle.replay_calls.specs.declared.call.Call.TheVariants as Calls
use Rattle.replay_calls.specs.declared.call.Field.{Field}
use Rattle.replay_calls.specs.declared.call.Field.TheVariants as Fields

abbrev pub line_of : ℕ → Result Line Unanswered
line_of n =
    cond (eqb n 73) (Ok PutItem)  -- I
    (cond (eqb n 79) (Ok PutImage)  -- O
    (cond (eqb n 89) (Ok PutKey)  -- Y
    (cond (eqb n 74) (Ok PutMirror)  -- J
    (cond (eqb n 70) (Ok (Call Calls.ImageFresh))  -- F
    (cond (eqb n 88) (Ok (Call Calls.ImageCheck))  -- X
    (cond (eqb n 83) (Ok (Call Calls.SetTransform))  -- S
    (cond (eqb n 77) (Ok (Call Calls.MultiplyTransform))  -- M
    (cond (eqb n 84) (Ok (Call Calls.Transform))  -- T
    (cond (eqb n 80) (Ok (Call Calls.WorldPaletteUsed))  -- P
    (cond (eqb n 87) (Ok (Call Calls.WorldViewProjection))  -- W
    (cond (eqb n 65) (Ok (Call Calls.SetMaterial))  -- A
    (cond (eqb n 66) (Ok (Call Calls.Material))  -- B
    (cond (eqb n 76) (Ok (Call Calls.SetLightAt))  -- L
    (cond (eqb n 69) (Ok (Call Calls.SetLightEnabledAt))  -- E
    (cond (eqb n 71) (Ok (Call Calls.GetLightAt))  -- G
    (cond (eqb n 78) (Ok (Call Calls.IsLightEnabledAt))  -- N
    (cond (eqb n 68) (Ok (Call Calls.IsLightDefinedAt))  -- D
    (cond (eqb n 86) (Ok (Call Calls.VsSourceLightInputs))  -- V
    (cond (eqb n 67) (Ok (Call Calls.CompactedLightMasks))  -- C
    (cond (eqb n 75) (Ok (Call Calls.MarkFfVsDirty))  -- K
    (cond (eqb n 81) (Ok (Call Calls.TakeFfVsDirty))  -- Q
    (cond (eqb n 72) (Ok (Call Calls.SetField))  -- H
    (cond (eqb n 82) (Ok (Call Calls.Refresh))  -- R
    (cond (eqb n 85) (Ok (Call Calls.FillSection))  -- U
    (cond (eqb n 90) (Ok (Call Calls.SectionRows))  -- Z
    (Err BadLine))))))))))))))))))))))))))

abbrev pub field_of : ℕ → Result Field Unanswered
field_of n =
    cond (eqb n 0) (Ok Fields.FogStart)
    (cond (eqb n 1) (Ok Fields.FogEnd)
    (cond (eqb n 2) (Ok Fields.FogDensity)
    (cond (eqb n 3) (Ok Fields.Ambient)
    (cond (eqb n 4) (Ok Fields.TextureMask) (Err BadLine)))))
