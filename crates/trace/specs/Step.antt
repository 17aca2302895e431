-- A step of a list, from the definitions that the functions' contracts cite.
use Rattle.std.specs.Prelude.{ℕ, Bool, cond, List, [], ◌∷◌, eqb, Float, length}
use Rattle.std.proofs.Math.Option.{Option, none, some}
use Rattle.sections.specs.declared.sections.Section.TheVariants.{Lights}
use Rattle.ff_state.specs.declared.state.FfState.{FfState}
use Rattle.image.specs.Read.{read_image}
use Rattle.image_reasons.specs.Reasons.{refused}
use Rattle.sections.specs.declared.key.FfVsKey.{FfVsKey}
use Rattle.packing.specs.Inputs.{mask_accepted}
use Rattle.d3d9_model.specs.State.{AbstractState}
use Rattle.image_model.specs.Abstract.{image_abstract}
use Rattle.ff_state.specs.Operate.{operate}
use Rattle.packing_agreement.specs.Abstract.{abstract_inputs}
use Rattle.calls.specs.Answer.{Answer}
use Rattle.call_laws.specs.HostOperations.{host_answer, operation_of}
use Rattle.refresh.specs.Mirror.{RefreshOutcome, refresh_mirror}
use Rattle.refresh_calls.specs.Written.{mirror_floats}
use Rattle.refresh_calls.specs.Mirror.{HostRefreshed, ff_refresh}
use Rattle.trace.specs.Calls.{Lent, the_mirror, another, slice, HostCall, operates, refreshes, Call, own, read_in, refresh, overwrite, host, host_on}
use Rattle.trace.specs.Calls as Calls
use Rattle.trace.specs.World.{value, in_image, as_state, as_image, held, with_mirror, track_overwritten, World, standing, tracking, operated, operated_if, image_read, refreshed_if}

-- ---- which refreshes are accepted

-- "Refresh refuses, in order: 4, the mirror is not 4,460 floats; 8, HAS_RHW is set; 5, the light mask is not 0 and is not the compacted active mask": over the abstract state
unfoldable pub refresh_refusal : AbstractState → FfVsKey → Bool → ℕ
refresh_refusal a k whole = cond whole (cond k.has_rhw 8 (cond (mask_accepted Lights k (abstract_inputs a)) 0 5)) 4

unfoldable pub accepts : AbstractState → FfVsKey → Bool → Option FfVsKey
accepts a k whole = cond (eqb (refresh_refusal a k whole) 0) (some k) none

unfoldable pub host_key : AbstractState → HostCall → Option FfVsKey
host_key a (operates h) = none
host_key a (refreshes k l) = accepts a k (eqb (length (slice l)) 17_840)
host_key a Calls.HostCall.reads = none

-- the key of a call that is an accepted refresh, by value or by the host
unfoldable pub accepted_key : World → Call → Option FfVsKey
accepted_key w (own op) = none
accepted_key w (read_in bytes) = none
accepted_key w (refresh k l) = accepts w.abstract k (eqb (length (slice l)) 4460)
accepted_key w (overwrite r x y z t) = none
accepted_key w (host h) = host_key w.abstract h
accepted_key w (host_on bytes h) = cond (refused bytes) none (host_key (image_abstract bytes) h)
accepted_key w Calls.Call.reads = none

-- ---- a step

-- a refresh by value and by the host; the last number is the one that the host lends for the bits
pub record Refresher : Type 0 where
  pub by_value : FfState → FfVsKey → List Float → RefreshOutcome
  pub by_host : List ℕ → FfVsKey → List ℕ → ℕ → Answer HostRefreshed

-- the two that are proved
abbrev pub ours : Refresher
ours = record { by_value = refresh_mirror; by_host = ff_refresh }

-- "each refresh [gets] the mirror, as the last one returned or left it": what a refresh leaves in the slice that it was lent, accepted or refused
unfoldable pub leaving : {A : Type 0} → Lent A → List Float → World → World
leaving (the_mirror m) left w = tracking (with_mirror left w.track) w
leaving (another m) left w = w

unfoldable pub host_step : Refresher → HostCall → World → World
host_step R (operates h) w =
    standing (in_image (held w.stored) (host_answer h (as_image w.stored)).out) (operated_if (operation_of h) w)
host_step R (refreshes k l) w =
    let r = (R.by_host (as_image w.stored) k (slice l) 0).out in
    standing (in_image (held w.stored) r.image) (refreshed_if (host_key w.abstract (refreshes k l)) (leaving l (mirror_floats r.mirror) w))
host_step R Calls.HostCall.reads w = standing (in_image (held w.stored) (as_image w.stored)) w

-- a host's call on bytes that are no image: 9, and nothing is read in; the mirror is as a refresh left it
unfoldable pub unread : Refresher → List ℕ → HostCall → World → World
unread R bytes (operates h) w = w
unread R bytes (refreshes k l) w = leaving l (mirror_floats (R.by_host bytes k (slice l) 0).out.mirror) w
unread R bytes Calls.HostCall.reads w = w

-- "a host's call on any other image is a reading in of that image, then the call"
abbrev pub handed : List ℕ → World → World
handed bytes w = image_read (in_image (held w.stored) bytes) bytes w

unfoldable pub step : Refresher → Call → World → World
step R (own op) w = standing (value (operate (as_state w.stored) op).state) (operated op w)
step R (read_in bytes) w =
    let h = value (read_image (as_state w.stored) bytes).state in
    cond (refused bytes) (standing h w) (image_read h bytes w)
step R (refresh k l) w =
    let r = R.by_value (as_state w.stored) k (slice l) in
    standing (value r.result.state) (refreshed_if (accepted_key w (refresh k l)) (leaving l r.floats w))
step R (overwrite r x y z t) w = tracking (track_overwritten r x y z t w.track) w
step R (host h) w = host_step R h w
step R (host_on bytes h) w = cond (refused bytes) (unread R bytes h w) (host_step R h (handed bytes w))
step R Calls.Call.reads w = w

unfoldable pub run : Refresher → List Call → World → World
run R [] w = w
run R (c ∷ cs) w = run R cs (step R c w)
