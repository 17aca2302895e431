-- Demand 3: what a list keeps to, and the claim over every list.
use Rattle.std.specs.Prelude.{◌<◌, ◌≡◌, true, false, List, [], ◌∷◌, ◌++◌, Float, length}
use Rattle.std.proofs.Math.Option.{Option, none, some}
use Rattle.codec.specs.Little.{Bytes}
use Rattle.sections.specs.declared.sections.Section.{Section}
use Rattle.sections.specs.Key.{SameShape}
use Rattle.sections.specs.declared.key.FfVsKey.{FfVsKey}
use Rattle.ff_state.specs.Operate as Operate
use Rattle.refresh_calls.specs.Written.{mirror_floats}
use Rattle.call_laws.specs.HostOperations.{ItemFits}
use Rattle.trace.specs.Calls.{Lent, the_mirror, another, slice, HostCall, operates, refreshes, Call, own, read_in, refresh, overwrite, host, host_on}
use Rattle.trace.specs.Calls as Calls
use Rattle.trace.specs.World.{World, Track, start, wrong_rows}
use Rattle.trace.specs.Step.{Refresher, accepted_key, step, run}

-- ---- arguments are values of their types: bytes, u8 and u32 numbers (`ItemFits`), f32 values

pub record KeyFits (k : FfVsKey) : Type 0 where
  pub mask : k.light_active_mask < 256
  pub fog : k.fog_mode < 256
  pub count : k.vertex_blend_count < 256

abbrev pub HostTyped : HostCall → Type 0
HostTyped (operates h) = ItemFits h
HostTyped (refreshes k l) = KeyFits k × Bytes (slice l)
HostTyped Calls.HostCall.reads = Unit {0}

abbrev pub Typed : Call → Type 0
Typed (own op) = Operate.OperationFits op
Typed (read_in bytes) = Bytes bytes
Typed (refresh k l) = KeyFits k
Typed (overwrite r x y z t) = Unit {0}
Typed (host h) = HostTyped h
Typed (host_on bytes h) = Bytes bytes × HostTyped h
Typed Calls.Call.reads = Unit {0}

-- ---- what demand 3 asks of a list

-- the floats of a slice that is lent as the mirror
unfoldable pub of_mirror : {A : Type 0} → (List A → List Float) → Lent A → Option (List Float)
of_mirror floats (the_mirror m) = some (floats m)
of_mirror floats (another m) = none

unfoldable pub host_mirror : HostCall → Option (List Float)
host_mirror (operates h) = none
host_mirror (refreshes k l) = of_mirror mirror_floats l
host_mirror Calls.HostCall.reads = none

unfoldable pub lent_mirror : Call → Option (List Float)
lent_mirror (own op) = none
lent_mirror (read_in bytes) = none
lent_mirror (refresh k l) = of_mirror (λ m. m) l
lent_mirror (overwrite r x y z t) = none
lent_mirror (host h) = host_mirror h
lent_mirror (host_on bytes h) = host_mirror h
lent_mirror Calls.Call.reads = none

-- the call itself reads an image in
abbrev pub OnAnother : Call → Type 0
OnAnother (own op) = ⊥
OnAnother (read_in bytes) = ⊥
OnAnother (refresh k l) = ⊥
OnAnother (overwrite r x y z t) = ⊥
OnAnother (host h) = ⊥
OnAnother (host_on bytes h) = Unit {0}
OnAnother Calls.Call.reads = ⊥

-- "each refresh [gets] the mirror, as the last one returned or left it"; "Only a refused refresh may be lent another slice";
-- "every section is marked between two successive accepted refreshes whose keys differ in a shape field, and between the reading in of an image and the next accepted refresh"
pub record Keeps (t : Track) (accepted : Option FfVsKey) (c : Call) : Type 0 where
  pub mirror : (m : List Float) → lent_mirror c ≡ some m → m ≡ t.mirror
  pub lent : (k : FfVsKey) → accepted ≡ some k → lent_mirror c ≡ none → ⊥
  pub shape : (j k : FfVsKey) → t.last_key ≡ some j → accepted ≡ some k → (SameShape j k → ⊥) → (σ : Section) → t.marked σ ≡ true
  pub image : (k : FfVsKey) → accepted ≡ some k → (OnAnother c → ⊥) × ((σ : Section) → t.needs_marking σ ≡ false)

abbrev pub Admits : World → Call → Type 0
Admits w c = Typed c × Keeps w.track (accepted_key w c) c

abbrev pub Admissible : Refresher → World → List Call → Type 0
Admissible R w [] = Unit {0}
Admissible R w (c ∷ cs) = Admits w c × Admissible R (step R c w) cs

-- ---- the claim

-- "right after each accepted refresh, the count of rows in which the mirror differs from a full packing of the state under that refresh's key is zero in all five sections. A section that an overwriting hit is let off, and no other"; document 02, T-05: "the mirror's zero count covers eight sections"
abbrev pub AlwaysRight : Refresher → Type 0
AlwaysRight R =
    (m : List Float) → length m ≡ 4460 →
    (calls : List Call) (c : Call) (k : FfVsKey) →
    Admissible R (start m) (calls ++ c ∷ []) →
    let w = run R calls (start m) in
    accepted_key w c ≡ some k →
    (σ : Section) → (step R c w).track.exempt σ ≡ false → wrong_rows (step R c w) k σ ≡ 0
