-- What is kept of a list so far. Document 01, 'The list and the count of demand 3'.
use Rattle.std.specs.Prelude.{ℕ, ◌+◌, ◌*◌, Bool, true, false, not, ◌&&◌, ◌||◌, List, eqb, ltb, leb, Float, set}
use Rattle.std.proofs.Math.Option.{Option, none, some}
use Rattle.ff_state.specs.State.{fresh_state}
use Rattle.sections.specs.declared.sections.Section.{Section}
use Rattle.ff_state.specs.declared.state.FfState.{FfState}
use Rattle.image.specs.Format.{image_bytes}
use Rattle.image.specs.Read.{read_image}
use Rattle.sections.specs.Sections.{first_row}
use Rattle.sections.specs.declared.key.FfVsKey.{FfVsKey}
use Rattle.d3d9_model.specs.State.{AbstractState, fresh_abstract}
use Rattle.d3d9_model.specs.Operations.{Operation, abstract_refusal, abstract_step}
use Rattle.d3d9_model.specs.Marks.{marks_section}
use Rattle.image_model.specs.Abstract.{image_abstract}
use Rattle.trace.specs.Count.{rows_under, differing}

-- "For the host's calls the state stands in an image, just written from it or left by the host's last call": beside the image stands the state by value that it stands for
pub data Stored : Type 0 where
  value : FfState → Stored
  in_image : FfState → List ℕ → Stored

-- "a later call by value gets what that image reads as"
unfoldable pub as_state : Stored → FfState
as_state (value s) = s
as_state (in_image s bytes) = (read_image s bytes).state

unfoldable pub as_image : Stored → List ℕ
as_image (value s) = image_bytes s
as_image (in_image s bytes) = bytes

unfoldable pub held : Stored → FfState
held (value s) = s
held (in_image s bytes) = s

-- ---- a mirror, and what is kept of it

pub record Track : Type 0 where
  pub mirror : List Float
  -- the key of the last accepted refresh, and the rows that each section had then; none before the first
  pub last_key : Option FfVsKey
  pub rows_at_last_refresh : Section → ℕ
  -- hit by an overwriting and not marked since
  pub exempt : Section → Bool
  -- marked since the last accepted refresh
  pub marked : Section → Bool
  -- an image was read in since then, and the section not marked since
  pub needs_marking : Section → Bool

unfoldable pub fresh_track : List Float → Track
fresh_track m =
    record { mirror = m; last_key = none; rows_at_last_refresh = λ σ. 0; exempt = λ σ. false; marked = λ σ. false; needs_marking = λ σ. false }

-- the mirror as a refresh left it
unfoldable pub with_mirror : List Float → Track → Track
with_mirror m t = record t { mirror = m }

-- these sections were marked
unfoldable pub track_marked : (Section → Bool) → Track → Track
track_marked now t =
    record t {
      exempt = λ σ. t.exempt σ && not (now σ);
      marked = λ σ. t.marked σ || now σ;
      needs_marking = λ σ. t.needs_marking σ && not (now σ);
    }

unfoldable pub track_read_in : Track → Track
track_read_in t = record t { needs_marking = λ σ. true }

-- a refresh under the key was accepted, in which each section has so many rows
unfoldable pub track_refreshed : FfVsKey → (Section → ℕ) → Track → Track
track_refreshed k rows t =
    record t { last_key = some k; rows_at_last_refresh = rows; marked = λ σ. false; needs_marking = λ σ. false }

-- row r is one of the n rows of a section
unfoldable pub is_row : ℕ → Section → ℕ → Bool
is_row r σ n = leb (first_row σ) r && ltb r (first_row σ + n)

-- "An overwriting hits a section if it writes a row that the section had at the last accepted refresh; before the first it hits none."
unfoldable pub hits : ℕ → Track → Section → Bool
hits r t σ = hits_under t.last_key
  where
    hits_under : Option FfVsKey → Bool
    hits_under none = false
    hits_under (some k) = is_row r σ (t.rows_at_last_refresh σ)

unfoldable pub row_set : ℕ → Float → Float → Float → Float → List Float → List Float
row_set r x y z t m = set (set (set (set m (4 * r) x) (4 * r + 1) y) (4 * r + 2) z) (4 * r + 3) t

unfoldable pub track_overwritten : ℕ → Float → Float → Float → Float → Track → Track
track_overwritten r x y z u t =
    record t { mirror = row_set r x y z u t.mirror; exempt = λ σ. t.exempt σ || hits r t σ }

-- ---- the world

pub record World : Type 0 where
  pub stored : Stored
  -- document 01's plain book
  pub abstract : AbstractState
  pub track : Track

-- "from a fresh state and a mirror of arbitrary contents"
unfoldable pub start : List Float → World
start m = record { stored = value fresh_state; abstract = fresh_abstract; track = fresh_track m }

-- the state stored so
unfoldable pub standing : Stored → World → World
standing h w = record w { stored = h }

unfoldable pub tracking : Track → World → World
tracking t w = record w { track = t }

-- whether an operation marks a section: an accepted one, by the rule of the abstract state
unfoldable pub marks : AbstractState → Operation → Section → Bool
marks a op σ = eqb (abstract_refusal a op) 0 && marks_section op σ

unfoldable pub operated : Operation → World → World
operated op w = record w { abstract = abstract_step w.abstract op; track = track_marked (marks w.abstract op) w.track }

unfoldable pub operated_if : Option Operation → World → World
operated_if none w = w
operated_if (some op) w = operated op w

-- "An image read in replaces all."
unfoldable pub image_read : Stored → List ℕ → World → World
image_read h bytes w = record { stored = h; abstract = image_abstract bytes; track = track_read_in w.track }

unfoldable pub refreshed_if : Option FfVsKey → World → World
refreshed_if none w = w
refreshed_if (some k) w = tracking (track_refreshed k (rows_under k w.abstract) w.track) w

-- a section's count
abbrev pub wrong_rows : World → FfVsKey → Section → ℕ
wrong_rows w k σ = differing w.track.mirror k w.abstract σ
