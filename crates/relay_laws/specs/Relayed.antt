-- What a program says of the trace of a relay's run, in the model's words and in plain ones.
use Rattle.std.specs.Prelude.{◌≡◌, ◌<◌, ℕ, suc, true, List, [], ◌∷◌, ◌++◌, length}
use Rattle.ev_types.specs.declared.side.SideId.{SideId}
use Rattle.ev_types.specs.declared.entry.Entry.TheVariants as entry
use Rattle.ev_types.specs.declared.why.Cause.{Cause}
use Rattle.ev_types.specs.declared.status.LinkCount.{LinkCount}
use Rattle.ev_types.specs.Sides.{peer}
use Rattle.ev_types.specs.Trace.{Trace}
use Rattle.relay_model.specs.Trace.{bytes_read, bytes_given, has_ended, is_write_closed}
use Rattle.relay_model.specs.Totals.{opened}
use Rattle.filter_model.specs.FilterLaws.{IsPrefixOf}
use Rattle.filter_model.specs.Filter.{filter_of}
use Rattle.relay_model.specs.Flow.{passed, passed_at_end}
use Rattle.relay_model.specs.Settings.{Settings}
use Rattle.relay_model.specs.Rooms.{read_kind, write_kind}
use Rattle.relay_model.specs.Plain.{Plain}
use Rattle.relay_model.specs.Stages.{Stage, at}
use Rattle.relay_model.specs.Turn.{Reaches}
use Rattle.relay_model.specs.Answers.{TurnAnswer, LeftAt}
use Rattle.relay_model.specs.Stands.{AllAccounted}
use Rattle.relay_model.specs.Bounds.{DirectionWithin}
use Rattle.relay_model.specs.SoFar.{read_mark_so_far, hold_mark_so_far}
use Rattle.relay_model.specs.RatesKept.{RatesKept}
use Rattle.relay_model.specs.Quiet.{IsQuiet}
use Rattle.relay_model.specs.Causes.{HasCause}
use Rattle.relay_state.specs.Closing.{in_side, out_side}
use Rattle.relay_laws.specs.Links.{link_state_in}
use Rattle.relay_laws.specs.TurnEnds.{AtTurnEnds}

-- a line of a report tells what a link came to in a trace, and how many bytes the trace has of its ends
pub record TellsLink (t : Trace) (link : ℕ) (told : LinkCount) : Type 0 where
  pub state : told.state ≡ link_state_in t link
  pub in_read : told.in_read ≡ length (bytes_read (in_side link) t)
  pub in_given : told.in_given ≡ length (bytes_given (in_side link) t)
  pub out_read : told.out_read ≡ length (bytes_read (out_side link) t)
  pub out_given : told.out_given ≡ length (bytes_given (out_side link) t)

-- lines tell of the links from a number on
abbrev pub TellsLinks : Trace → ℕ → List LinkCount → Type 0
TellsLinks t link [] = Unit {0}
TellsLinks t link (told ∷ more) = TellsLink t link told × TellsLinks t (suc link) more

-- What the filters of a direction make of what was read where it begins: before the side has ended without their ends, from then on
-- with them.
abbrev pub handed_on : Settings → Trace → SideId → List ℕ
handed_on g t e = passed (filter_of (read_kind g e.side)) (filter_of (write_kind g (peer e).side)) (has_ended e t) (bytes_read e t)

-- and all that they make of it, with their ends
abbrev pub handed_on_whole : Settings → Trace → SideId → List ℕ
handed_on_whole g t e = passed_at_end (filter_of (read_kind g e.side)) (filter_of (write_kind g (peer e).side)) (bytes_read e t)

-- A run stood so behind a trace: the trace leads to this state at this stage of a turn, and it accounts for every byte in
-- every direction of that state: none was lost, made or changed. In each direction of an opened link the four buffers hold no more than
-- the marks that stood so far allow.
pub record StoodAt (g : Settings) (t : Trace) (x : Stage) : Type 0 where
  pub plain : Plain
  pub reached : Reaches g t (at x plain)
  pub accounted : AllAccounted g t plain
  pub within : (e : SideId) → e.link < plain.opened →
      DirectionWithin g t plain e (read_mark_so_far g e t) (hold_mark_so_far g (peer e) t)

-- so it stood between two turns
abbrev pub StoodBetween : Settings → Trace → Type 0
StoodBetween g t = StoodAt g t Stage.Between

-- so it stood where a turn may answer this
pub record EndedSo (g : Settings) (answer : TurnAnswer) (t : Trace) : Type 0 where
  pub stage : Stage
  pub stood : StoodAt g t stage
  pub left : LeftAt g answer stage stood.plain

-- A relay made this trace, and ended with this answer: the trace is legal, and no byte in it was lost, made or changed: as it ends,
-- and wherever a turn of it ends. Whatever happened, the bytes given to a side are a prefix of what the filters make of those read
-- from its peer; where writing was ended at a side, they are all of that. No side and no group moved more than its limit lets through.
-- Behind the free of a side nothing is done with its end but that it is closed, once; and each free has its cause. The report has a
-- line for each opened link and tells of it.
pub record IsRelayed (g : Settings) (answer : TurnAnswer) (t : Trace) (links : List LinkCount) : Type 0 where
  pub ended : EndedSo g answer t
  pub turn_ends : AtTurnEnds (StoodBetween g) t
  pub begins : (e : SideId) → IsPrefixOf (bytes_given (peer e) t) (handed_on g t e)
  pub whole : (e : SideId) → is_write_closed (peer e) t ≡ true → bytes_given (peer e) t ≡ handed_on_whole g t e
  pub rates : RatesKept g t
  pub quiet : IsQuiet t
  pub freed : (before after : Trace) (e : SideId) (why : Cause) (moved given : ℕ) (bytes : List ℕ) →
      t ≡ before ++ (entry.Freed e why moved given, bytes) ∷ after → HasCause g before e why
  pub opened : length links ≡ opened t
  pub report : TellsLinks t 0 links
