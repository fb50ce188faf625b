-- What a link came to, and how many live, told from the frees in a trace.
use Rattle.std.specs.Prelude.{◌≡◌, ℕ, zero, suc, ◌+◌, ◌<◌, Bool, false, ◌&&◌, not, if◌then◌else◌, List}
use Rattle.std.specs.List.{list_any}
use Rattle.ev_types.specs.declared.side.SideId.{SideId}
use Rattle.ev_types.specs.declared.status.LinkState.{LinkState}
use Rattle.ev_types.specs.declared.status.LinkState.TheVariants as state
use Rattle.ev_types.specs.declared.why.Cause.TheVariants as cause
use Rattle.ev_types.specs.declared.entry.Entry.TheVariants as entry
use Rattle.ev_types.specs.Sides.{peer, same_end}
use Rattle.ev_types.specs.Trace.{Event, Trace}
use Rattle.relay_model.specs.Trace.{bytes_read, bytes_given}
use Rattle.relay_model.specs.Flow.{passed_at_end}
use Rattle.relay_model.specs.Rooms.{read_filter, write_filter}
use Rattle.relay_model.specs.Settings.{HasNoHooks}
use Rattle.relay_model.specs.Stages.{Stage}
use Rattle.relay_model.specs.Answers.{TurnAnswer, LeftAt}
use Rattle.relay_model.specs.Told.{is_freed, is_freeing}
use Rattle.relay_model.specs.Totals.{opened}
use Rattle.relay_state.specs.State.{State}
use Rattle.relay_state.specs.Closing.{in_side, out_side}
use Rattle.relay_state.specs.Counting.{link_count, open_below}
use Rattle.relay_steps.specs.Meaning.{StandsFor}

-- an event in which a side was freed as done, and whether one was
abbrev pub done_by : SideId → Event → Bool
done_by e (entry.Freed side cause.Done moved given, bytes) = same_end side e
done_by e _ = false

abbrev pub is_done : SideId → Trace → Bool
is_done e t = list_any (done_by e) t

-- A link lives until both of its sides were freed.
abbrev pub lives_in : Trace → ℕ → Bool
lives_in t link = not (is_freed (in_side link) t && is_freed (out_side link) t)

-- It lives; or it is done, where both sides were freed as done; or it is gone.
abbrev pub link_state_in : Trace → ℕ → LinkState
link_state_in t link =
    if lives_in t link then state.Live else (if is_done (in_side link) t && is_done (out_side link) t then state.Done else state.Gone)

-- how many of the first links live
abbrev pub living_below : Trace → ℕ → ℕ
living_below t zero = 0
living_below t (suc n) = living_below t n + (if lives_in t n then 1 else 0)

-- A relay has as many links as a trace opens. Each came to what the trace says, and as many live.
pub record LinksAre (t : Trace) (s : State) : Type 0 where
  pub links : s.plain.opened ≡ opened t
  pub each : (link : ℕ) → link < opened t → (link_count s link).state ≡ link_state_in t link
  pub living : open_below s s.plain.opened ≡ living_below t (opened t)

-- No side was freed by a hook just now, so that its free is yet to be recorded.
abbrev pub AllRecorded : Stage → Type 0
AllRecorded x = (e : SideId) → is_freeing x e ≡ false

-- So it is of every trace for which the relay stands, where all frees are recorded.
abbrev pub LinksAreTold : Type 0
LinksAreTold = (t : Trace) (x : Stage) (s : State) → StandsFor t x s → AllRecorded x → LinksAre t s

-- All frees are recorded wherever a turn may answer; and where no side has a hook, everywhere.
pub record FreesAreRecorded (t : Trace) (x : Stage) (s : State) : Type 0 where
  pub left : (answer : TurnAnswer) → LeftAt s.settings answer x s.plain → AllRecorded x
  pub hookless : HasNoHooks s.settings → AllRecorded x

-- So it is wherever a relay stands.
abbrev pub FreesAreRecordedAtOnce : Type 0
FreesAreRecordedAtOnce = (t : Trace) (x : Stage) (s : State) → StandsFor t x s → FreesAreRecorded t x s

-- what the filters of a direction make of all that was read where it begins, with their ends
abbrev pub passed_from : Trace → State → SideId → List ℕ
passed_from t s e = passed_at_end (read_filter s.settings s.plain e) (write_filter s.settings s.plain (peer e)) (bytes_read e t)

-- Where a link is done, each side was given all that the filters make of what was read at the other, with their ends.
abbrev pub DoneIsWhole : Type 0
DoneIsWhole = (t : Trace) (x : Stage) (s : State) → StandsFor t x s → (link : ℕ) → link_state_in t link ≡ state.Done →
    (bytes_given (out_side link) t ≡ passed_from t s (in_side link)) × (bytes_given (in_side link) t ≡ passed_from t s (out_side link))
