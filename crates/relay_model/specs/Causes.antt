-- Why a side is freed, told from what stands before its free and from the state in which it is freed.
use Rattle.std.specs.Prelude.{◌≡◌, ◌⊎◌, ℕ, ◌-◌, ◌<◌, ◌≤◌, Bool, true, false, ◌&&◌, nat_lt, List, [], ◌∷◌, ◌++◌, length, take, Some, None}
use Rattle.std.specs.Prelude.{is_some}
use Rattle.std.specs.List.{list_any}
use Rattle.token_bucket.specs.declared.limit.Dir.{Dir}
use Rattle.ev_types.specs.declared.side.Side.{Side}
use Rattle.ev_types.specs.declared.side.Side.TheVariants.{In, Out}
use Rattle.ev_types.specs.declared.side.SideId.{SideId}
use Rattle.ev_types.specs.declared.act.Act.TheVariants as act
use Rattle.ev_types.specs.declared.answer.AskAnswer.TheVariants as ask
use Rattle.ev_types.specs.declared.why.Cause.{Cause}
use Rattle.ev_types.specs.declared.why.Cause.TheVariants as cause
use Rattle.ev_types.specs.declared.entry.Entry.{Entry}
use Rattle.ev_types.specs.declared.entry.Entry.TheVariants as entry
use Rattle.ev_types.specs.Sides.{peer}
use Rattle.ev_types.specs.Trace.{Event, Trace}
use Rattle.relay_model.specs.Trace.{bytes_read, has_ended, is_write_closed}
use Rattle.filter_model.specs.Filter.{Filter, met}
use Rattle.relay_model.specs.Flow.{middle}
use Rattle.relay_model.specs.Conserved.{all_moved}
use Rattle.relay_model.specs.Settings.{Settings}
use Rattle.relay_model.specs.Due.{Reason}
use Rattle.relay_model.specs.Plain.{Plain, side_at, flow_at, is_live, freed}
use Rattle.relay_model.specs.Past.{past}
use Rattle.relay_model.specs.Rooms.{read_filter, write_filter, read_mark, hold_mark, input_at, raw_output_at, wants, output_length}
use Rattle.relay_model.specs.Moments.{timeout_of, last_activity}
use Rattle.relay_model.specs.Close.{CloseStep, fault, freed_entry, is_complete}
use Rattle.relay_model.specs.Stages.{Stage, Fire, State, at}
use Rattle.relay_model.specs.Turn.{turned_to, Quietly, Puts, Reaches, IsLegal}
use Rattle.relay_model.specs.Onward.{Leads}
use Rattle.relay_model.specs.RatesKept.{is_turn}
use Rattle.relay_model.specs.Told.{is_freed, has_failed, failed_by}

-- an event of the running turn passes the test
pub record InThisTurn (test : Event → Bool) (t : Trace) : Type 0 where
  pub early : Trace
  pub event : Event
  pub since : Trace
  pub is : t ≡ early ++ event ∷ since
  pub passes : test event ≡ true
  pub same_turn : list_any is_turn since ≡ false

-- the last event is an ask that freed the side, answered Ok
pub record AskedFree (t : Trace) (e : SideId) : Type 0 where
  pub early : Trace
  pub me : SideId
  pub is : t ≡ early ++ (entry.Asked me (act.Free e) ask.Ok, []) ∷ []

-- In a state in which a turn begins at a time, a direction is wanted, has a timeout, and was not active for as long as that.
pub record IsOverdue (g : Settings) (t : Trace) (ms : ℕ) (s : Plain) (e : SideId) (d : Dir) : Type 0 where
  pub has_timeout : 1 ≤ timeout_of (side_at s e) d
  pub wanted : wants g (past g (t ++ (entry.Turn ms, []) ∷ [])) (turned_to ms s) e d ≡ true
  pub idle : timeout_of (side_at s e) d ≤ ms - last_activity (side_at s e) d

-- so it was for the side as the running turn began
pub record TimedOut (g : Settings) (t : Trace) (e : SideId) : Type 0 where
  pub early : Trace
  pub ms : ℕ
  pub since : Trace
  pub is : t ≡ early ++ (entry.Turn ms, []) ∷ since
  pub same_turn : list_any is_turn since ≡ false
  pub before : Plain
  pub reached : Reaches g early (at Stage.Between before)
  pub dir : Dir
  pub overdue : IsOverdue g early ms before e dir

-- the trace leads to the place of closing where the side is looked at for faults
pub record LookedAt (g : Settings) (t : Trace) (s : Plain) (e : SideId) : Type 0 where
  pub left : List CloseStep
  pub reached : Reaches g t (at (Stage.Closing (CloseStep.Faulty e ∷ left)) s)

-- The first bad place of a list, or of its end where no more will come.
pub record IsFirstBad (f : Filter) (xs : List ℕ) (over : Bool) (place : ℕ) : Type 0 where
  pub at_end : f.bad_at_end xs ≡ Some place
  pub before : over ≡ false → f.bad xs ≡ Some place

-- what was moved to a side
abbrev pub moved_to : Settings → Trace → Plain → SideId → List ℕ
moved_to g t s e = let f = flow_at s (peer e) in take f.moved (middle (read_filter g s (peer e)) (bytes_read (peer e) t) f)

-- A place is bad for the side's read filter in what was read from it, or for its write filter in what was moved to it.
abbrev pub IsBadPlace : Settings → Trace → Plain → SideId → ℕ → Type 0
IsBadPlace g t s e place =
    IsFirstBad (read_filter g s e) (bytes_read e t) (has_ended e t) place ⊎ IsFirstBad (write_filter g s e) (moved_to g t s e)
    (has_ended (peer e) t) place

-- In a state the read filter of a side meets a place in what was read from it. Its target has room, and the next byte is bad;
-- or no byte is left, the side has ended, and its end is bad.
abbrev pub ReadMeets : Settings → Trace → Plain → SideId → ℕ → Type 0
ReadMeets g t s e place =
    let room = nat_lt (length (input_at g (past g t) s e)) (read_mark s e) in
    met (read_filter g s e) (bytes_read e t) (flow_at s e).used (has_ended e t) room ≡ Some place

-- So does its write filter in what was moved to it, while the direction isn't held. An end comes only where the peer lives, its
-- read filter is finished and nothing waits in its input.
abbrev pub WriteMeets : Settings → Trace → Plain → SideId → ℕ → Type 0
WriteMeets g t s e place =
    let d = peer e in
    let f = flow_at s d in
    let over = is_live s d && all_moved (read_filter g s d) (bytes_read d t) f in
    let room = nat_lt (length (raw_output_at g (past g t) s e)) (hold_mark g s e) in
    (f.held ≡ false) × (met (write_filter g s e) (moved_to g t s e) f.turned over room ≡ Some place)

-- The place is the first that one of the two filters of a side met in time. Once, in the run that leads to a state, the side
-- had none; behind the step that followed, its read filter or its write filter met this one, and the side kept it.
pub record MetFirst (g : Settings) (t : Trace) (now : State) (e : SideId) (place : ℕ) : Type 0 where
  pub early : Trace
  pub before : State
  pub reached : Reaches g early before
  pub unmet : (side_at before.plain e).bad ≡ None
  pub after : State
  pub step : Quietly g early before.stage before.plain after
  pub meets : ReadMeets g early after.plain e place ⊎ WriteMeets g early after.plain e place
  pub keeps : (side_at after.plain e).bad ≡ Some place
  pub since : Leads g early after t now

-- the step of closing that frees a side as done
abbrev pub done_of : Side → ℕ → CloseStep
done_of In k = CloseStep.BothDone k
done_of Out k = CloseStep.OutDone k

abbrev pub done_step : SideId → CloseStep
done_step e = done_of e.side e.link

-- What stands behind a cause with which a side is freed. A hook asked for it just now. Or closing found it faulty: its end
-- failed in this turn; else it timed out as the turn began; else a filter of it met a bad place, and this is the first one
-- that was met. Or closing came to free it with no fault: writing was ended at both ends of the link; or its peer was freed, and
-- nothing is left that it might be given.
abbrev pub HasCause : Settings → Trace → SideId → Cause → Type 0
HasCause g t e cause.Hook = AskedFree t e
HasCause g t e cause.Failed = (s : Plain) × LookedAt g t s e × InThisTurn (failed_by e) t
HasCause g t e cause.Timeout = (s : Plain) × LookedAt g t s e × (has_failed e t ≡ false) × TimedOut g t e
HasCause g t e (cause.Filter place) =
    (s : Plain) × LookedAt g t s e × (has_failed e t ≡ false) × ((side_at s e).expired ≡ false) × IsBadPlace g t s e place
    × ((left : List CloseStep) × MetFirst g t (at (Stage.Closing (CloseStep.Faulty e ∷ left)) s) e place)
HasCause g t e cause.Done =
    (is_write_closed e t ≡ true) × (is_write_closed (peer e) t ≡ true)
    × ((s : Plain) × (left : List CloseStep) × Reaches g t (at (Stage.Closing (done_step e ∷ left)) s) × (fault (side_at s e) ≡ None))
HasCause g t e cause.PeerGone =
    (is_freed (peer e) t ≡ true)
    × ((x : Stage) × (s : Plain) × Reaches g t (at x s) × (output_length g (past g t) s e ≡ 0)
    × ((left : List CloseStep) × (x ≡ Stage.Closing (CloseStep.PeerGone e ∷ left))) × (fault (side_at s e) ≡ None))

-- What the state from which a free is put says of its cause. A hook freed the side just now. Else closing looks at the live side:
-- for its fault; or it has none, and writing was ended at both ends; or it has none, and nothing can be given to it any more.
abbrev pub IsCalledFor : Settings → Trace → Stage → Plain → SideId → Cause → Type 0
IsCalledFor g t x s e cause.Hook = (f : Fire) × (rs : List Reason) × (x ≡ Stage.Freeing e f rs)
IsCalledFor g t x s e cause.Done =
    (left : List CloseStep) × (x ≡ Stage.Closing (done_step e ∷ left)) × (is_live s e ≡ true) × (fault (side_at s e) ≡ None)
    × ((side_at s e).write_ended ≡ true) × ((side_at s (peer e)).write_ended ≡ true)
IsCalledFor g t x s e cause.PeerGone =
    (left : List CloseStep) × (x ≡ Stage.Closing (CloseStep.PeerGone e ∷ left)) × (is_live s e ≡ true) × (fault (side_at s e) ≡ None)
    × (is_live s (peer e) ≡ false) × (output_length g (past g t) s e ≡ 0)
IsCalledFor g t x s e why =
    (left : List CloseStep) × (x ≡ Stage.Closing (CloseStep.Faulty e ∷ left)) × (is_live s e ≡ true) × (fault (side_at s e) ≡ Some why)

-- a free is put from a state that calls for it
pub record PutFor (g : Settings) (t : Trace) (e : SideId) (why : Cause) (moved given : ℕ) (bytes : List ℕ) : Type 0 where
  pub stage : Stage
  pub plain : Plain
  pub reached : Reaches g t (at stage plain)
  pub next : State
  pub put : Puts g t stage plain (entry.Freed e why moved given) bytes next
  pub called : IsCalledFor g t stage plain e why

-- So is each free of a legal trace.
abbrev pub FreesAreCalledFor : Type 0
FreesAreCalledFor = (g : Settings) (t before after : Trace) (e : SideId) (why : Cause) (moved given : ℕ) (bytes : List ℕ) →
    IsLegal g t → t ≡ before ++ (entry.Freed e why moved given, bytes) ∷ after → PutFor g before e why moved given bytes

-- A side that failed is freed for that, or by a hook: whatever other fault it has, and also where its link is done or its peer gone.
abbrev pub FailedAreFreedSo : Type 0
FailedAreFreedSo = (g : Settings) (t before after : Trace) (e : SideId) (why : Cause) (moved given : ℕ) (bytes : List ℕ) →
    IsLegal g t → t ≡ before ++ (entry.Freed e why moved given, bytes) ∷ after → has_failed e before ≡ true →
    (why ≡ cause.Hook) ⊎ (why ≡ cause.Failed)

-- Where closing looks at a live side for its fault, the free with that cause is put, and nothing else goes on; with no fault
-- nothing is put.
pub record FaultAnswered (g : Settings) (t : Trace) (s : Plain) (e : SideId) (left : List CloseStep) : Type 0 where
  pub frees : (why : Cause) → fault (side_at s e) ≡ Some why →
      Puts g t (Stage.Closing (CloseStep.Faulty e ∷ left)) s (freed_entry s e why) [] (at (Stage.Closing left) (freed e s))
  pub only : (why : Cause) → fault (side_at s e) ≡ Some why → (y : Entry) (bytes : List ℕ) (new : State) →
      Puts g t (Stage.Closing (CloseStep.Faulty e ∷ left)) s y bytes new → (y ≡ freed_entry s e why) × (bytes ≡ [])
  pub now : (why : Cause) → fault (side_at s e) ≡ Some why → (new : State) →
      Quietly g t (Stage.Closing (CloseStep.Faulty e ∷ left)) s new → ⊥
  pub spares : fault (side_at s e) ≡ None → (y : Entry) (bytes : List ℕ) (new : State) →
      Puts g t (Stage.Closing (CloseStep.Faulty e ∷ left)) s y bytes new → ⊥

abbrev pub FaultsAreAnswered : Type 0
FaultsAreAnswered =
    (g : Settings) (t : Trace) (s : Plain) (e : SideId) (left : List CloseStep) → is_live s e ≡ true → FaultAnswered g t s e left

-- behind the one trace, and in the other, the free of a side stands with a cause
pub record FreedAs (t u : Trace) (e : SideId) (why : Cause) : Type 0 where
  pub early : Trace
  pub moved : ℕ
  pub given : ℕ
  pub since : Trace
  pub is : u ≡ t ++ (early ++ (entry.Freed e why moved given, []) ∷ since)

-- A live side that has a fault as closing begins, or while it goes on, is freed with the cause that its faults call for.
abbrev pub ClosingFreesFaulty : Type 0
ClosingFreesFaulty = (g : Settings) (t u : Trace) (cs : List CloseStep) (s new : Plain) (e : SideId) (why : Cause) →
    Reaches g t (at (Stage.Closing cs) s) → e.link < s.opened → is_live s e ≡ true → fault (side_at s e) ≡ Some why →
    Leads g t (at (Stage.Closing cs) s) u (at Stage.Between new) → FreedAs t u e why

-- A live side with a fault is freed before the turn is over.
abbrev pub FaultyAreFreed : Type 0
FaultyAreFreed =
    (g : Settings) (t u : Trace) (s : State) (new : Plain) (e : SideId) → Reaches g t s → Leads g t s u (at Stage.Between new) →
    e.link < s.plain.opened → is_live s.plain e ≡ true → is_some (fault (side_at s.plain e)) ≡ true → is_freed e u ≡ true

-- each free of a legal trace has its cause
abbrev pub FreesHaveCauses : Type 0
FreesHaveCauses = (g : Settings) (t before after : Trace) (e : SideId) (why : Cause) (moved given : ℕ) (bytes : List ℕ) → IsLegal g t →
    t ≡ before ++ (entry.Freed e why moved given, bytes) ∷ after → HasCause g before e why

-- What a hook frees is recorded next: behind an ask that frees a side, answered Ok, stands its free or nothing.
abbrev pub AskedFreesAreNext : Type 0
AskedFreesAreNext = (g : Settings) (t before after : Trace) (me e : SideId) (bytes : List ℕ) (next : Event) → IsLegal g t →
    t ≡ before ++ (entry.Asked me (act.Free e) ask.Ok, bytes) ∷ next ∷ after → (moved : ℕ) × (given : ℕ)
    × (next ≡ (entry.Freed e cause.Hook moved given, []))

-- Between turns no live side of an opened link is faulty: each that failed, timed out or met a bad place was freed.
abbrev pub FaultsAreFreed : Type 0
FaultsAreFreed = (g : Settings) (t : Trace) (s : Plain) (e : SideId) → Reaches g t (at Stage.Between s) →
    e.link < s.opened → is_live s e ≡ true → fault (side_at s e) ≡ None

-- What is left to do at a side of an opened link, and at the link.
pub record NothingLeft (g : Settings) (t : Trace) (s : Plain) (e : SideId) : Type 0 where
  pub writing : is_live s e ≡ true → is_live s (peer e) ≡ true → is_complete g (past g t) s (peer e) ≡ true →
      (side_at s e).connecting ≡ false → (side_at s e).write_ended ≡ true
  pub done : is_live s e ≡ true → is_live s (peer e) ≡ true → (side_at s e).write_ended ≡ true → (side_at s (peer e)).write_ended ≡ false
  pub peer_gone : is_live s e ≡ true → is_live s (peer e) ≡ false → 1 ≤ output_length g (past g t) s e
  pub shut : is_live s e ≡ false → (side_at s e).closed ≡ true

-- Between turns nothing is left: writing was ended behind each whole direction of two live sides, a link whose writing was ended
-- at both ends was freed, a live side whose peer is gone has bytes that it may still be given, and each freed side's end was closed.
abbrev pub NothingIsLeft : Type 0
NothingIsLeft =
    (g : Settings) (t : Trace) (s : Plain) (e : SideId) → Reaches g t (at Stage.Between s) → e.link < s.opened → NothingLeft g t s e

-- The place that a side keeps is the first that one of its two filters met.
abbrev pub PlacesAreFirst : Type 0
PlacesAreFirst = (g : Settings) (t : Trace) (s : State) (e : SideId) (place : ℕ) → Reaches g t s → e.link < s.plain.opened →
    (side_at s.plain e).bad ≡ Some place → MetFirst g t s e place
