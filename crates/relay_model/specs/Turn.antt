-- Which traces a run can have: each entry is the one that the turn calls for next. From a state an entry is put, or the
-- relay goes on with no entry; what a trace can lead to is what such steps reach.
use Rattle.std.specs.Prelude.{◌≡◌, ◌⊎◌, ℕ, ◌+◌, ◌<◌, ◌≤◌, Bool, true, ◌||◌, if◌then◌else◌, List, [], ◌∷◌, ◌++◌, Some, None, IsTrue}
use Rattle.ev_types.specs.declared.side.SideId.{SideId}
use Rattle.ev_types.specs.declared.answer.ReadAnswer.{ReadAnswer}
use Rattle.ev_types.specs.declared.answer.ReadAnswer.TheVariants as read
use Rattle.ev_types.specs.declared.why.Cause.TheVariants as cause
use Rattle.ev_types.specs.declared.entry.Entry.{Entry}
use Rattle.ev_types.specs.declared.entry.Entry.TheVariants as entry
use Rattle.ev_types.specs.Times.{latest}
use Rattle.ev_types.specs.Trace.{Trace}
use Rattle.relay_model.specs.Settings.{Settings}
use Rattle.relay_model.specs.Due.{batch, Reason}
use Rattle.relay_model.specs.Plain.{Plain, with_link, is_live, all_sides}
use Rattle.relay_model.specs.Past.{past}
use Rattle.relay_model.specs.Rooms.{Want, wanted}
use Rattle.relay_model.specs.Asks.{Ask, most_asks}
use Rattle.relay_model.specs.Moments.{poll_timeout, time_passed}
use Rattle.relay_model.specs.Round.{round_parts, do_part, round}
use Rattle.relay_model.specs.Serve.{Call, call_for, marks_left, CarriesGot, CarriesTook, after_conn, after_read, after_got, after_write}
use Rattle.relay_model.specs.Close.{closing_from, freed_entry, closing_entry, closed_by, steps_left}
use Rattle.relay_model.specs.Stages.{Fire, Halt, Stage, Between, Polling, Wanting, Marking, Accepting, Serving, Filtering, Dispatching}
use Rattle.relay_model.specs.Stages.{Firing, Freeing, Passing, Closing, Over, State, at, start, begun, after_ask}

-- the most links that are opened in one turn
abbrev pub most_opened : ℕ
most_opened = 64

-- a part of what was wanted, and not nothing
abbrev pub IsPartOf : Bool → Bool → Want → Type 0
IsPartOf read write w = (IsTrue read → IsTrue w.read) × (IsTrue write → IsTrue w.write) × IsTrue (read || write)

-- the state as a turn begins, before time is looked at
abbrev pub turned_to : ℕ → Plain → Plain
turned_to ms s = record s { time = ms; turn = s.turn + 1 }

-- where serving goes on after a read
abbrev pub after_reading : SideId → ReadAnswer → List Want → Stage
after_reading e (read.Got n) ms = Filtering e ms
after_reading e _ ms = Serving ms

-- Which entry, with which bytes beside it, may be put next behind a trace, and the state after it.
abbrev pub Puts : Settings → Trace → Stage → Plain → Entry → List ℕ → State → Type 0
-- A turn begins at a time that is not below the last. All buckets gain what came, timers are taken, directions expire.
Puts g t Between s (entry.Turn ms) bytes new =
    (s.time ≤ ms) × (ms ≤ latest) × (bytes ≡ [])
    × (new ≡ at Polling (time_passed g (past g (t ++ (entry.Turn ms, []) ∷ [])) (turned_to ms s)))
-- The poll has the timeout that is called for. Each side that wants something is named, in number order.
Puts g t Polling s (entry.Poll timeout) bytes new =
    (timeout ≡ poll_timeout g (past g t) s) × (bytes ≡ []) × (new ≡ at (Wanting (wanted g (past g t) s)) s)
Puts g t (Wanting (w ∷ ws)) s (entry.Want side read write) bytes new =
    (w ≡ record { side = side; read = read; write = write }) × (bytes ≡ []) × (new ≡ at (Wanting ws) s)
-- A failed poll ends the run.
Puts g t (Wanting []) s entry.PollFailed bytes new = (bytes ≡ []) × (new ≡ at (Over Halt.PollFailed) s)
-- A part of what a side wanted is marked, the sides still in number order.
Puts g t (Marking (w ∷ ws) marks) s (entry.Ready side read write) bytes new =
    (side ≡ w.side) × IsPartOf read write w × (bytes ≡ [])
    × (new ≡ at (Marking ws (marks ++ record { side = side; read = read; write = write } ∷ [])) s)
-- The next link is opened, within what a turn and a run may open.
Puts g t (Accepting n marks) s (entry.Opened link connected) bytes new =
    (link ≡ s.opened) × (n < most_opened) × (link < g.links) × (bytes ≡ []) × (new ≡ at (Accepting (n + 1) marks) (with_link g connected s))
-- The first marked side is asked what is called for, with the room that it has now.
Puts g t (Serving (m ∷ ms)) s (entry.Conn side answer) bytes new =
    (side ≡ m.side) × (call_for g (past g t) s m ≡ Call.AskConnect) × (bytes ≡ [])
    × (new ≡ at (Serving (marks_left s m ms)) (after_conn g side answer s))
Puts g t (Serving (m ∷ ms)) s (entry.Read side room answer) bytes new =
    (side ≡ m.side) × (call_for g (past g t) s m ≡ Call.AskRead room) × CarriesGot answer room bytes
    × (new ≡ at (after_reading side answer (marks_left s m ms)) (after_read g side answer s))
Puts g t (Serving (m ∷ ms)) s (entry.Write side offered answer) bytes new =
    (side ≡ m.side) × (call_for g (past g t) s m ≡ Call.AskWrite offered) × CarriesTook answer offered bytes
    × (new ≡ at (Serving (marks_left s m ms)) (after_write g (past g t) side answer s))
-- The next reason of the batch is fired, at a live side.
Puts g t (Dispatching (r ∷ rs)) s (entry.Fired side y) bytes new =
    (r ≡ (side, y)) × (is_live s side ≡ true) × (bytes ≡ []) × (new ≡ at (Firing (begun side) rs) s)
-- The hook that runs asks something, and is answered as the state says.
Puts g t (Firing x rs) s (entry.Asked side a answer) bytes new =
    (side ≡ x.side) × (x.asks < most_asks) × (bytes ≡ [])
    × (after : Plain) × Ask g (past g t) s a answer after × (new ≡ at (after_ask (record x { asks = x.asks + 1 }) rs a answer) after)
-- What it freed is recorded.
Puts g t (Freeing gone x rs) s e bytes new = (e ≡ freed_entry s gone cause.Hook) × (bytes ≡ []) × (new ≡ at (Firing x rs) s)
-- The next thing that closing calls for is done.
Puts g t (Closing (c ∷ cs)) s e bytes new =
    (closing_entry g (past g t) s c ≡ Some e) × (bytes ≡ []) × (new ≡ at (Closing (steps_left c cs)) (closed_by c s))
Puts g t _ s e bytes new = ⊥

-- where a hook's fire leads to once it returned
abbrev pub after_fire : Fire → List Reason → Stage
after_fire x rs = if x.stopped then Over (Halt.StoppedBy x.side.link) else Dispatching rs

-- What goes on with no entry, and the state after it.
abbrev pub Quietly : Settings → Trace → Stage → Plain → State → Type 0
-- The poll came back. It need not mark a side.
Quietly g t (Wanting []) s new = new ≡ at (Marking (wanted g (past g t) s) []) s
Quietly g t (Marking (w ∷ ws) marks) s new = new ≡ at (Marking ws marks) s
Quietly g t (Marking [] marks) s new = new ≡ at (Accepting 0 marks) s
-- Accepting may end anywhere as far as a trace can tell: the poll was not ready to accept, or no link waits any more.
Quietly g t (Accepting n marks) s new = new ≡ at (Serving marks) s
-- A mark calls for nothing, or the read filter runs over what was got.
Quietly g t (Serving (m ∷ ms)) s new = (call_for g (past g t) s m ≡ Call.Nothing) × (new ≡ at (Serving (marks_left s m ms)) s)
Quietly g t (Filtering e ms) s new = new ≡ at (Serving ms) (after_got g (past g t) e s)
-- All pending entries become the batch.
Quietly g t (Serving []) s new = new ≡ at (Dispatching (batch s.due)) (record s { due = [] })
-- A fire ends; where it stopped the run, nothing follows.
Quietly g t (Firing x rs) s new = new ≡ at (after_fire x rs) s
Quietly g t (Dispatching []) s new = new ≡ at (Passing [] (all_sides s)) s
-- A direction is passed once a round changes nothing. Else a round is done part by part.
Quietly g t (Passing [] (e ∷ es)) s new =
    ((round g (past g t) e s ≡ s) × (new ≡ at (Passing [] es) s)) ⊎ (new ≡ at (Passing (round_parts g (past g t) e s) (e ∷ es)) s)
Quietly g t (Passing (x ∷ xs) (e ∷ es)) s new = new ≡ at (Passing xs (e ∷ es)) (do_part g (past g t) e x s)
Quietly g t (Passing [] []) s new = new ≡ at (Closing (closing_from 0 s.opened)) s
-- A thing that closing looks at isn't called for. After the last one the turn is over.
Quietly g t (Closing (c ∷ cs)) s new = (closing_entry g (past g t) s c ≡ None) × (new ≡ at (Closing cs) s)
Quietly g t (Closing []) s new = new ≡ at Between s
Quietly g t _ s new = ⊥

-- A trace can lead to a state.
pub data Reaches (g : Settings) : Trace → State → Type 0 where
  begins : Reaches g [] start
  goes : {t : Trace} {s new : State} → Reaches g t s → Quietly g t s.stage s.plain new → Reaches g t new
  puts : {t : Trace} {s new : State} → (e : Entry) (bytes : List ℕ) → Reaches g t s → Puts g t s.stage s.plain e bytes new → Reaches g (t ++ (e, bytes) ∷ []) new

-- A trace is legal where it can lead to some state.
abbrev pub IsLegal : Settings → Trace → Type 0
IsLegal g t = (s : State) × Reaches g t s
