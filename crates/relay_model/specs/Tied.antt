-- When a port is tied to a trace: what it tells now is what it told as the run began, and what the trace adds. Each meaning
-- is told or not by itself; what was told as the run began is told still, but for a number that came to 2^64 - 1.
use Rattle.std.specs.Prelude.{◌≡◌, ◌⊎◌, ℕ, ◌≤◌, min, max, ⊤, true, List, [], ◌∷◌, ◌++◌, length, count_by, sum_by, Option, Some, MatchOption}
use Rattle.std.specs.Prelude.{IsSome, IsSomeAnd}
use Rattle.ev_types.specs.declared.side.SideId.{SideId}
use Rattle.ev_types.specs.Trace.{Trace}
use Rattle.relay_model.specs.Trace.{bytes_read, bytes_given, has_ended, is_write_closed}
use Rattle.relay_model.specs.Settings.{Settings}
use Rattle.ev_types.specs.Times.{latest}
use Rattle.ev_types.specs.Told.{EndTold, PortTold, Adds, Raises, Counts, Stays}
use Rattle.relay_model.specs.Turn.{most_opened}
use Rattle.relay_model.specs.Totals.{is_read_of, is_write_of, is_check_of, room_by, offered_by, wants_read_by, wants_write_by}
use Rattle.relay_model.specs.Totals.{marks_read_by, marks_write_by, is_made_connected, is_connected, is_closed, opened, opened_in_turn}
use Rattle.relay_model.specs.Totals.{times, last_timeout, polls_that_accept}

-- The last reading

-- The last of these times of turns is the greater of the one before it and the reading, cut at the latest time. The first
-- comes behind a time of its own.
abbrev pub LastFollows : ℕ → List ℕ → ℕ → Type 0
LastFollows before [] reading = ⊤
LastFollows before (time ∷ []) reading = time ≡ max before (min reading latest)
LastFollows before (time ∷ next ∷ later) reading = LastFollows time (next ∷ later) reading

-- the last reading of the clock is told: as before where no turn began, and else one that the last turn follows
abbrev pub TellsReading : Option ℕ → Option ℕ → List ℕ → Type 0
TellsReading began now [] = Stays began now
TellsReading began now (time ∷ later) = MatchOption began ⊤ (λ before. IsSomeAnd now (LastFollows 0 (time ∷ later)))

-- A port that is tied

-- what is told of an end is what the trace says of it
pub record EndTied (began now : EndTold) (e : SideId) (t : Trace) : Type 0 where
  pub handed_out : Adds began.handed_out now.handed_out (bytes_read e t)
  pub taken : Adds began.taken now.taken (bytes_given e t)
  pub made_connected : Raises began.made_connected now.made_connected (is_made_connected e t)
  pub ended : Raises began.ended now.ended (has_ended e t)
  pub connected : Raises began.connected now.connected (is_connected e t)
  pub write_ended : Raises began.write_ended now.write_ended (is_write_closed e t)
  pub closed : Raises began.closed now.closed (is_closed e t)
  pub reads : Counts began.reads now.reads (count_by (is_read_of e) t)
  pub writes : Counts began.writes now.writes (count_by (is_write_of e) t)
  pub checks : Counts began.checks now.checks (count_by (is_check_of e) t)
  pub rooms : Counts began.rooms now.rooms (sum_by (room_by e) t)
  pub offers : Counts began.offers now.offers (sum_by (offered_by e) t)
  pub read_wants : Counts began.read_wants now.read_wants (count_by (wants_read_by e) t)
  pub write_wants : Counts began.write_wants now.write_wants (count_by (wants_write_by e) t)
  pub read_marks : Counts began.read_marks now.read_marks (count_by (marks_read_by e) t)
  pub write_marks : Counts began.write_marks now.write_marks (count_by (marks_write_by e) t)

-- What is told of the whole port is what the trace says. A poll asks to accept where fewer links than may be opened in all
-- were opened before it. The addresses of the last start stay, as no turn starts the port.
pub record PortTied (g : Settings) (began now : PortTold) (t : Trace) : Type 0 where
  pub accept_polls : Counts began.accept_polls now.accept_polls (polls_that_accept g.links 0 t)
  pub timeout : MatchOption began.timeout ⊤ (λ before. now.timeout ≡ Some (last_timeout before t))
  pub links : Counts began.links now.links (opened t)
  pub accepting : IsSome began.accepting → IsSome now.accepting
  pub readings : Counts began.readings now.readings (length (times t))
  pub reading : TellsReading began.reading now.reading (times t)
  pub started : Stays began.started now.started

-- A port is tied to the trace of a run since the run began.
pub record IsTied (g : Settings) (port_began port_now : PortTold) (ends_began ends_now : SideId → EndTold) (t : Trace) : Type 0 where
  pub port : PortTied g port_began port_now t
  pub ends : (e : SideId) → EndTied (ends_began e) (ends_now e) e t

-- After a turn that wasn't cut off, accepting stands open only where that turn opened as many links as a turn may open, or
-- no more may be opened in all.
abbrev pub ClosedAfterTurn : Settings → PortTold → Trace → Type 0
ClosedAfterTurn g now t = MatchOption now.accepting ⊤ (λ stands_open. stands_open ≡ true → (opened_in_turn t ≡ most_opened) ⊎ (g.links ≤ opened t))

-- What an end tells over two traces in a row, it tells over both as one.
abbrev pub EndTiesJoin : Type 0
EndTiesJoin = (began mid now : EndTold) (e : SideId) (t more : Trace) → EndTied began mid e t → EndTied mid now e more → EndTied began now e (t ++ more)

-- Before anything happened a port is tied to the trace of no entries, whatever it tells.
abbrev pub NothingIsTied : Type 0
NothingIsTied = (g : Settings) (port : PortTold) (ends : SideId → EndTold) → IsTied g port port ends ends []
