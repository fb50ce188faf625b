-- What the calls on the whole port say, but for the poll: the clock, the start and the accept. And which entries of a
-- trace no port answers.
use Rattle.std.specs.Prelude.{ℕ, ⊤, Bool, true, false, ◌&&◌, ◌||◌, [], ◌∷◌, ◌++◌, Some, None}
use Rattle.ev_types.specs.declared.side.Side.TheVariants.{In, Out}
use Rattle.ev_types.specs.declared.side.SideId.{SideId}
use Rattle.ev_types.specs.declared.entry.Entry.{Entry}
use Rattle.ev_types.specs.declared.entry.Entry.TheVariants as entry
use Rattle.ev_types.specs.Sides.{same_end}
use Rattle.ev_types.specs.Times.{turn_time}
use Rattle.ev_types.specs.Trace.{Trace}
use Rattle.ev_port.specs.declared.port.Accepted.{Accepted}
use Rattle.ev_port.specs.declared.port.Accepted.TheVariants as accepted
use Rattle.ev_types.specs.declared.addr.Addr.{Addr}
use Rattle.ev_port.specs.declared.port.Started.{Started}
use Rattle.ev_port.specs.declared.port.Started.TheVariants as started
use Rattle.ev_port.specs.EndSteps.{EndStep, no_step, PortStays}
use Rattle.ev_types.specs.Told.{PortTold, Counts, Becomes, Stays}

-- The clock

-- a reading of the clock begins a turn at that time
abbrev pub Ticked : {Plan : Type 0} → (Plan → Trace → Type 0) → (Plan → Trace → Type 0) → ℕ → Type 0
Ticked {Plan} old new reading = (plan : Plan) (t : Trace) → old plan t → new plan (t ++ (entry.Turn (turn_time t reading), []) ∷ [])

pub record ClockRead (old new : PortTold) (at : ℕ) : Type 0 where
  pub accept_polls : Stays old.accept_polls new.accept_polls
  pub timeout : Stays old.timeout new.timeout
  pub links : Stays old.links new.links
  pub accepting : Stays old.accepting new.accepting
  pub readings : Counts old.readings new.readings 1
  pub reading : Becomes old.reading new.reading at
  pub started : Stays old.started new.started

-- Starting

abbrev pub is_failed_start : Started → Bool
is_failed_start started.Failed = true
is_failed_start started.Started = false
is_failed_start started.NoMemory = false

pub record StartedAt (old new : PortTold) (listen to : Addr) : Type 0 where
  pub accept_polls : Stays old.accept_polls new.accept_polls
  pub timeout : Stays old.timeout new.timeout
  pub links : Stays old.links new.links
  pub accepting : Stays old.accepting new.accepting
  pub readings : Stays old.readings new.readings
  pub reading : Stays old.reading new.reading
  pub started : Becomes old.started new.started (Some (listen, to))

-- Accepting

abbrev pub is_failed_accept : Accepted → Bool
is_failed_accept accepted.Failed = true
is_failed_accept (accepted.Link connected) = false
is_failed_accept accepted.NotYet = false
is_failed_accept accepted.NoMemory = false

-- the entry of an accepted link; no other answer has one
abbrev pub accept_events : ℕ → Accepted → Trace
accept_events link (accepted.Link connected) = (entry.Opened link connected, []) ∷ []
accept_events link accepted.NotYet = []
accept_events link accepted.Failed = []
accept_events link accepted.NoMemory = []

-- an accepted link makes its In end connected, and its Out end where the answer says so
abbrev pub accept_step : ℕ → Accepted → SideId → EndStep
accept_step link (accepted.Link connected) e =
    record no_step { made_connected = same_end e (record { link = link; side = In }) || (same_end e (record { link = link; side = Out }) && connected) }
accept_step link accepted.NotYet e = no_step
accept_step link accepted.Failed e = no_step
accept_step link accepted.NoMemory e = no_step

-- accepting stands open behind a link alone
abbrev pub AcceptedLink : PortTold → PortTold → Accepted → Type 0
AcceptedLink old new (accepted.Link connected) = PortStays (record old { links = None }) new × Counts old.links new.links 1
AcceptedLink old new answer = PortStays (record old { accepting = None }) new × Becomes old.accepting new.accepting false

-- What no port answers

-- an entry that no port answers
abbrev pub IsUnheard : Entry → Type 0
IsUnheard (entry.Fired side why) = ⊤
IsUnheard (entry.Asked side act answer) = ⊤
IsUnheard (entry.Freed side cause moved given) = ⊤
IsUnheard _ = ⊥
