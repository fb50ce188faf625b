-- How one call changes what a port tells of itself and of its ends.
use Rattle.std.specs.Prelude.{◌≢◌, ℕ, Bool, false, List, []}
use Rattle.ev_types.specs.declared.side.SideId.{SideId}
use Rattle.ev_types.specs.Told.{EndTold, PortTold, Adds, Raises, Counts, Stays}

-- what one call adds to what is told of an end
pub record EndStep : Type 0 where
  pub got : List ℕ
  pub took : List ℕ
  pub made_connected : Bool
  pub ended : Bool
  pub connected : Bool
  pub write_ended : Bool
  pub closed : Bool
  pub reads : ℕ
  pub writes : ℕ
  pub checks : ℕ
  pub room : ℕ
  pub offer : ℕ
  pub read_wants : ℕ
  pub write_wants : ℕ
  pub read_marks : ℕ
  pub write_marks : ℕ

-- the call that adds nothing
abbrev pub no_step : EndStep
no_step = record {
  got = [];
  took = [];
  made_connected = false;
  ended = false;
  connected = false;
  write_ended = false;
  closed = false;
  reads = 0;
  writes = 0;
  checks = 0;
  room = 0;
  offer = 0;
  read_wants = 0;
  write_wants = 0;
  read_marks = 0;
  write_marks = 0;
}

-- what is told of an end changed by one step
pub record EndWent (old new : EndTold) (step : EndStep) : Type 0 where
  pub handed_out : Adds old.handed_out new.handed_out step.got
  pub taken : Adds old.taken new.taken step.took
  pub made_connected : Raises old.made_connected new.made_connected step.made_connected
  pub ended : Raises old.ended new.ended step.ended
  pub connected : Raises old.connected new.connected step.connected
  pub write_ended : Raises old.write_ended new.write_ended step.write_ended
  pub closed : Raises old.closed new.closed step.closed
  pub reads : Counts old.reads new.reads step.reads
  pub writes : Counts old.writes new.writes step.writes
  pub checks : Counts old.checks new.checks step.checks
  pub rooms : Counts old.rooms new.rooms step.room
  pub offers : Counts old.offers new.offers step.offer
  pub read_wants : Counts old.read_wants new.read_wants step.read_wants
  pub write_wants : Counts old.write_wants new.write_wants step.write_wants
  pub read_marks : Counts old.read_marks new.read_marks step.read_marks
  pub write_marks : Counts old.write_marks new.write_marks step.write_marks

-- one end went this step, and no other end changed
pub record EndsWent (old new : SideId → EndTold) (end : SideId) (step : EndStep) : Type 0 where
  pub own : EndWent (old end) (new end) step
  pub others : (e : SideId) → e ≢ end → EndWent (old e) (new e) no_step

-- each end went a step of its own
abbrev pub AllWent : (SideId → EndTold) → (SideId → EndTold) → (SideId → EndStep) → Type 0
AllWent old new step = (e : SideId) → EndWent (old e) (new e) (step e)

-- what is told of the whole port stays
pub record PortStays (old new : PortTold) : Type 0 where
  pub accept_polls : Stays old.accept_polls new.accept_polls
  pub timeout : Stays old.timeout new.timeout
  pub links : Stays old.links new.links
  pub accepting : Stays old.accepting new.accepting
  pub readings : Stays old.readings new.readings
  pub reading : Stays old.reading new.reading
  pub started : Stays old.started new.started
