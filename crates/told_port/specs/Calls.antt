-- What a port that tells has told before its first call, and after each.
use Rattle.std.specs.Prelude.{ℕ, Bool, true, false, ◌&&◌, not, if◌then◌else◌, count_by, List, [], ◌∷◌, Option, Some, None}
use Rattle.ev_types.specs.declared.side.SideId.{SideId}
use Rattle.ev_types.specs.Sides.{same_end}
use Rattle.ev_types.specs.Told.{EndTold, PortTold}
use Rattle.ev_port.specs.declared.port.Accepted.{Accepted}
use Rattle.ev_port.specs.declared.port.Accepted.TheVariants as accepted
use Rattle.ev_port.specs.declared.port.Polled.{Polled}
use Rattle.ev_port.specs.declared.port.Want.{Want}
use Rattle.ev_port.specs.EndSteps.{EndStep, no_step}
use Rattle.ev_port.specs.Calls.{accept_step}
use Rattle.ev_port.specs.Ends.{conn_step, read_step, write_step, close_write_step, close_step}
use Rattle.ev_port.specs.Polling.{is_failed_poll, opens_accepting}
use Rattle.told_port.specs.declared.call.Call.{Call}
use Rattle.told_port.specs.declared.call.Call.TheVariants as call
use Rattle.told_port.specs.Grown.{added, grown, step_at}

-- nothing was done yet, and all of it is told
abbrev pub first_told : PortTold
first_told = record {
  accept_polls = Some 0;
  timeout = Some None;
  links = Some 0;
  accepting = Some false;
  readings = Some 0;
  reading = Some 0;
  started = Some None;
}

-- nothing was done at an end, and all of it is told
abbrev pub first_end : EndTold
first_end = record {
  handed_out = Some [];
  taken = Some [];
  made_connected = Some false;
  ended = Some false;
  connected = Some false;
  write_ended = Some false;
  closed = Some false;
  reads = Some 0;
  writes = Some 0;
  checks = Some 0;
  rooms = Some 0;
  offers = Some 0;
  read_wants = Some 0;
  write_wants = Some 0;
  read_marks = Some 0;
  write_marks = Some 0;
}

-- A call that was made: what it was answered, the bytes that it was given as it left them, the wants, and those of them that have a
-- mark or may have one.
abbrev pub Heard : Type 0
Heard = Call × List ℕ × List Want × List Want

-- what a poll counts at an end: all wants, and the marks where it was ready
abbrev pub poll_counts : List Want → List Want → Polled → SideId → EndStep
poll_counts wants marked answer e =
    let marks : Bool = not (is_failed_poll answer) in
    record no_step {
      read_wants = count_by (λ w. same_end w.side e && w.read) wants;
      write_wants = count_by (λ w. same_end w.side e && w.write) wants;
      read_marks = count_by (λ w. marks && same_end w.side e && w.can_read) marked;
      write_marks = count_by (λ w. marks && same_end w.side e && w.can_write) marked;
    }

-- what a call adds to what is told of each end
abbrev pub step_of : Heard → SideId → EndStep
step_of (call.Start listen to, bytes, wants, marked) e = no_step
step_of (call.Now reading, bytes, wants, marked) e = no_step
step_of (call.Poll accept timeout answer, bytes, wants, marked) e = poll_counts wants marked answer e
step_of (call.Accept link answer, bytes, wants, marked) e = accept_step link answer e
step_of (call.ConnectState end answer, bytes, wants, marked) e = step_at end (conn_step answer) e
step_of (call.Read end answer, into, wants, marked) e = step_at end (read_step answer into) e
step_of (call.Write end answer, from, wants, marked) e = step_at end (write_step answer from) e
step_of (call.CloseWrite end, bytes, wants, marked) e = step_at end close_write_step e
step_of (call.Close end, bytes, wants, marked) e = step_at end close_step e
step_of (call.StopAccepting, bytes, wants, marked) e = no_step

-- what is told of each end, the calls being listed with the last one first
abbrev pub ends_by : List Heard → SideId → EndTold
ends_by [] e = first_end
ends_by (x ∷ earlier) e = grown (step_of x e) (ends_by earlier e)

-- what a call adds to what is told of the whole port
abbrev pub told_after : Call → PortTold → PortTold
told_after (call.Start listen to) told = record told { started = Some (Some (listen, to)) }
told_after (call.Now reading) told = record told { readings = added 1 told.readings; reading = Some reading }
told_after (call.Poll accept timeout answer) told =
    record told { accept_polls = added (if accept then 1 else 0) told.accept_polls; timeout = Some timeout; accepting = Some (opens_accepting answer) }
told_after (call.Accept link (accepted.Link connected)) told = record told { links = added 1 told.links }
told_after (call.Accept link accepted.NotYet) told = record told { accepting = Some false }
told_after (call.Accept link accepted.Failed) told = record told { accepting = Some false }
told_after (call.Accept link accepted.NoMemory) told = record told { accepting = Some false }
told_after (call.ConnectState end answer) told = told
told_after (call.Read end answer) told = told
told_after (call.Write end answer) told = told
told_after (call.CloseWrite end) told = told
told_after (call.Close end) told = told
told_after call.StopAccepting told = told

-- what is told of the whole port
abbrev pub told_by : List Heard → PortTold
told_by [] = first_told
told_by (x ∷ earlier) = told_after x.0 (told_by earlier)
