-- What the calls of a script port answer, and what they make of it.
use Rattle.std.specs.Prelude.{ℕ, ◌+◌, ◌==◌, length, Bool, true, false, ◌&&◌, not, if◌then◌else◌, List, map, Option, Some, None, slice_get}
use Rattle.std.specs.Option.{option_map_or}
use Rattle.ev_types.specs.ScriptTurn.{ScriptTurn, lines_of}
use Rattle.ev_port.specs.declared.port.Accepted.{Accepted}
use Rattle.ev_port.specs.declared.port.Accepted.TheVariants as answer
use Rattle.ev_types.specs.declared.addr.Addr.{Addr}
use Rattle.ev_port.specs.declared.port.Polled.{Polled}
use Rattle.ev_port.specs.declared.port.Polled.TheVariants as polled
use Rattle.ev_port.specs.declared.port.Want.{Want}
use Rattle.script_port.specs.declared.port_tally.PortTally.{PortTally}
use Rattle.ev_port.specs.Counting.{counted, risen_if}
use Rattle.ev_port.specs.Polling.{is_failed_poll, opens_accepting}
use Rattle.script_port.specs.EndTallies.{once}
use Rattle.script_port.specs.ScriptState.{LinksState, PortState}
use Rattle.script_port.specs.ScriptLinks.{links_of, new_links, after_lines, entered, marked, unmarked, after_wants, accept_answer}
use Rattle.script_port.specs.ScriptLinks.{accept_first}
use Rattle.script_port.specs.ScriptClosing.{closing_ends, is_announced}

abbrev pub no_port_calls : PortTally
no_port_calls = record {
  accept_polls = 0;
  timeout = None;
  links = 0;
  accepting = false;
  readings = 0;
  reading = 0;
  started = None;
  poll_faults = 0;
}

-- a port at the beginning of these turns: it has the ends of all links that their lines open
abbrev pub new_port : List ScriptTurn → PortState
new_port turns = record {
  turns = turns;
  begun = 0;
  clock = 0;
  closing = 0;
  step = 0;
  links = new_links (links_of (lines_of turns));
  tally = no_port_calls;
}

-- The clock

-- the turn that begins next, if there is one
abbrev pub next_turn : PortState → Option ScriptTurn
next_turn p = slice_get p.turns p.begun

-- behind the turns of the script an announced closing turn goes on by the step; with none announced it is the last moment again
abbrev pub clock_behind : PortState → ℕ
clock_behind p = if is_announced p then p.clock + p.step else p.clock

-- the moment of the turn that begins
abbrev pub clock_answer : PortState → ℕ
clock_answer p = option_map_or (λ turn. turn.0) (next_turn p) (clock_behind p)

-- Behind the turns of the script no turn of it runs. An announced closing turn begins.
abbrev pub begin_behind : Bool → PortState → PortState
begin_behind false p = record p { links = entered None p.links }
begin_behind true p = record p {
  begun = p.begun + 1;
  clock = p.clock + p.step;
  links = closing_ends (entered None p.links);
}

-- the lines of the turn that begins are applied
abbrev pub begin_turn : Option ScriptTurn → PortState → PortState
begin_turn None p = begin_behind (is_announced p) p
begin_turn (Some turn) p = record p {
  begun = p.begun + 1;
  clock = turn.0;
  links = after_lines turn.1 (entered (Some p.begun) p.links);
}

abbrev pub count_reading : PortState → PortState
count_reading p = record p { tally = record p.tally { readings = counted p.tally.readings 1; reading = p.clock } }

abbrev pub after_now : PortState → PortState
after_now p = count_reading (begin_turn (next_turn p) p)

-- Other calls on the whole port

abbrev pub after_start : PortState → Addr → Addr → PortState
after_start p listen to = record p { tally = record p.tally { started = Some (listen, to) } }

-- accepting is offered where it was asked and a link waits
abbrev pub poll_accepts : PortState → Bool → Bool
poll_accepts p accept = accept && not (length p.links.waiting == 0)

-- the poll fails where a line of the running turn says so
abbrev pub poll_answer : PortState → Bool → Polled
poll_answer p accept = if p.links.poll_fails then polled.Failed else polled.Ready (poll_accepts p accept)

-- the wants as the poll leaves them
abbrev pub poll_marks : LinksState → List Want → List Want
poll_marks l wants = if l.poll_fails then map unmarked wants else map (λ w. marked l w) wants

abbrev pub poll_tally : Bool → Option ℕ → Bool → PortTally → PortTally
poll_tally accept timeout opens t = record t {
  accept_polls = counted t.accept_polls (once accept);
  timeout = timeout;
  accepting = opens;
}

abbrev pub poll_fault : Bool → PortTally → PortTally
poll_fault is_fault t = record t { poll_faults = risen_if is_fault t.poll_faults }

-- a poll left these wants and was answered so
abbrev pub after_poll : PortState → List Want → Bool → Option ℕ → Polled → PortState
after_poll p wants accept timeout answer = record p {
  links = after_wants wants p.links;
  tally = poll_fault (is_failed_poll answer) (poll_tally accept timeout (opens_accepting answer) p.tally);
}

-- a poll was answered Failed with nothing asked of the script, and that fault is counted elsewhere
abbrev pub failed_poll : PortState → List Want → Bool → Option ℕ → PortState
failed_poll p wants accept timeout = record p {
  links = after_wants wants p.links;
  tally = poll_tally accept timeout false p.tally;
}

-- an accept that made no link closes accepting
abbrev pub accept_tally : Accepted → PortTally → PortTally
accept_tally (answer.Link connected) t = record t { links = counted t.links 1 }
accept_tally answer.NotYet t = record t { accepting = false }
accept_tally answer.Failed t = record t { accepting = false }
accept_tally answer.NoMemory t = record t { accepting = false }

abbrev pub after_accept : PortState → ℕ → PortState
after_accept p link = record p {
  links = accept_first link p.links.waiting p.links;
  tally = accept_tally (accept_answer p.links.waiting) p.tally;
}
