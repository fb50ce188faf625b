-- The callbacks that are due by number, as the relay's model has them by side.
use Rattle.std.specs.Prelude.{List, map, option_map}
use Rattle.ev_types.specs.declared.why.Flags.{Flags}
use Rattle.deferred_cb.specs.DueCalls as by_number
use Rattle.relay_model.specs.Due.{Due, Reason}
use Rattle.relay_waits.specs.Numbered.{side_numbered}

-- what is due for the side with the entry's number
abbrev pub due_of : by_number.Entry → Due
due_of e = record {
  side = side_numbered e.0;
  connected = e.1.connected;
  read = e.1.read;
  write = e.1.write;
  event = option_map (λ (f : Flags). f.0) e.1.event;
  timer = e.1.timer;
}

-- the model's pending entries
abbrev pub dues : List by_number.Entry → List Due
dues es = map due_of es

-- a call as a reason that is to be fired
abbrev pub reason_of_call : by_number.Call → Reason
reason_of_call call = (side_numbered call.0, call.1)

-- the model's reasons that are to be fired
abbrev pub left_to_call : List by_number.Call → List Reason
left_to_call calls = map reason_of_call calls
