-- How a base keeps what contracts see of it: the events, and beside them the queues and the timers.
use Rattle.std.specs.Prelude.{◌≤◌, ◌^◌}
use Rattle.event_base.specs.declared.base.Base.TheInside.{Inside}
use Rattle.event_base.specs.Base.{BaseValue}
use Rattle.event_base.specs.Tied.{AreKept}

abbrev pub base_of : Inside → BaseValue
base_of b = record {
  priorities = b.ready.priorities;
  time = b.time;
  events = b.events.items;
  last_adding = b.deadlines.last;
  delays = b.deadlines.delays;
  next_activation = b.ready.next;
  batch_priority = b.batch_priority;
  batch_end = b.batch_end;
  broken = b.broken;
  exiting = b.exiting;
}

-- What holds of every base: what is kept beside the events is theirs, and the time is one that a clock can tell.
pub record IsBase (b : Inside) : Type 0 where
  pub kept : AreKept b.events.items b.deadlines b.ready
  pub early : b.time ≤ 2 ^ 62
