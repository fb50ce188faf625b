-- What contracts see of a base: plain numbers and a list of events. What a call does to it stands elsewhere.
use Rattle.std.specs.Prelude.{ℕ, List, Bool}
use Rattle.event_base.specs.declared.event.Event.{Event}

-- A base: the number of its priorities, the time in milliseconds, its events by number, the last order number of
-- adding, or 0, the delays that were registered, the next order number of activation, the batch of the turn, and whether the loop was told
-- to break or to exit. The batch is the active events of one priority whose order number of activation is below its end: what was
-- made active later, or anew, is not in it.
pub record BaseValue : Type 0 where
  pub priorities : ℕ
  pub time : ℕ
  pub events : List Event
  pub last_adding : ℕ
  pub delays : List ℕ
  pub next_activation : ℕ
  pub batch_priority : ℕ
  pub batch_end : ℕ
  pub broken : Bool
  pub exiting : Bool
