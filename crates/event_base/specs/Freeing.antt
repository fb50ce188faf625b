-- An event that is freed is deleted for good, and each event is pending or not.
use Rattle.std.specs.Prelude.{ℕ, Bool, slice_get, Result, Ok, Err}
use Rattle.std.specs.Option.{option_map_or}
use Rattle.event_base.specs.declared.fault.BaseFault.{BaseFault}
use Rattle.event_base.specs.declared.fault.BaseFault.TheVariants.{NoEvent}
use Rattle.event_base.specs.Base.{BaseValue}
use Rattle.event_base.specs.Events.{freed_event, unless_freed}
use Rattle.event_base.specs.Calls.{Step, at_event, with_event}

-- deletes an event for good: no call finds it any more
abbrev pub free_event : BaseValue → ℕ → Step
free_event b number = at_event b number (λ e. Ok (with_event b number (freed_event e)))

-- is the event pending
abbrev pub is_pending : BaseValue → ℕ → Result Bool BaseFault
is_pending b number = option_map_or (λ e. Ok e.pending) (unless_freed (slice_get b.events number)) (Err NoEvent)
