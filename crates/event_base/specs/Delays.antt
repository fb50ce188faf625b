-- A delay that many events will have is registered.
use Rattle.std.specs.Prelude.{ℕ, if◌then◌else◌, Ok, Err}
use Rattle.min_timer.specs.Queue.{with_delay, are_too_many}
use Rattle.event_base.specs.declared.fault.BaseFault.TheVariants.{TooManyDelays}
use Rattle.event_base.specs.Base.{BaseValue}
use Rattle.event_base.specs.Calls.{Step}

-- registers a delay; one that is registered changes nothing
abbrev pub common : BaseValue → ℕ → Step
common b delay = if are_too_many delay b.delays then Err TooManyDelays else Ok (record b { delays = with_delay delay b.delays })
