-- What holds after a step of a filter, by the answer.
use Rattle.std.specs.Prelude.{Result, Ok, Err}
use Rattle.stream_filters.specs.declared.stream_filter.Step.{Step}
use Rattle.bev_filter.specs.declared.fault.PassFault.{PassFault}
use Rattle.bev_filter.specs.declared.fault.PassFault.TheVariants as pass
use Rattle.bev_world.specs.declared.fault.WorldFault.{WorldFault}
use Rattle.bev_world.specs.declared.fault.WorldFault.TheVariants as fault

-- This of a step that was made, also up to a bad byte; that of one that was refused.
abbrev pub ByAnswer : (Result Step PassFault → Type 0) → Type 0 → Result Step WorldFault → Type 0
ByAnswer made refused (Ok step) = made (Ok step)
ByAnswer made refused (Err (fault.Filter place)) = made (Err (pass.Filter place))
ByAnswer made refused (Err fault.Memory) = refused
ByAnswer made refused (Err fault.NotLive) = refused
ByAnswer made refused (Err fault.NotSocket) = refused
ByAnswer made refused (Err fault.IdsSpent) = refused
ByAnswer made refused (Err fault.Taken) = refused
ByAnswer made refused (Err fault.NoFilter) = refused
ByAnswer made refused (Err fault.TooManyRefs) = refused
ByAnswer made refused (Err fault.Spent) = refused
