-- What a refusal of the queues or of the timers becomes to a caller of the base.
use Rattle.prio_queue.specs.declared.fault.PrioFault as queue
use Rattle.prio_queue.specs.declared.fault.PrioFault.TheVariants as queue_fault
use Rattle.min_timer.specs.declared.fault.TimerFault as timer
use Rattle.min_timer.specs.declared.fault.TimerFault.TheVariants as timer_fault
use Rattle.event_base.specs.declared.fault.BaseFault.{BaseFault}
use Rattle.event_base.specs.declared.fault.BaseFault.TheVariants.{Memory, BadPriority, NoEvent, Spent, TooManyDelays}

abbrev pub from_queue : queue.PrioFault → BaseFault
from_queue queue_fault.Memory = Memory
from_queue queue_fault.BadPriority = BadPriority

abbrev pub from_timers : timer.TimerFault → BaseFault
from_timers timer_fault.Memory = Memory
from_timers timer_fault.NotPending = NoEvent
from_timers timer_fault.Spent = Spent
from_timers timer_fault.TooManyDelays = TooManyDelays
