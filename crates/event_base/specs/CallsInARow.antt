-- Calls on a base in a row: what each makes of it, and to which base they lead.
use Rattle.std.specs.Prelude.{◌≡◌, ℕ, ◌==◌, Bool, true, false, List, [], ◌∷◌, Option, Ok}
use Rattle.event_base.specs.Base.{BaseValue}
use Rattle.event_base.specs.Calls.{Step, new_event, set_priority, add_event, del_event, activate, signal, begin_turn, next_active}
use Rattle.event_base.specs.Calls.{loop_break, loop_exit}
use Rattle.event_base.specs.Freeing.{free_event}
use Rattle.event_base.specs.Delays.{common}

-- a call that changes a base
pub data BaseCall : Type 0 where
  NewEvent : Bool → Option ℕ → BaseCall  -- persistent or not, and its signal
  SetPriority : ℕ → ℕ → BaseCall  -- an event, and its priority
  AddEvent : ℕ → Option ℕ → BaseCall  -- an event, and its timeout
  DelEvent : ℕ → BaseCall
  FreeEvent : ℕ → BaseCall
  Activate : ℕ → ℕ → BaseCall  -- an event, and the flags
  Signal : ℕ → ℕ → BaseCall  -- a signal, and how often it came
  BeginTurn : ℕ → BaseCall  -- the clock reading
  NextActive : BaseCall
  LoopBreak : BaseCall
  LoopExit : BaseCall
  Common : ℕ → BaseCall  -- a delay

-- what a call makes of a base
abbrev pub done : BaseCall → BaseValue → Step
done (BaseCall.NewEvent persist number) b = new_event b persist number
done (BaseCall.SetPriority event priority) b = set_priority b event priority
done (BaseCall.AddEvent event timeout) b = add_event b event timeout
done (BaseCall.DelEvent event) b = del_event b event
done (BaseCall.FreeEvent event) b = free_event b event
done (BaseCall.Activate event what) b = activate b event what
done (BaseCall.Signal number count) b = signal b number count
done (BaseCall.BeginTurn now) b = begin_turn b now
done BaseCall.NextActive b = next_active b
done BaseCall.LoopBreak b = Ok (loop_break b)
done BaseCall.LoopExit b = Ok (loop_exit b)
done (BaseCall.Common delay) b = common b delay

-- The calls lead from one base to another. A call that is refused changes nothing, and is left out.
abbrev pub LeadsTo : BaseValue → List BaseCall → BaseValue → Type 0
LeadsTo b [] last = b ≡ last
LeadsTo b (c ∷ cs) last = (next : BaseValue) × (done c b ≡ Ok next) × LeadsTo next cs last

-- does the call add this event, or make it active by its number
abbrev pub rouses : ℕ → BaseCall → Bool
rouses k (BaseCall.AddEvent event timeout) = event == k
rouses k (BaseCall.Activate event what) = event == k
rouses k c = false
