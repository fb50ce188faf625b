-- How the active events are kept: each priority has a queue, and beside it the place of each event.
use Rattle.std.specs.Prelude.{length}
use Rattle.event_base.specs.declared.ready.Ready.TheInside.{Inside}
use Rattle.event_base.specs.Ready.{ReadyValue, IsPlaced}

abbrev pub ready_of : Inside → ReadyValue
ready_of r = record { priorities = length r.active; places = r.places.items; next = r.next }

abbrev pub IsReady : Inside → Type 0
IsReady r = IsPlaced r.active r.places.items r.next
