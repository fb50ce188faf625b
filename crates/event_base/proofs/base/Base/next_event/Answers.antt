-- The queue of the batch tells the next fire.
use Rattle.std.proofs.Common.{◌≡◌, ◌∙◌, ◌+◌, ◌-◌, ◌<◌, ◌≤◌, ◌^◌, sym, ap, refl, slice_get, length, Some, None, is_some, true, false, arith}
use Rattle.event_base.specs.Events.{made}
use Rattle.event_base.specs.BaseView.{base_of}
use Rattle.event_base.proofs.FireLemmas.{next_event-is}
use Rattle.event_base.proofs.base.Base.next_event.Goals as goal

pub returns : goal.returns
returns c =
    rw (← c.self.view_is) (sym (next_event-is (base_of c.self.inside) c.self.inside.ready.places (made false None 0)
    c.next_before.result c.self.invariant.kept.placed c.next_before.ensures))
