-- The queues tell the most urgent priority.
use Rattle.std.proofs.Common.{◌≡◌, ◌∙◌, ℕ, ◌+◌, ◌-◌, ◌<◌, ◌≤◌, ◌^◌, max, min, sym, ap, subst, refl, [], map, count_by, slice_get, length}
use Rattle.std.proofs.Common.{Some, None, Ok, Err, is_some, true, false, arith}
use Rattle.event_base.specs.Base.{BaseValue}
use Rattle.event_base.specs.Events.{made}
use Rattle.event_base.specs.BaseView.{base_of}
use Rattle.event_base.proofs.FireLemmas.{least-priority}
use Rattle.event_base.proofs.base.Base.fix_batch.Goals as goal

pub returns : goal.returns
returns c =
    let e = least-priority c.self.inside.ready.places c.self.inside.events.items c.first_priority.result
    c.self.invariant.kept.placed c.first_priority.ensures in
    rw (← c.self.view_is, e, c.unwrap_or-priority.ensures, c.batch_end-end.ensures, c.next.ensures) refl
