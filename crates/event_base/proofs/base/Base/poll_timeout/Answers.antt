-- The queues tell whether an event is active, and the timers the least deadline.
use Rattle.std.proofs.Common.{◌≡◌, ◌∙◌, ℕ, ◌+◌, ◌-◌, ◌<◌, ◌≤◌, ◌^◌, max, min, sym, ap, subst, refl, [], map, count_by, slice_get, length}
use Rattle.std.proofs.Common.{Some, None, Ok, Err, is_some, true, false, arith}
use Rattle.event_base.specs.Base.{BaseValue}
use Rattle.event_base.specs.Events.{made}
use Rattle.event_base.specs.BaseView.{base_of}
use Rattle.event_base.proofs.FireLemmas.{least-priority, least-deadline, active-priority}
use Rattle.event_base.proofs.base.Base.poll_timeout.Goals as goal

pub returns-then-is_some : goal.returns-then-is_some
returns-then-is_some c =
    let events = c.self.inside.events.items in
    let some = active-priority events ∙ ap is_some (least-priority c.self.inside.ready.places events c.first_priority.result
    c.self.invariant.kept.placed c.first_priority.ensures) ∙ sym c.is_some.ensures ∙ c.if-is_some.true in
    rw (← c.self.view_is, some) refl

pub returns-in-Some : goal.returns-in-Some
returns-in-Some c =
    let events = c.self.inside.events.items in
    let none = active-priority events ∙ ap is_some (least-priority c.self.inside.ready.places events c.first_priority.result
    c.self.invariant.kept.placed c.first_priority.ensures) ∙ sym c.is_some.ensures ∙ c.if-is_some.false in
    let first = least-deadline c.self.inside.deadlines.moments events c.first.result c.self.invariant.kept.timed c.first.ensures ∙
    c.in-Some.is in
    rw (← c.self.view_is, none, first, c.saturating_sub.ensures) refl

pub returns-in-None : goal.returns-in-None
returns-in-None c =
    let events = c.self.inside.events.items in
    let none = active-priority events ∙ ap is_some (least-priority c.self.inside.ready.places events c.first_priority.result
    c.self.invariant.kept.placed c.first_priority.ensures) ∙ sym c.is_some.ensures ∙ c.if-is_some.false in
    let first = least-deadline c.self.inside.deadlines.moments events c.first.result c.self.invariant.kept.timed c.first.ensures ∙
    c.in-None.is in
    rw (← c.self.view_is, none, first) refl
