-- The new timer stands beside the others, and an old one goes.
use Rattle.std.proofs.Common.{◌≡◌, ◌+◌, ◌<◌, ◌∙◌, ap, sym, set, length, Option, None, Some, option_map, arith}
use Rattle.std.proofs.lemmas.List.{map-set, length-map}
use Rattle.min_timer.specs.declared.timer.Timer.{Timer}
use Rattle.event_base.specs.declared.deadlines.Waiting.{Waiting}
use Rattle.event_base.specs.Rising.{at}
use Rattle.event_base.specs.Deadlines.{Moment}
use Rattle.event_base.specs.DeadlinesView.{moment, moments}
use Rattle.event_base.proofs.DeadlineLemmas.{IsTimed-add, IsTimed-replace, value_of-same}
use Rattle.event_base.proofs.deadlines.Deadlines.set.Goals as goal

pub invariant_of-self-in-Some : goal.invariant_of-self-in-Some
invariant_of-self-in-Some c =
    let waiting = c.self.inside.waiting.items in
    let t : Timer = record { deadline = c.args.deadline; key = c.args.event; handle = c.in_ok-timer.timer } in
    let is : at waiting c.args.event ≡ Some c.in-Some.old = sym (c.in-Some.ensures ∙ ap (λ xs. at xs c.args.event) c.deref.ensures.value) in
    let room : c.args.event < length waiting = rw (← c.self.view_is, length-map waiting (option_map moment)) at c.requires in
    rw (c.cancel.ensures.left, c.cancel.ensures.last, c.in_ok-timer.ensures.added, c.in_ok-timer.ensures.counted, c.from.ensures)
    (IsTimed-replace c.self.inside.timers.pending waiting c.self.inside.timers.last t c.in-Some.old c.self.invariant is room
    c.in_ok-timer.ensures.numbered)

pub invariant_of-self-in_default : goal.invariant_of-self-in_default
invariant_of-self-in_default c =
    let waiting = c.self.inside.waiting.items in
    let t : Timer = record { deadline = c.args.deadline; key = c.args.event; handle = c.in_ok-timer.timer } in
    let none : at waiting c.args.event ≡ None = sym (c.in_default.ensures ∙ ap (λ xs. at xs c.args.event) c.deref.ensures.value) in
    let room : c.args.event < length waiting = rw (← c.self.view_is, length-map waiting (option_map moment)) at c.requires in
    rw (c.in_ok-timer.ensures.added, c.in_ok-timer.ensures.counted, c.from.ensures)
    (IsTimed-add c.self.inside.timers.pending waiting c.self.inside.timers.last t c.self.invariant none room c.in_ok-timer.ensures.numbered)

pub returns-in-Some-clause-ok : goal.returns-in-Some-clause-ok
returns-in-Some-clause-ok c =
    let waiting = c.self.inside.waiting.items in
    let w : Waiting = record { deadline = c.args.deadline; timer = c.in_ok-timer.timer } in
    let number : moment w ≡ (record { deadline = c.args.deadline; order = c.self.inside.timers.last + 1 }) = ap
    (λ n. record { deadline = c.args.deadline; order = n }) c.in_ok-timer.ensures.numbered in
    rw (← c.self.view_is) (value_of-same _ _ _ _ _ _ (map-set (option_map moment) waiting c.args.event (Some w) ∙ ap
    (λ m. set (moments waiting) c.args.event (Some m)) number)
    (c.cancel.ensures.last ∙ c.in_ok-timer.ensures.counted) (c.cancel.ensures.delays ∙ c.add.ensures.delays))

pub returns-in_default-clause-ok : goal.returns-in_default-clause-ok
returns-in_default-clause-ok c =
    let waiting = c.self.inside.waiting.items in
    let w : Waiting = record { deadline = c.args.deadline; timer = c.in_ok-timer.timer } in
    let number : moment w ≡ (record { deadline = c.args.deadline; order = c.self.inside.timers.last + 1 }) = ap
    (λ n. record { deadline = c.args.deadline; order = n }) c.in_ok-timer.ensures.numbered in
    rw (← c.self.view_is) (value_of-same _ _ _ _ _ _ (map-set (option_map moment) waiting c.args.event (Some w) ∙ ap
    (λ m. set (moments waiting) c.args.event (Some m)) number)
    c.in_ok-timer.ensures.counted c.add.ensures.delays)
