-- The first of the queue was made active first.
use Rattle.std.proofs.Common.{◌≡◌, ◌∙◌, sym, ap, subst, Some, None}
use Rattle.prio_queue.specs.Queues.{queue_of}
use Rattle.event_base.specs.Rising.{at}
use Rattle.event_base.specs.Ready.{IsFront}
use Rattle.event_base.proofs.ReadyLemmas.{IsFront-first, next-empty, next-first, next-late, front-there}
use Rattle.event_base.proofs.ready.Ready.next_before.Goals as goal

pub returns-in_default : goal.returns-in_default
returns-in_default c =
    let places = c.self.inside.places.items in
    let front : IsFront c.args.priority places None = subst (IsFront c.args.priority places) (sym c.in_default.ensures)
    (IsFront-first c.args.priority places (queue_of c.self.inside.active c.args.priority) (c.self.invariant.rises c.args.priority)) in
    rw (← c.self.view_is) (next-empty c.args.priority c.args.end places front)

pub returns-in-Some-place_at : goal.returns-in-Some-place_at
returns-in-Some-place_at c =
    let places = c.self.inside.places.items in
    let front : IsFront c.args.priority places (Some c.in-Some.first) = subst (IsFront c.args.priority places)
    (sym c.in-Some.ensures) (IsFront-first c.args.priority places (queue_of c.self.inside.active c.args.priority)
    (c.self.invariant.rises c.args.priority)) in
    let is : at places c.in-Some.first ≡ Some c.in-Some-place_at.place = sym (c.in-Some-place_at.ensures ∙ ap
    (λ xs. at xs c.in-Some.first) c.deref.ensures.value) in
    rw (← c.self.view_is) (next-first c.args.priority c.args.end c.in-Some.first places c.in-Some-place_at.place front is
    c.if-place-end.true)

pub returns-in_default-place_at : goal.returns-in_default-place_at
returns-in_default-place_at c =
    let places = c.self.inside.places.items in
    let front : IsFront c.args.priority places (Some c.in-Some.first) = subst (IsFront c.args.priority places)
    (sym c.in-Some.ensures) (IsFront-first c.args.priority places (queue_of c.self.inside.active c.args.priority)
    (c.self.invariant.rises c.args.priority)) in
    let is : at places c.in-Some.first ≡ Some c.in-Some-place_at.place = sym (c.in-Some-place_at.ensures ∙ ap
    (λ xs. at xs c.in-Some.first) c.deref.ensures.value) in
    rw (← c.self.view_is) (next-late c.args.priority c.args.end c.in-Some.first places c.in-Some-place_at.place front is
    c.if-place-end.false)

pub returns-in_default-place_at-2 : goal.returns-in_default-place_at-2
returns-in_default-place_at-2 c =
    let places = c.self.inside.places.items in
    let front : IsFront c.args.priority places (Some c.in-Some.first) = subst (IsFront c.args.priority places)
    (sym c.in-Some.ensures) (IsFront-first c.args.priority places (queue_of c.self.inside.active c.args.priority)
    (c.self.invariant.rises c.args.priority)) in
    let none : at places c.in-Some.first ≡ None = sym (c.in_default-place_at.ensures ∙ ap (λ xs. at xs c.in-Some.first)
    c.deref.ensures.value) in
    absurd (front-there c.args.priority c.in-Some.first places front none)
