-- The event's timer and its handle go together.
use Rattle.std.proofs.Common.{◌≡◌, ◌∙◌, ap, sym, refl, set, Option, None, Some, option_map}
use Rattle.std.proofs.lemmas.List.{map-set, set-get_or}
use Rattle.event_base.specs.declared.deadlines.Waiting.{Waiting}
use Rattle.event_base.specs.Rising.{at}
use Rattle.event_base.specs.DeadlinesView.{moment, moments}
use Rattle.event_base.proofs.DeadlineLemmas.{IsTimed-clear, at-moments, value_of-same}
use Rattle.event_base.proofs.deadlines.Deadlines.clear.Goals as goal

pub invariant_of-self : goal.invariant_of-self
invariant_of-self c =
    let is : at c.self.inside.waiting.items c.args.event ≡ Some c.in-Some.old = sym (c.in-Some.ensures ∙ ap
    (λ xs. at xs c.args.event) c.deref.ensures.value) in
    rw (c.cancel.ensures.left, c.cancel.ensures.last) (IsTimed-clear _ _ _ _ c.in-Some.old c.self.invariant is)

pub returns-in_default : goal.returns-in_default
returns-in_default c =
    let waiting = c.self.inside.waiting.items in
    let none : at waiting c.args.event ≡ None = sym (c.in_default.ensures ∙ ap (λ xs. at xs c.args.event) c.deref.ensures.value) in
    let same : set (moments waiting) c.args.event None ≡ moments waiting = ap (set (moments waiting) c.args.event)
    (sym (at-moments waiting c.args.event ∙ ap (option_map moment) none)) ∙ set-get_or (moments waiting) c.args.event None in
    rw (← c.self.view_is) (value_of-same _ _ _ _ _ _ (sym same) refl refl)

pub returns : goal.returns
returns c = let same = map-set (option_map moment) c.self.inside.waiting.items c.args.event None in
    rw (← c.self.view_is) (value_of-same _ _ _ _ _ _ same c.cancel.ensures.last c.cancel.ensures.delays)
