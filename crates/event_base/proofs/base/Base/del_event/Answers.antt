-- The event, its timer and its place change together.
use Rattle.std.proofs.Common.{◌≡◌, ◌∙◌, sym, ap, refl, slice_get, Some}
use Rattle.event_base.proofs.TiedLemmas.{AreKept-set, priority-within}
use Rattle.event_base.specs.Events.{unless_freed}
use Rattle.event_base.proofs.base.Base.del_event.Goals as goal

pub invariant_of-self : goal.invariant_of-self
invariant_of-self c =
    let is : slice_get c.self.inside.events.items c.args.event ≡ Some c.in-Some.kept = sym
    (ap (λ xs. slice_get xs c.args.event) c.deref.ensures.value) ∙ c.in-Some.ensures.there c.in-Some.kept refl in
    record {
      kept = rw (c.clear.ensures, c.rest.ensures, c.deleted.ensures)
          (AreKept-set c.self.inside.events.items c.self.inside.deadlines c.self.inside.ready c.args.event c.in-Some.kept _ _ _
          c.self.invariant.kept is refl refl (priority-within _ _ _ c.args.event _ c.self.invariant.kept is));
      early = c.self.invariant.early;
    }

pub returns-clause-ok : goal.returns-clause-ok
returns-clause-ok c =
    let is : unless_freed (slice_get c.self.inside.events.items c.args.event) ≡ Some c.in-Some.kept = sym
    (c.in-Some.ensures.live ∙ ap (λ xs. unless_freed (slice_get xs c.args.event)) c.deref.ensures.value) in
    rw (← c.self.view_is, is, c.clear.ensures, c.rest.ensures, c.deleted.ensures) refl
