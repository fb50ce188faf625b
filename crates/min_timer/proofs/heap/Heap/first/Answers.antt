use Rattle.std.proofs.Common.{◌∙◌, sym, ap, slice_get}
use Rattle.min_timer.proofs.ViewLemmas.{first-in_order}
use Rattle.min_timer.proofs.heap.Heap.first.Goals as goal

pub returns : goal.returns
returns c =
    c.copied.ensures ∙ c.first.ensures.value ∙ ap (λ xs. slice_get xs 0) c.deref.ensures.value
    ∙ sym (first-in_order c.self.inside.timers.items c.self.invariant.heap c.self.invariant.own_stamps)
    ∙ ap (λ xs. slice_get xs 0) c.self.view_is
