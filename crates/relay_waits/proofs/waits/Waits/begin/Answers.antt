use Rattle.std.proofs.Common.{◌≡◌, ◌≤◌, ◌∙◌, ◌+◌, [], length, ap, subst}
use Rattle.deferred_cb.specs.DueValue.{DueValue}
use Rattle.deferred_cb.specs.DueCalls.{all_calls}
use Rattle.relay_model.specs.Due.{batch}
use Rattle.relay_waits.specs.DueSides.{dues, left_to_call}
use Rattle.relay_waits.specs.WaitsValue.{WaitsValue}
use Rattle.relay_waits.specs.WaitsView.{waits_value}
use Rattle.relay_waits.proofs.DueLemmas.{batches-are_fired}
use Rattle.relay_waits.proofs.WaitLemmas.{due-begun, due-few, no-batch}
use Rattle.relay_waits.proofs.waits.Waits.begin.Goals as goal

pub invariant_of-self : goal.invariant_of-self
invariant_of-self c =
    let w = c.self.inside in
    let was : c.swap.new.y ≡ w.waiting = c.swap.ensures.y_after in
    due-begun w.hooked.items w.waiting w.firing c.swap.new.x c.begin.new.self c.self.invariant
    (no-batch w.firing.batch (ap (λ (v : WaitsValue). v.batch) c.self.view_is ∙ c.requires)) c.swap.ensures.x_after
    c.begin.ensures.pending (c.begin.ensures.batch ∙ ap (λ (d : DueValue). all_calls d.pending) was)
    (c.begin.ensures.spare ∙ ap (λ (d : DueValue). length d.pending + d.spare) was)

pub returns-clause-begun : goal.returns-clause-begun
returns-clause-begun c =
    let w = c.self.inside in
    let was : c.swap.new.y ≡ w.waiting = c.swap.ensures.y_after in
    let due : dues c.swap.new.x.pending ≡ [] =
    ap dues (ap (λ (d : DueValue). d.pending) c.swap.ensures.x_after ∙ c.self.invariant.none_pending) in
    let fired : left_to_call c.begin.new.self.batch ≡ batch (dues w.waiting.pending) =
    ap left_to_call (c.begin.ensures.batch ∙ ap (λ (d : DueValue). all_calls d.pending) was) ∙ batches-are_fired w.waiting.pending in
    (λ i. record (waits_value w) { due = due i; batch = fired i })
    ∙ ap (λ (v : WaitsValue). record v { due = []; batch = batch v.due }) c.self.view_is

pub returns-clause-few : goal.returns-clause-few
returns-clause-few c =
    let w = c.self.inside in
    subst (λ (v : WaitsValue). length v.due ≤ length v.hooks) c.self.view_is (due-few w.hooked.items w.waiting w.firing c.self.invariant)
