use Rattle.std.proofs.Common.{◌≡◌, ◌∙◌, false, sym, ap, slice_index_or}
use Rattle.std.specs.List.{list_any}
use Rattle.ev_types.specs.Sides.{number, same_end}
use Rattle.deferred_cb.specs.DueCalls as by_number
use Rattle.relay_model.specs.Due.{without_due, without_reasons}
use Rattle.relay_model.specs.Plain.{without_timer}
use Rattle.relay_waits.specs.DueSides.{dues, left_to_call}
use Rattle.relay_waits.specs.WaitsValue.{WaitsValue}
use Rattle.relay_waits.specs.WaitsView.{waits_value}
use Rattle.relay_waits.proofs.DueLemmas.{sides-are_forgotten}
use Rattle.relay_waits.proofs.HookLemmas.{hook-by_number}
use Rattle.relay_waits.proofs.WaitLemmas.{due-forgot, none-due_without, no_reason-without}
use Rattle.relay_waits.proofs.waits.Waits.forget.Goals as goal

pub returns-then-not-hooked : goal.returns-then-not-hooked
returns-then-not-hooked c =
    let w = c.self.inside in
    let none : slice_index_or w.hooked.items (number c.args.side) false ≡ false =
    sym (hook-by_number w.hooked.items c.args.side) ∙ ap (λ (v : WaitsValue). list_any (λ x. same_end x c.args.side) v.hooks) c.self.view_is
    ∙ sym c.has_hook-hooked.ensures ∙ c.if-not-hooked.true in
    let e = c.args.side in
    let due = none-due_without w.hooked.items e w.waiting.pending none c.self.invariant.entries in
    let calls = no_reason-without w.hooked.items e w.firing.batch none c.self.invariant.calls in
    (λ i. record (waits_value w) { due = due i; batch = calls i; timers = c.cancel.ensures i })
    ∙ ap (λ (v : WaitsValue). record v { due = without_due e v.due; batch = without_reasons e v.batch; timers = without_timer e v.timers })
    c.self.view_is

pub invariant_of-self-2 : goal.invariant_of-self-2
invariant_of-self-2 c =
    let w = c.self.inside in
    due-forgot w.hooked.items w.waiting c.forget.new.self w.firing c.forget-2.new.self c.number_of-number.result c.self.invariant
    c.forget.ensures.pending c.forget.ensures.batch c.forget.ensures.spare
    c.forget-2.ensures.pending c.forget-2.ensures.batch c.forget-2.ensures.spare

pub returns : goal.returns
returns c =
    let w = c.self.inside in
    let e = c.args.side in
    let n = c.number_of-number.ensures.number in
    let gone = sides-are_forgotten e w.waiting.pending w.firing.batch in
    let due : dues c.forget.new.self.pending ≡ without_due e (dues w.waiting.pending) =
    ap dues c.forget.ensures.pending ∙ ap (λ n. dues (by_number.without n w.waiting.pending)) n ∙ gone.0 in
    let calls : left_to_call c.forget-2.new.self.batch ≡ without_reasons e (left_to_call w.firing.batch) =
    ap left_to_call c.forget-2.ensures.batch ∙ ap (λ n. left_to_call (by_number.without_calls n w.firing.batch)) n ∙ gone.1 in
    (λ i. record (waits_value w) { due = due i; batch = calls i; timers = c.cancel.ensures i })
    ∙ ap (λ (v : WaitsValue). record v { due = without_due e v.due; batch = without_reasons e v.batch; timers = without_timer e v.timers })
    c.self.view_is
