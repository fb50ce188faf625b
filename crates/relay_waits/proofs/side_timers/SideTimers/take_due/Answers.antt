use Rattle.std.proofs.Common.{◌≡◌, ◌∙◌, [], sym, ap, subst, IfNone}
use Rattle.min_timer.specs.Queue.{after_due}
use Rattle.relay_waits.specs.WaitsValue.{due_by, due_after}
use Rattle.relay_waits.proofs.KeptLemmas.{kept-as, kept-taken, none-first}
use Rattle.relay_waits.proofs.side_timers.SideTimers.take_due.Goals as goal

pub returns-in_err-number-clause-none_due : goal.returns-in_err-number-clause-none_due
returns-in_err-number-clause-none_due c =
    let t = c.self.inside in
    let none = none-first c.args.now t.timers.pending c.self.invariant.rise (sym c.in_err-number.ensures.first) in
    subst (λ r. IfNone r (due_by c.args.now c.args.self.now ≡ [])) (sym c.from_residual.ensures)
    (sym (ap (due_by c.args.now) c.self.view_is) ∙ none.0)

pub returns-in_err-number-clause-all_later : goal.returns-in_err-number-clause-all_later
returns-in_err-number-clause-all_later c =
    let t = c.self.inside in
    let none = none-first c.args.now t.timers.pending c.self.invariant.rise (sym c.in_err-number.ensures.first) in
    subst (λ r. IfNone r (c.args.self.now ≡ due_after c.args.now c.args.self.now)) (sym c.from_residual.ensures)
    (sym c.self.view_is ∙ none.1 ∙ ap (due_after c.args.now) c.self.view_is)

pub invariant_of-self-2 : goal.invariant_of-self-2
invariant_of-self-2 c =
    let t = c.self.inside in
    let b = c.in_ok-number.ensures in
    kept-as t.timers.last c.take_due.new.self.last (after_due c.args.now t.timers.pending) c.take_due.new.self.pending
    c.swap_remove.new.self.entries b.left b.last
    (kept-taken c.args.now c.in_ok-number.number c.in_ok-number.field-0-1 t.timers.last t.timers.pending t.handles.entries
    c.swap_remove.new.self.entries c.self.invariant (sym b.first) c.swap_remove.ensures.updates.0)
