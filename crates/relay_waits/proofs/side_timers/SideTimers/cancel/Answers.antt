use Rattle.std.proofs.Common.{◌≡◌, ◌∙◌, sym, ap, nat_eq, Some, None}
use Rattle.std.specs.Map.{lookup}
use Rattle.ev_types.specs.Sides.{number}
use Rattle.min_timer.specs.Queue.{without}
use Rattle.relay_model.specs.Plain.{without_timer}
use Rattle.relay_waits.specs.TimerSides.{timers_of}
use Rattle.relay_waits.proofs.KeptLemmas.{kept-as, kept-cancelled, cancelled-side, none-cancelled}
use Rattle.relay_waits.proofs.side_timers.SideTimers.cancel.Goals as goal

pub invariant_of-self : goal.invariant_of-self
invariant_of-self c =
    let t = c.self.inside in
    kept-as t.timers.last c.cancel.new.self.last (without c.in-Some.handle t.timers.pending) c.cancel.new.self.pending
    c.swap_remove.new.self.entries c.cancel.ensures.left c.cancel.ensures.last
    (kept-cancelled c.number_of-number.result t.timers.last c.in-Some.handle t.timers.pending t.handles.entries
    c.swap_remove.new.self.entries c.self.invariant (sym c.swap_remove.ensures.value ∙ c.in-Some.is) c.swap_remove.ensures.updates.0)

pub returns-in-Some : goal.returns-in-Some
returns-in-Some c =
    let t = c.self.inside in
    let is : lookup (nat_eq (number c.args.side)) t.handles.entries ≡ Some c.in-Some.handle =
    ap (λ n. lookup (nat_eq n) t.handles.entries) (sym c.number_of-number.ensures.number)
    ∙ sym c.swap_remove.ensures.value ∙ c.in-Some.is in
    ap timers_of c.cancel.ensures.left
    ∙ cancelled-side c.args.side t.timers.last c.in-Some.handle t.timers.pending t.handles.entries c.self.invariant is
    ∙ ap (without_timer c.args.side) c.self.view_is

pub returns-in_default : goal.returns-in_default
returns-in_default c =
    let t = c.self.inside in
    let none : lookup (nat_eq (number c.args.side)) t.handles.entries ≡ None =
    ap (λ n. lookup (nat_eq n) t.handles.entries) (sym c.number_of-number.ensures.number)
    ∙ sym c.swap_remove.ensures.value ∙ c.in_default.is in
    none-cancelled c.args.side t.timers.pending t.handles.entries c.self.invariant.each none
    ∙ ap (without_timer c.args.side) c.self.view_is
