use Rattle.std.proofs.Common.{◌≡◌, ◌∙◌, sym, ap, subst, All, get_or, false, true}
use Rattle.min_timer.specs.Queue.{is_timer_of, timer_of, without}
use Rattle.min_timer.proofs.OrderLemmas.{All-in_order}
use Rattle.min_timer.proofs.ViewLemmas.{found-out, left-out, none-found, all-left}
use Rattle.min_timer.proofs.heap.Heap.remove.Goals as goal

-- no timer is of the handle
none : (c : goal.After-from_residual) → All (λ x. is_timer_of c.args.handle x ≡ false) c.args.self.now
none c =
    subst (λ xs. All (λ x. is_timer_of c.args.handle x ≡ false) xs) c.self.view_is
    (All-in_order (λ x. is_timer_of c.args.handle x ≡ false) c.self.inside.timers.items
    (subst (λ xs. All (λ x. is_timer_of c.args.handle x ≡ false) xs) c.deref.ensures.value c.in_err-at.ensures.none))

pub returns-in_err-at-clause-found : goal.returns-in_err-at-clause-found
returns-in_err-at-clause-found c = c.from_residual.ensures ∙ sym (none-found c.args.handle c.args.self.now (none c))

pub returns-in_err-at-clause-left : goal.returns-in_err-at-clause-left
returns-in_err-at-clause-left c = sym (all-left c.args.handle c.args.self.now (none c))

-- the timer that is out is of the handle
is : (c : goal.After-take) → is_timer_of c.args.handle c.take.result ≡ true
is c =
    ap (is_timer_of c.args.handle) (c.take.ensures.taken c.take.result)
    ∙ subst (λ xs. is_timer_of c.args.handle (get_or xs c.in_ok-at.at c.take.result) ≡ true) c.deref.ensures.value
    (c.in_ok-at.ensures.found.1 c.take.result)

pub returns-clause-found : goal.returns-clause-found
returns-clause-found c =
    sym (found-out c.args.handle c.take.result c.self.inside.timers.items c.take.new.timers.items c.self.invariant.own_stamps (is c)
    c.take.ensures.rest)
    ∙ ap (timer_of c.args.handle) c.self.view_is

pub returns-clause-left : goal.returns-clause-left
returns-clause-left c =
    sym (left-out c.args.handle c.take.result c.self.inside.timers.items c.take.new.timers.items c.self.invariant.own_stamps (is c)
    c.take.ensures.rest)
    ∙ ap (without c.args.handle) c.self.view_is
