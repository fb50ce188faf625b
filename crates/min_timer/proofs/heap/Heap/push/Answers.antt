use Rattle.std.proofs.Common.{◌∙◌, ◌<◌, sym, ap, subst, All, ◌∷◌, IsPermutation}
use Rattle.min_timer.specs.Queue.{with_timer}
use Rattle.min_timer.specs.declared.timer.Timer.{Timer}
use Rattle.min_timer.proofs.OrderLemmas.{All-from_in_order}
use Rattle.min_timer.proofs.ViewLemmas.{in_order-pushed}
use Rattle.min_timer.proofs.heap.Heap.push.Goals as goal

-- the new timer
abbrev new_timer : goal.After-push → Timer
new_timer c = record { deadline = c.args.deadline; key = c.args.key; handle = c.push.result }

pub push-requires-clause-newest : goal.push-requires-clause-newest
push-requires-clause-newest c =
    rw c.in_ok-reserve-2.ensures.items
    (All-from_in_order (λ t. t.handle.stamp < c.args.stamp) c.self.inside.timers.items
    (subst (λ xs. All (λ t. t.handle.stamp < c.args.stamp) xs) (sym c.self.view_is) c.requires.newest))

pub returns-clause-added : goal.returns-clause-added
returns-clause-added c =
    let xs = c.self.inside.timers.items in
    let older : All (λ t. t.handle.stamp < c.push.result.stamp) xs =
    subst (λ stamp. All (λ t. t.handle.stamp < stamp) xs) (sym c.push.ensures.stamped)
    (All-from_in_order (λ t. t.handle.stamp < c.args.stamp) xs
    (subst (λ ys. All (λ t. t.handle.stamp < c.args.stamp) ys) (sym c.self.view_is) c.requires.newest)) in
    in_order-pushed (new_timer c) xs c.push.new.timers.items older c.self.invariant.own_stamps
    (subst (λ ys. IsPermutation (new_timer c ∷ ys) c.push.new.timers.items) c.in_ok-reserve-2.ensures.items c.push.ensures.pushed)
    ∙ ap (with_timer (new_timer c)) c.self.view_is
