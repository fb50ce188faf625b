use Rattle.std.proofs.Common.{◌≤◌, arith}
use Rattle.std.proofs.lemmas.List.Elements.{All-weaker}
use Rattle.min_timer.proofs.OrderLemmas.{All-with_timer}
use Rattle.min_timer.proofs.timers.Timers.add.Goals as goal

pub invariant_of-self-2 : goal.invariant_of-self-2
invariant_of-self-2 c =
    rw c.in_ok-timer.ensures.added
    (All-with_timer (λ t. t.handle.stamp ≤ c.in_ok-stamp.stamp)
    (record { deadline = c.args.deadline; key = c.args.key; handle = c.in_ok-timer.timer }) c.self.inside.heap (grind arith)
    (All-weaker (λ t. t.handle.stamp ≤ c.self.inside.last) (λ t. t.handle.stamp ≤ c.in_ok-stamp.stamp) (λ t h. grind arith)
    c.self.inside.heap c.self.invariant))
