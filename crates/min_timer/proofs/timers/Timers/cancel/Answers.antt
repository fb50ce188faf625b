use Rattle.std.proofs.Common.{◌≤◌, not}
use Rattle.std.proofs.lemmas.List.Elements.{All-filter}
use Rattle.min_timer.specs.Queue.{is_timer_of}
use Rattle.min_timer.proofs.timers.Timers.cancel.Goals as goal

pub invariant_of-self : goal.invariant_of-self
invariant_of-self c =
    rw c.remove.ensures.left
    (All-filter (λ t. not (is_timer_of c.args.timer t)) (λ t. t.handle.stamp ≤ c.self.inside.last) c.self.inside.heap c.self.invariant)
