-- The keys are those of all entries, which are all that are due, sorted.
use Rattle.std.proofs.Common.{◌∙◌, ap, map}
use Rattle.std.proofs.lemmas.List.{take_all}
use Rattle.min_timer.proofs.DueLemmas.{sorted-keys}
use Rattle.min_timer.proofs.due.due_keys.Goals as goal

pub returns : goal.returns
returns c =
    c.loop-timer.invariant
    ∙ ap (map (λ e. e.key)) (take_all c.loop-timer.timer-index c.deref-timer-items.result.now c.loop-timer-test.false
    ∙ c.deref-timer-items.ensures.value)
    ∙ sorted-keys c.args.timers.now c.args.time c.in_ok-due.due.items c.sort_unstable.new.self.items c.requires.own_stamps
    c.in_ok-due.ensures c.sort_unstable.ensures.permutation c.sort_unstable.ensures.sorted
