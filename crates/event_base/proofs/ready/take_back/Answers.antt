-- One event less was appended.
use Rattle.std.proofs.Common.{◌≡◌, ◌+◌, ◌-◌, ◌<◌, ◌∙◌, ℕ, length, take, get_or, ap, sym, arith}
use Rattle.prio_queue.specs.Queues.{without_last}
use Rattle.event_base.specs.declared.ready.Waking.{Waking}
use Rattle.event_base.specs.Ready.{appended_all}
use Rattle.event_base.proofs.ReadyLemmas.{appended_all-less}
use Rattle.event_base.proofs.ready.take_back.Goals as goal

pub loop-left-preserved : goal.loop-left-preserved
loop-left-preserved c = (
  omega arith,
  λ queues can e.
      let waking = c.args.waking.now in
      let i = c.loop-left.left - 1 in
      let none : Waking = record { event = 0; priority = 0 } in
      let count : c.loop-left.left ≡ i + 1 = omega arith in
      c.pop_last.ensures.left
      ∙ ap (λ qs. without_last qs (get_or waking i none).priority) (c.loop-left.invariant.1 queues can e ∙ ap
      (λ n. appended_all queues (take n waking)) count)
      ∙ appended_all-less queues waking i none can (omega arith),
)
