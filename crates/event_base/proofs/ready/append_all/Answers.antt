-- Each event can be appended as its turn comes, and all are taken back where one can't.
use Rattle.std.proofs.Common.{◌≡◌, ◌+◌, ◌-◌, ◌<◌, ◌∙◌, ℕ, length, take, get_or, Err, ap, sym, refl, arith}
use Rattle.prio_queue.specs.declared.fault.PrioFault.{PrioFault}
use Rattle.prio_queue.specs.declared.fault.PrioFault.TheVariants.{Memory, BadPriority}
use Rattle.prio_queue.specs.Queues.{appended}
use Rattle.event_base.specs.declared.ready.Waking.{Waking}
use Rattle.event_base.specs.Ready.{appended_all}
use Rattle.event_base.proofs.ReadyLemmas.{CanAppend-at, CanAppend-take, appended_all-more, length-appended_all}
use Rattle.event_base.proofs.ready.append_all.Goals as goal

none : Waking
none = record { event = 0; priority = 0 }

only_memory : (fault : PrioFault) → (fault ≡ BadPriority → ⊥) → fault ≡ Memory
only_memory Memory h = refl
only_memory BadPriority h = absurd (h refl)

pub append-requires : goal.append-requires
append-requires c = rw c.loop-at.invariant (CanAppend-at c.args.active.now c.args.waking.now c.loop-at.at _ c.requires (omega arith)).0

pub returns-in-Err-clause-refused : goal.returns-in-Err-clause-refused
unfolding none
returns-in-Err-clause-refused c =
    let there = (CanAppend-at c.args.active.now c.args.waking.now c.loop-at.at none c.requires (omega arith)).1 in
    let count : length c.loop-at.active ≡ length c.args.active.now = ap length c.loop-at.invariant ∙ length-appended_all
    c.args.active.now (take c.loop-at.at c.args.waking.now) in (
      only_memory c.in-Err.fault (λ e. absurd (omega (arith, c.in-Err.ensures.bad.0 (ap Err e)))),
      c.take_back.ensures c.args.active.now (CanAppend-take _ _ c.loop-at.at c.requires) (c.in-Err.ensures.err ∙ c.loop-at.invariant),
    )

pub loop-at-preserved : goal.loop-at-preserved
unfolding none
loop-at-preserved c =
    let w = get_or c.args.waking.now c.loop-at.at none in
    c.in_default.ensures.ok
    ∙ ap (λ qs. appended qs w.priority w.event) c.loop-at.invariant
    ∙ sym (appended_all-more c.args.active.now c.args.waking.now c.loop-at.at none (omega arith))
