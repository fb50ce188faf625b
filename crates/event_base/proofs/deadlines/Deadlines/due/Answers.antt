-- The due timers are those of the due events.
use Rattle.std.proofs.Common.{◌≡◌, ℕ, List, Vec, Result, Ok, Err, IfOk, subst, sym, Global}
use Rattle.min_timer.specs.declared.fault.TimerFault.{TimerFault}
use Rattle.event_base.proofs.DeadlineLemmas.{IsDueOrder-due_keys}
use Rattle.event_base.proofs.deadlines.Deadlines.due.Goals as goal

-- what holds of the list that a call answers holds of its answer
of_list : (P : List ℕ → Type 0) (r : Result (Vec ℕ Global) TimerFault) (keys : List ℕ) → IfOk r (λ v. v.items ≡ keys) → P keys →
    IfOk r (λ v. P v.items)
of_list P (Ok v) keys e p = subst P (sym e) p
of_list P (Err f) keys e p = e

pub returns-clause-events : goal.returns-clause-events
returns-clause-events c = rw (← c.self.view_is) (of_list _ c.due.result _ c.due.ensures.keys
    (IsDueOrder-due_keys c.args.time _ _ _ c.self.invariant))
