-- Over a port whose listener never fails, a turn is refused for want of memory or for a failed poll alone.
use Rattle.std.proofs.Common.{◌≡◌, ◌≢◌, ◌++◌, ℕ, List, refl, arith, inl, inr, ◌⊎◌, subst, IfOk, IfErr}
use Rattle.ev_types.specs.Trace.{Trace}
use Rattle.ev_types.specs.declared.plan_line.PlanLine.{PlanLine}
use Rattle.ev_types.specs.declared.side.SideId.{SideId}
use Rattle.ev_port.specs.FaultCounts.{Rose}
use Rattle.ev_port.specs.Faults.{Faults}
use Rattle.relay_model.specs.Answers.{TurnAnswer}
use Rattle.relay_model.specs.Hooked.{AskPlanned, AskedAsPlanned}
use Rattle.relay_state.specs.State.{State}
use Rattle.relay_drive.specs.declared.fault.DriveFault.{DriveFault}
use Rattle.relay_drive.specs.declared.fault.DriveFault.TheVariants as fault
use Rattle.relay_drive.specs.Phases.{CutTurn, in_poll, CutPolling, is_open_fault}
use Rattle.relay_drive.specs.Advances.{Heard}
use Rattle.program_end.proofs.PlannedLemmas.{planned-cut}
use Rattle.evplay.specs.Run.{refused_by}
use Rattle.evplay.specs.declared.run.RunEnd.{RunEnd}
use Rattle.evplay.specs.declared.run.RunEnd.TheVariants as run_end

-- a count that stands at 0 did not rise
not-rose : (m n : ℕ) → m ≡ 0 → n ≡ 0 → Rose m n → ⊥
not-rose m n p q h = absurd (omega (arith, h, p, q))

pub memory-or-poll : (f : DriveFault) (s new : State) (a : Trace) (before now : Faults) → before.listener ≡ 0 → now.listener ≡ 0 →
    CutTurn f s a new → Heard before now a (is_open_fault f) → (f ≡ fault.Memory) ⊎ (f ≡ fault.PollFault)
memory-or-poll fault.Memory s new a before now p q c h = inl refl
memory-or-poll fault.PollFault s new a before now p q c h = inr refl
memory-or-poll fault.OpenFault s new a before now p q c h = absurd (not-rose before.listener now.listener p q (h.listener.fault refl))
memory-or-poll fault.Spent s new a before now p q (in_poll reading c) h = absurd (spent_case c.second)
  where
    spent_case : CutPolling fault.Spent c.middle c.back new → ⊥
    spent_case (inl x) = x
    spent_case (inr x) = x

pub not-memory : fault.PollFault ≢ fault.Memory
not-memory e = absurd (cc e)

-- what follows of a run that ended so by a refused turn
pub polled : (Q : RunEnd → Type 0) (f : DriveFault) → (f ≡ fault.PollFault → Q run_end.PollFailed) → IfOk (refused_by f) Q
polled Q fault.PollFault q = q refl
polled Q fault.Memory q = tt
polled Q fault.OpenFault q = tt
polled Q fault.Spent q = tt

pub only-memory : (f : DriveFault) → (f ≡ fault.Memory) ⊎ (f ≡ fault.PollFault) →
    IfErr (refused_by f) (λ refused. refused ≡ fault.Memory)
only-memory f (inl h) = rw h refl
only-memory f (inr h) = rw h tt

-- what hooks had told when a poll failed
pub cut-told : (plan : SideId → List PlanLine) (f : DriveFault) (t a : Trace) (s new : State) → f ≡ fault.PollFault → CutTurn f s a new →
    AskedAsPlanned plan t → AskPlanned plan TurnAnswer.PollFault (t ++ a)
cut-told plan f t a s new is cut asked =
    planned-cut plan fault.PollFault t a s new not-memory (subst (λ z. CutTurn z s a new) is cut) asked
