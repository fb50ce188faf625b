use Rattle.std.proofs.Common.{sym, subst}
use Rattle.std.specs.List.{All}
use Rattle.relay_drive.specs.Seats.{telling}
use Rattle.program_end.specs.Planned.{IsFresh}
use Rattle.evplay.proofs.HandedLemmas.{all-one}
use Rattle.evplay.proofs.hooks.hand_in.Goals as goal

pub returns-clause-all : goal.returns-clause-all
returns-clause-all g c =
    subst (All (IsFresh (telling (λ h. (goal.Hook-dyn g (h.vtable, h.value)).heard h.value)
    (λ h. (goal.Hook-dyn g (h.vtable, h.value)).asked h.value)
    (λ h. (goal.Hook-dyn g (h.vtable, h.value)).planned h.value)))) (sym c.in_ok-push.ensures.items)
    (all-one (IsFresh (telling (λ h. (goal.Hook-dyn g (h.vtable, h.value)).heard h.value)
    (λ h. (goal.Hook-dyn g (h.vtable, h.value)).asked h.value)
    (λ h. (goal.Hook-dyn g (h.vtable, h.value)).planned h.value))) c.args.hooks.now.items c.args.hook c.requires.all c.requires.fresh)
