use Rattle.relay_drive.specs.Seats.{telling}
use Rattle.evplay.proofs.HandedLemmas.{SlotsSoFar}
use Rattle.evplay.proofs.hooks.attach.Given as goal

abbrev pub invariant-loop-hook : goal.invariant-loop-hook
invariant-loop-hook g l = SlotsSoFar l.slots.items
    (telling (λ h. (goal.Hook-dyn g (h.vtable, h.value)).heard h.value) (λ h. (goal.Hook-dyn g (h.vtable, h.value)).asked h.value)
    (λ h. (goal.Hook-dyn g (h.vtable, h.value)).planned h.value))
    l.plans l.fn.hooks.items l.hook-iterator.rest.items
