use Rattle.relay_drive.specs.Seats.{telling}
use Rattle.evplay.specs.HandedIn.{handed_in}
use Rattle.evplay.proofs.outcome.outcome_of.Goals as goal

pub returns-in-Buffers-clause-comes_to : goal.returns-in-Buffers-clause-comes_to
returns-in-Buffers-clause-comes_to g c = rw (c.in-Buffers.is)
    (c.buffers.ensures.comes_to (handed_in
    (telling (λ h. (goal.Hook-dyn g (h.vtable, h.value)).heard h.value) (λ h. (goal.Hook-dyn g (h.vtable, h.value)).asked h.value)
    (λ h. (goal.Hook-dyn g (h.vtable, h.value)).planned h.value)) c.args.hooks.items))

pub returns-in-Base-clause-comes_to : goal.returns-in-Base-clause-comes_to
returns-in-Base-clause-comes_to g c = rw (c.in-Base.is)
    (c.base.ensures.comes_to (handed_in
    (telling (λ h. (goal.Hook-dyn g (h.vtable, h.value)).heard h.value) (λ h. (goal.Hook-dyn g (h.vtable, h.value)).asked h.value)
    (λ h. (goal.Hook-dyn g (h.vtable, h.value)).planned h.value)) c.args.hooks.items))

pub returns-in-Pairs-clause-comes_to : goal.returns-in-Pairs-clause-comes_to
returns-in-Pairs-clause-comes_to g c = rw (c.in-Pairs.is)
    (c.pairs.ensures.comes_to (handed_in
    (telling (λ h. (goal.Hook-dyn g (h.vtable, h.value)).heard h.value) (λ h. (goal.Hook-dyn g (h.vtable, h.value)).asked h.value)
    (λ h. (goal.Hook-dyn g (h.vtable, h.value)).planned h.value)) c.args.hooks.items))

pub returns-in-Big-clause-comes_to : goal.returns-in-Big-clause-comes_to
returns-in-Big-clause-comes_to g c = rw (c.in-Big.is)
    (c.generated.ensures.comes_to (handed_in
    (telling (λ h. (goal.Hook-dyn g (h.vtable, h.value)).heard h.value) (λ h. (goal.Hook-dyn g (h.vtable, h.value)).asked h.value)
    (λ h. (goal.Hook-dyn g (h.vtable, h.value)).planned h.value)) c.args.hooks.items) c.args.text.now)

pub returns-in-Big-clause-refused : goal.returns-in-Big-clause-refused
returns-in-Big-clause-refused g c = rw (c.in-Big.is) (c.generated.ensures.refused c.args.text.now)
