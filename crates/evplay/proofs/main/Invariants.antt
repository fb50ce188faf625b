use Rattle.std.specs.List.{All}
use Rattle.relay_drive.specs.Seats.{telling}
use Rattle.program_end.specs.Planned.{IsFresh}
use Rattle.evplay.proofs.main.OwnLists.{own-1}
use Rattle.evplay.proofs.main.Given as goal

abbrev pub invariant-loop : goal.invariant-loop
invariant-loop l = All (IsFresh
    (telling (λ h. (own-1.entry h.vtable).1.heard h.value) (λ h. (own-1.entry h.vtable).1.asked h.value)
    (λ h. (own-1.entry h.vtable).1.planned h.value))) l.hooks.items
