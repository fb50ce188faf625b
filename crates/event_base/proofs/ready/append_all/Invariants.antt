-- The first events were appended.
use Rattle.std.proofs.Common.{◌≡◌, take}
use Rattle.event_base.specs.Ready.{appended_all}
use Rattle.event_base.proofs.ready.append_all.Given as goal

abbrev pub invariant-loop-at : goal.invariant-loop-at
invariant-loop-at l = l.active ≡ appended_all l.initial.active (take l.at l.waking)
