-- The places of the events that are left are still to be given.
use Rattle.std.proofs.Common.{◌≡◌, ◌+◌, length, drop}
use Rattle.event_base.specs.Ready.{CanWake, woken}
use Rattle.event_base.proofs.ready.Ready.wake_all.Given as goal

abbrev pub invariant-loop-w : goal.invariant-loop-w
invariant-loop-w l = record {
  places : woken l.self-inside.places.items l.self-inside.next (drop l.w-index l.waking) ≡ woken l.initial.self-inside.places.items
      l.initial.self-inside.next l.waking;
  can : CanWake (length l.self-inside.active) l.self-inside.places.items l.self-inside.next (drop l.w-index l.waking);
  next : l.self-inside.next ≡ l.initial.self-inside.next + l.w-index;
  active : l.self-inside.active ≡ l.initial.self-inside.active;
}
