use Rattle.std.proofs.Common.{◌≡◌, ◌+◌, ◌-◌, ◌≤◌, length, take}
use Rattle.indexmap.specs.IndexMap.{spare}
use Rattle.deferred_cb.specs.DueCalls.{without}
use Rattle.deferred_cb.proofs.due.put_others.Given as goal

abbrev pub invariant-loop-at : goal.invariant-loop-at
invariant-loop-at l = record {
  entries : l.others.entries ≡ without l.owner (take l.at l.entries.items);
  room : length l.entries.items - l.at ≤ spare l.others;
  kept : spare l.initial.others ≤ length l.others.entries + spare l.others;
}
