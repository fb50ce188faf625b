use Rattle.std.proofs.Common.{◌≡◌, ◌≤◌}
use Rattle.relay_drive.proofs.poll.lengthen.Given as goal

abbrev pub invariant-loop : goal.invariant-loop
invariant-loop l = record {
  links : l.wants.links ≡ l.counter;
  least : l.fn.wants.links ≤ l.wants.links;
  reads : l.wants.reads ≡ l.fn.wants.reads;
  writes : l.wants.writes ≡ l.fn.wants.writes;
}
