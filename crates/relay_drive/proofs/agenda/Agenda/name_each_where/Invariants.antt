use Rattle.std.proofs.Common.{◌≤◌, ◌-◌}
use Rattle.relay_drive.specs.Agenda.{SameBesideWants, HasBoth}
use Rattle.relay_drive.proofs.agenda.Agenda.name_each_where.Given as goal

abbrev pub invariant-loop-link : goal.invariant-loop-link
invariant-loop-link l = record {
  within : l.from ≤ l.opened;
  same : SameBesideWants l.fn.self l.self;
  to_name : HasBoth l.set l.from l.fn.self.to_name l.self.to_name;
}

abbrev pub decreases-loop-link : goal.decreases-loop-link
decreases-loop-link l = l.opened - l.from
