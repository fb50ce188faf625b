use Rattle.std.proofs.Common.{◌≡◌, ◌≤◌, ◌-◌}
use Rattle.relay_core.specs.Timeless.{AreForgotten}
use Rattle.relay_core.proofs.relay.Relay.forget_timeless.Given as goal

abbrev pub invariant-loop-link : goal.invariant-loop-link
invariant-loop-link l = record {
  same : l.self
      ≡ record l.fn.self { watched = l.self.watched };
  forgotten : AreForgotten l.fn.self.state l.from l.fn.self.watched l.self.watched;
  within : l.from ≤ l.fn.self.state.plain.opened;
}

abbrev pub decreases-loop-link : goal.decreases-loop-link
decreases-loop-link l = l.fn.self.state.plain.opened - l.from
