use Rattle.std.proofs.Common.{◌≡◌, ◌≤◌, ◌-◌, fold}
use Rattle.relay_model.specs.Plain.{sides_from, all_sides}
use Rattle.relay_state.specs.Time.{side_timed}
use Rattle.relay_core.specs.Timeless.{HasAllOf}
use Rattle.relay_core.proofs.relay.Relay.look_at_sides.Given as goal

abbrev pub invariant-loop-link : goal.invariant-loop-link
invariant-loop-link l = record {
  opened : l.self.state.plain.opened ≡ l.fn.self.state.plain.opened;
  untimed : l.self.untimed ≡ l.fn.self.untimed;
  watched : HasAllOf l.fn.self.watched l.self.watched;
  within : l.from ≤ l.fn.self.state.plain.opened;
  rest : fold side_timed l.self.state (sides_from l.from (l.fn.self.state.plain.opened - l.from))
      ≡ fold side_timed l.fn.self.state (all_sides l.fn.self.state.plain);
}

abbrev pub decreases-loop-link : goal.decreases-loop-link
decreases-loop-link l = l.fn.self.state.plain.opened - l.from
