use Rattle.std.proofs.Common.{◌≡◌, ◌≤◌, ◌-◌}
use Rattle.std.specs.List.{list_any}
use Rattle.relay_model.specs.Plain.{sides_from, all_sides}
use Rattle.relay_core.specs.Waits.{is_expired}
use Rattle.relay_core.proofs.relay.Relay.any_is_expired.Given as goal

abbrev pub invariant-loop-link : goal.invariant-loop-link
invariant-loop-link l = record {
  within : l.from ≤ l.self.state.plain.opened;
  rest : list_any (is_expired l.self.state) (sides_from l.from (l.self.state.plain.opened - l.from))
      ≡ list_any (is_expired l.self.state) (all_sides l.self.state.plain);
}

abbrev pub decreases-loop-link : goal.decreases-loop-link
decreases-loop-link l = l.self.state.plain.opened - l.from
