use Rattle.std.proofs.Common.{◌≡◌, ◌<◌, ◌≤◌, ◌-◌, false}
use Rattle.ev_types.specs.declared.side.SideId.{SideId}
use Rattle.relay_model.specs.Moments.{earliest}
use Rattle.relay_model.specs.Plain.{sides_from, all_sides}
use Rattle.relay_core.specs.Waits.{earlier, gain_of, gains}
use Rattle.relay_core.proofs.relay.Relay.first_gain.Given as goal

abbrev pub invariant-loop-link : goal.invariant-loop-link
invariant-loop-link l = record {
  within : l.from ≤ l.self.state.plain.opened;
  low : (e : SideId) → e.link < l.self.state.plain.opened → l.self.watched.has e.link ≡ false →
      earlier l.first (earliest (gain_of l.self.state e)) ≡ l.first;
  rest : earlier l.first (earliest (gains l.self.state (sides_from l.from (l.self.state.plain.opened - l.from))))
      ≡ earliest (gains l.self.state (all_sides l.self.state.plain));
}

abbrev pub decreases-loop-link : goal.decreases-loop-link
decreases-loop-link l = l.self.state.plain.opened - l.from
