use Rattle.std.proofs.Common.{◌≡◌, ◌≤◌}
use Rattle.relay_state.specs.Counting.{open_below}
use Rattle.relay_core.proofs.relay.Relay.open_links.Given as goal

abbrev pub invariant-loop-link : goal.invariant-loop-link
invariant-loop-link l = record { count : l.count ≡ open_below l.self.state l.link; small : l.count ≤ l.link }
