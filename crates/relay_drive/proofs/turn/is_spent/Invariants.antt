use Rattle.std.proofs.Common.{◌≡◌, ℕ, ◌-◌, ◌<◌, ◌≤◌, false}
use Rattle.relay_drive.specs.Links.{has_spent_count}
use Rattle.relay_drive.proofs.turn.is_spent.Given as goal

abbrev pub invariant-loop-link : goal.invariant-loop-link
invariant-loop-link l = record {
  few : (k : ℕ) → k < l.from → has_spent_count l.relay.state k ≡ false;
  within : l.from ≤ l.relay.state.plain.opened;
}

abbrev pub decreases-loop-link : goal.decreases-loop-link
decreases-loop-link l = l.relay.state.plain.opened - l.from
