use Rattle.std.proofs.Common.{◌≡◌, ℕ, ◌-◌, ◌<◌, ◌≤◌, false}
use Rattle.relay_state.specs.Counting.{is_open}
use Rattle.relay_drive.proofs.drive.Drive.has_open_links.Given as goal

abbrev pub invariant-loop-link : goal.invariant-loop-link
invariant-loop-link l = record {
  none : (k : ℕ) → k < l.from → is_open l.self.state k ≡ false;
  within : l.from ≤ l.self.state.plain.opened;
}

abbrev pub decreases-loop-link : goal.decreases-loop-link
decreases-loop-link l = l.self.state.plain.opened - l.from
