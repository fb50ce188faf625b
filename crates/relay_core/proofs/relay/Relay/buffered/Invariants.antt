use Rattle.std.proofs.Common.{◌≡◌, ◌-◌, ◌^◌, min}
use Rattle.relay_state.specs.Counting.{buffered_below}
use Rattle.relay_core.proofs.relay.Relay.buffered.Given as goal

abbrev pub invariant-loop-link : goal.invariant-loop-link
invariant-loop-link l = l.total ≡ min (buffered_below l.self.state l.link) (2 ^ 64 - 1)
