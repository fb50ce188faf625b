use Rattle.std.proofs.Common.{◌≡◌}
use Rattle.relay_core.proofs.TimerLemmas.{with_taken, left_due}
use Rattle.relay_core.proofs.relay.Relay.take_timers.Given as goal

abbrev pub invariant-loop-side : goal.invariant-loop-side
invariant-loop-side l = record {
  rest : with_taken l.self-inside.ctl.state ≡ with_taken l.fn.self.state;
  untimed : l.self-inside.ctl.untimed ≡ l.fn.self.untimed;
  watched : l.self-inside.ctl.watched ≡ l.fn.self.watched;
}

abbrev pub decreases-loop-side : goal.decreases-loop-side
decreases-loop-side l = left_due l.self-inside.ctl.state
