use Rattle.std.proofs.Common.{◌≡◌, ◌≤◌, ◌-◌}
use Rattle.relay_drive.specs.Agenda.{HasBoth}
use Rattle.relay_drive.proofs.agenda.Agenda.touch_each.Given as goal

abbrev pub invariant-loop-link : goal.invariant-loop-link
invariant-loop-link l = record {
  within : l.from ≤ l.opened;
  pass_len : l.self.to_pass.len ≡ l.fn.self.to_pass.len;
  close_len : l.self.to_close.len ≡ l.fn.self.to_close.len;
  want_len : l.self.to_name.len ≡ l.fn.self.to_name.len;
  live_len : l.self.maybe_open.len ≡ l.fn.self.maybe_open.len;
  to_pass : HasBoth l.set l.from l.fn.self.to_pass l.self.to_pass;
  to_close : HasBoth l.set l.from l.fn.self.to_close l.self.to_close;
  to_name : HasBoth l.set l.from l.fn.self.to_name l.self.to_name;
  maybe_open : HasBoth l.set l.from l.fn.self.maybe_open l.self.maybe_open;
}

abbrev pub decreases-loop-link : goal.decreases-loop-link
decreases-loop-link l = l.opened - l.from
