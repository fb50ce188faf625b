use Rattle.std.proofs.Common.{◌≡◌}
use Rattle.relay_drive.proofs.TouchLemmas.{LeavesRest}
use Rattle.relay_drive.proofs.touch.touch_asked.Given as goal

abbrev pub invariant-loop-entry : goal.invariant-loop-entry
invariant-loop-entry l = record {
  pass_len : l.agenda.to_pass.len ≡ l.fn.agenda.to_pass.len;
  close_len : l.agenda.to_close.len ≡ l.fn.agenda.to_close.len;
  want_len : l.agenda.to_name.len ≡ l.fn.agenda.to_name.len;
  live_len : l.agenda.maybe_open.len ≡ l.fn.agenda.maybe_open.len;
  to_pass : LeavesRest l.log l.entry-index l.opened l.fn.agenda.to_pass l.agenda.to_pass;
  to_close : LeavesRest l.log l.entry-index l.opened l.fn.agenda.to_close l.agenda.to_close;
  to_name : LeavesRest l.log l.entry-index l.opened l.fn.agenda.to_name l.agenda.to_name;
  maybe_open : LeavesRest l.log l.entry-index l.opened l.fn.agenda.maybe_open l.agenda.maybe_open;
}
