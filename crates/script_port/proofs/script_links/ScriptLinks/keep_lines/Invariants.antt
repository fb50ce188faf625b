use Rattle.std.proofs.Common.{◌≡◌, map}
use Rattle.script_port.specs.KeptLines.{kept_line}
use Rattle.script_port.specs.ScriptKept.{with_all_bytes}
use Rattle.script_port.proofs.script_links.ScriptLinks.keep_lines.Given as goal

-- of the lines so far the bytes are to come, and the rest is kept
abbrev pub invariant-loop-line : goal.invariant-loop-line
invariant-loop-line l = record {
  kept : l.kept.items ≡ map kept_line l.yielded;
  state : l.self.state ≡ l.initial.self.state;
  to_open : l.self.to_open ≡ l.initial.self.to_open;
  to_come : l.self.to_come ≡ with_all_bytes l.yielded l.initial.self.to_come;
}
