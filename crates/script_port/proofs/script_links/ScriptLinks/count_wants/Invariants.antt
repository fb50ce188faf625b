use Rattle.std.proofs.Common.{◌≡◌, drop}
use Rattle.script_port.specs.ScriptLinks.{after_wants}
use Rattle.script_port.proofs.script_links.ScriptLinks.count_wants.Given as goal

-- after the wants that are left it is what all wants give
abbrev pub invariant-loop-want : goal.invariant-loop-want
invariant-loop-want l = record {
  state : after_wants (drop l.want-index l.wants) l.self.state ≡ after_wants l.wants l.initial.self.state;
  to_open : l.self.to_open ≡ l.initial.self.to_open;
  to_come : l.self.to_come ≡ l.initial.self.to_come;
}
