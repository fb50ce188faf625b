use Rattle.std.proofs.Common.{◌≡◌, ◌++◌, ◌≤◌, take, drop, map, length}
use Rattle.script_port.specs.ScriptClosing.{closing_end}
use Rattle.script_port.proofs.script_links.ScriptLinks.take_all.Given as goal

-- the ends so far take everything
abbrev pub invariant-loop-place : goal.invariant-loop-place
invariant-loop-place l = record {
  ends : l.self.state.ends ≡ map closing_end (take l.place l.initial.self.state.ends) ++ drop l.place l.initial.self.state.ends;
  rest : l.self ≡ record l.initial.self { state = record l.initial.self.state { ends = l.self.state.ends } };
  count : l.place-end ≡ length l.initial.self.state.ends;
  within : l.place ≤ l.place-end;
}
