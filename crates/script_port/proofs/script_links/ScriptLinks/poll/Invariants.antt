use Rattle.std.proofs.Common.{◌≡◌, ◌++◌, take, drop, map}
use Rattle.ev_port.specs.declared.port.Want.{Want}
use Rattle.script_port.specs.ScriptLinks.{marked, after_wants}
use Rattle.script_port.proofs.script_links.ScriptLinks.poll.Given as goal

-- the wants so far have their marks, and after those that are left it is what all wants give
abbrev pub invariant-loop-want : goal.invariant-loop-want
invariant-loop-want l = record {
  marks : l.wants ≡ map (λ w. marked l.initial.self.state w) (take l.want-index l.initial.wants) ++ drop l.want-index l.initial.wants;
  alike : (w : Want) → marked l.self.state w ≡ marked l.initial.self.state w;
  state : after_wants (map (λ w. marked l.initial.self.state w) (drop l.want-index l.initial.wants)) l.self.state
      ≡ after_wants (map (λ w. marked l.initial.self.state w) l.initial.wants) l.initial.self.state;
  to_open : l.self.to_open ≡ l.initial.self.to_open;
  to_come : l.self.to_come ≡ l.initial.self.to_come;
}
