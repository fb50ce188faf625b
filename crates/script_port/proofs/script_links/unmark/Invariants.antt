use Rattle.std.proofs.Common.{◌≡◌, ◌++◌, take, drop, map}
use Rattle.script_port.specs.ScriptLinks.{unmarked}
use Rattle.script_port.proofs.script_links.unmark.Given as goal

abbrev pub invariant-loop-want : goal.invariant-loop-want
invariant-loop-want l = l.wants ≡ map unmarked (take l.want-index l.initial.wants) ++ drop l.want-index l.initial.wants
