use Rattle.std.proofs.Common.{◌≡◌, drop}
use Rattle.script_port.specs.ScriptLinks.{links_of}
use Rattle.script_port.specs.ScriptKept.{with_links}
use Rattle.script_port.proofs.script_links.ScriptLinks.add_links.Given as goal

-- with the links of the lines that are left it is what all lines give
abbrev pub invariant-loop-line : goal.invariant-loop-line
invariant-loop-line l = with_links (links_of (drop l.line-index l.lines)) l.self ≡ with_links (links_of l.lines) l.initial.self
