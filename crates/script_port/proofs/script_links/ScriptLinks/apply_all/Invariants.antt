use Rattle.std.proofs.Common.{◌≡◌, drop}
use Rattle.script_port.specs.ScriptKept.{links_after_lines}
use Rattle.script_port.proofs.script_links.ScriptLinks.apply_all.Given as goal

-- after the lines that are left it is what all lines give
abbrev pub invariant-loop-line : goal.invariant-loop-line
invariant-loop-line l = links_after_lines (drop l.line-index l.lines) l.self ≡ links_after_lines l.lines l.initial.self
