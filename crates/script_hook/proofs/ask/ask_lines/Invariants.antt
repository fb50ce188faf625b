use Rattle.std.proofs.Common.{take}
use Rattle.script_hook.specs.Planning.{AsksPlanned, acts_in}
use Rattle.script_hook.proofs.ask.ask_lines.Given as goal

abbrev pub invariant-loop-line : goal.invariant-loop-line
invariant-loop-line l = AsksPlanned (acts_in (take l.line-index l.lines)) l.fn.ctl l.ctl
