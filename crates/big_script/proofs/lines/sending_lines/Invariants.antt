use Rattle.std.proofs.Common.{◌≡◌, ◌-◌, ◌<◌, ◌^◌, ◌++◌}
use Rattle.big_script.specs.BigScript.{lines_from}
use Rattle.big_script.proofs.lines.sending_lines.Given as goal

-- behind the lines so far stand those of the links that are left
abbrev pub invariant-loop-link : goal.invariant-loop-link
invariant-loop-link l = record {
  lines : l.lines.items ++ lines_from l.each (l.links - l.link) l.link l.x ≡ lines_from l.each l.links 0 l.links;
  small : l.x < 2 ^ 32;
}
