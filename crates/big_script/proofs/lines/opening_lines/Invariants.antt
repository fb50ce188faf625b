use Rattle.std.proofs.Common.{◌≡◌, false, replicate}
use Rattle.ev_types.specs.declared.turn_line.TurnLine.TheVariants.{NewLink}
use Rattle.big_script.proofs.lines.opening_lines.Given as goal

-- so many links have their line
abbrev pub invariant-loop-link : goal.invariant-loop-link
invariant-loop-link l = l.lines.items ≡ replicate l._link (NewLink false)
