use Rattle.std.proofs.Common.{◌≡◌}
use Rattle.relay_laws.specs.Report.{lines_below}
use Rattle.program_end.proofs.report.link_lines.Given as goal

abbrev pub invariant-loop-link : goal.invariant-loop-link
invariant-loop-link l = l.lines.items ≡ lines_below l.drive.state l.link
