use Rattle.std.proofs.Common.{◌≡◌, ◌++◌, drop}
use Rattle.script_text.specs.Lines.{BeginsWith}
use Rattle.script_text.specs.ReportText.{link_lines}
use Rattle.script_text.proofs.write.write_report.Given as goal

abbrev pub invariant-loop-number : goal.invariant-loop-number
invariant-loop-number l = record {
  -- what is written and what is left to write are the lines of all links
  text : l.into.items ++ link_lines l.number (drop l.number l.links) ≡ l.fn.into.items ++ link_lines 0 l.links;
  kept : BeginsWith l.fn.into.items l.into.items;
}
