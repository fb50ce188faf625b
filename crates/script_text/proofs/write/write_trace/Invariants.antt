use Rattle.std.proofs.Common.{◌≡◌, ◌++◌, length, drop, sum_by}
use Rattle.ev_types.specs.Trace.{bytes_beside, paired}
use Rattle.script_text.specs.Lines.{BeginsWith}
use Rattle.script_text.specs.TraceText.{trace_text}
use Rattle.script_text.proofs.write.write_trace.Given as goal

abbrev pub invariant-loop-entry : goal.invariant-loop-entry
invariant-loop-entry l = record {
  beside : sum_by bytes_beside (drop l.entry-index l.entries) ≡ length l.rest;
  -- what is written and what is left to write are the whole text
  text : l.into.items ++ trace_text (paired (drop l.entry-index l.entries) l.rest) ≡ l.fn.into.items ++ trace_text l.fn.tape.trace;
  kept : BeginsWith l.fn.into.items l.into.items;
}
