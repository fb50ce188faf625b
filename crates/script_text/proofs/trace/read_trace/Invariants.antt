use Rattle.std.proofs.Common.{◌≡◌, ◌+◌, ◌≤◌, length}
use Rattle.script_text.specs.Pieces.{lines}
use Rattle.script_text.specs.TraceSpelled.{trace_lines_read, trace_of}
use Rattle.script_text.proofs.trace.read_trace.Given as goal

abbrev pub invariant-loop-rest : goal.invariant-loop-rest
invariant-loop-rest l = record {
  -- what is left spells, from the trace so far on, what the whole text spells
  spelled : trace_lines_read l.tape.trace l.before (lines l.rest) ≡ trace_of l.fn.text;
  -- each line that was read took a byte at least
  within : l.before + length l.rest ≤ length l.fn.text;
}

abbrev pub decreases-loop-rest : goal.decreases-loop-rest
decreases-loop-rest l = length l.rest
