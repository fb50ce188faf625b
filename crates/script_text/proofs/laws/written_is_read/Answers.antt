use Rattle.script_text.proofs.TraceReadLemmas.{trace_of-trace_text}
use Rattle.script_text.proofs.laws.written_is_read.Goals as goal

pub returns : goal.returns
returns c = trace_of-trace_text
