use Rattle.script_text.proofs.TraceReadLemmas.{trace_of-bad}
use Rattle.script_text.proofs.laws.trace_refused_at_first_bad.Goals as goal

pub returns : goal.returns
returns c = trace_of-bad
