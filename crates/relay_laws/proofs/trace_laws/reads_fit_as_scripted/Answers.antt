use Rattle.relay_laws.proofs.SpellingLemmas.{reads_fit_as_scripted}
use Rattle.relay_laws.proofs.trace_laws.reads_fit_as_scripted.Goals as goal

pub returns : goal.returns
returns c = reads_fit_as_scripted
