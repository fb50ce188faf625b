use Rattle.relay_laws.proofs.SpellingLemmas.{stood_is_spellable}
use Rattle.relay_laws.proofs.trace_laws.stood_is_spellable.Goals as goal

pub returns : goal.returns
returns c = stood_is_spellable
