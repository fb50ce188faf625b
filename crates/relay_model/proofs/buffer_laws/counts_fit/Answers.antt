use Rattle.relay_model.proofs.FitsLemmas.{counts_fit}
use Rattle.relay_model.proofs.buffer_laws.counts_fit.Goals as goal

pub returns : goal.returns
returns c = counts_fit
