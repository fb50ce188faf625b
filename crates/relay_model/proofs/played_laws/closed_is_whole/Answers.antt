use Rattle.relay_model.proofs.StandsLawLemmas.{closed_is_whole}
use Rattle.relay_model.proofs.played_laws.closed_is_whole.Goals as goal

pub returns : goal.returns
returns c = closed_is_whole
