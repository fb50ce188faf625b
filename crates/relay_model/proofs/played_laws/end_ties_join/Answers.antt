use Rattle.relay_model.proofs.TiedLemmas.{ends_join}
use Rattle.relay_model.proofs.played_laws.end_ties_join.Goals as goal

pub returns : goal.returns
returns c = ends_join
