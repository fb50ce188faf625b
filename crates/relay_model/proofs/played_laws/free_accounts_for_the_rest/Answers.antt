use Rattle.relay_model.proofs.StandsLawLemmas.{free_accounts_for_the_rest}
use Rattle.relay_model.proofs.played_laws.free_accounts_for_the_rest.Goals as goal

pub returns : goal.returns
returns c = free_accounts_for_the_rest
