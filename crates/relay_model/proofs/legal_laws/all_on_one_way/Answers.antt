use Rattle.relay_model.proofs.OneWayLemmas.{all_on_one_way}
use Rattle.relay_model.proofs.legal_laws.all_on_one_way.Goals as goal

pub returns : goal.returns
returns c = all_on_one_way
