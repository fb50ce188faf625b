use Rattle.filter_model.proofs.SwitchedLemmas.{switched_is_filter}
use Rattle.filter_model.proofs.filter_laws.a_switched_filter_is_lawful.Goals as goal

pub returns : goal.returns
returns c = switched_is_filter
