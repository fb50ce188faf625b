use Rattle.filter_model.proofs.MetLemmas.{met_is_bad}
use Rattle.filter_model.proofs.filter_laws.what_is_met_is_bad.Goals as goal

pub returns : goal.returns
returns c = met_is_bad
