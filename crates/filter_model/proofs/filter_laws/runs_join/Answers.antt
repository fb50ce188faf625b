use Rattle.filter_model.proofs.FilterCutLemmas.{runs_join}
use Rattle.filter_model.proofs.filter_laws.runs_join.Goals as goal

pub returns : goal.returns
returns c = runs_join
