use Rattle.filter_model.proofs.RunningLemmas.{running_is_known}
use Rattle.filter_model.proofs.filter_laws.a_running_filter_is_known.Goals as goal

pub returns : goal.returns
returns c = running_is_known
