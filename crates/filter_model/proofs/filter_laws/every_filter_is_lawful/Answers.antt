use Rattle.filter_model.proofs.EveryFilter.{every_filter}
use Rattle.filter_model.proofs.filter_laws.every_filter_is_lawful.Goals as goal

pub returns : goal.returns
returns c = every_filter
