use Rattle.filter_model.proofs.FilterCutLemmas.{cuts_give_function}
use Rattle.filter_model.proofs.filter_laws.cuts_give_the_function.Goals as goal

pub returns : goal.returns
returns c = cuts_give_function
