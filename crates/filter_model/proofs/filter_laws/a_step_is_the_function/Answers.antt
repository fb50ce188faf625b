use Rattle.filter_model.proofs.FilterStepLemmas.{step_is_function}
use Rattle.filter_model.proofs.filter_laws.a_step_is_the_function.Goals as goal

pub returns : goal.returns
returns c = step_is_function
