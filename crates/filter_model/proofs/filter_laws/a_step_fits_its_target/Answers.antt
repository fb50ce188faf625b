use Rattle.filter_model.proofs.FilterFitLemmas.{step_fits}
use Rattle.filter_model.proofs.filter_laws.a_step_fits_its_target.Goals as goal

pub returns : goal.returns
returns c = step_fits
