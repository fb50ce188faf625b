use Rattle.filter_model.proofs.FilterCutLemmas.{cuts_agree}
use Rattle.filter_model.proofs.filter_laws.cuts_agree.Goals as goal

pub returns : goal.returns
returns c = cuts_agree
