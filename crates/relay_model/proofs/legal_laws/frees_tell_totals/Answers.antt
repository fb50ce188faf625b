use Rattle.relay_model.proofs.TotalLemmas.{frees_tell_totals}
use Rattle.relay_model.proofs.legal_laws.frees_tell_totals.Goals as goal

pub returns : goal.returns
returns c = frees_tell_totals
