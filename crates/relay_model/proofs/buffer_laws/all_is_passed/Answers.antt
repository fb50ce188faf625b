use Rattle.relay_model.proofs.PassedLemmas.{all_is_passed}
use Rattle.relay_model.proofs.buffer_laws.all_is_passed.Goals as goal

pub returns : goal.returns
returns c = all_is_passed
