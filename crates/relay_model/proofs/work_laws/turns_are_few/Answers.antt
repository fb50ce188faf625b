use Rattle.relay_model.proofs.FewTurns.{turns_are_few}
use Rattle.relay_model.proofs.work_laws.turns_are_few.Goals as goal

pub returns : goal.returns
returns c = turns_are_few
