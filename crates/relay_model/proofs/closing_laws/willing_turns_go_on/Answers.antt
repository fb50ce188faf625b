use Rattle.relay_model.proofs.MovingOnLemmas.{willing_turns_go_on}
use Rattle.relay_model.proofs.closing_laws.willing_turns_go_on.Goals as goal

pub returns : goal.returns
returns c = willing_turns_go_on
