use Rattle.relay_model.proofs.ClosingGoes.{closing_turns_are_willing}
use Rattle.relay_model.proofs.closing_laws.closing_turns_are_willing.Goals as goal

pub returns : goal.returns
returns c = closing_turns_are_willing
