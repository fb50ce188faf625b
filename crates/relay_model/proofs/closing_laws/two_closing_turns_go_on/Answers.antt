use Rattle.relay_model.proofs.ClosingGoes.{two_closing_turns_go_on}
use Rattle.relay_model.proofs.closing_laws.two_closing_turns_go_on.Goals as goal

pub returns : goal.returns
returns c = two_closing_turns_go_on
