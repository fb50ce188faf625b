use Rattle.relay_laws.proofs.LawLemmas.{new_relay_stands}
use Rattle.relay_laws.proofs.a_new_relay_stands.Goals as goal

pub returns : goal.returns
returns c = new_relay_stands
