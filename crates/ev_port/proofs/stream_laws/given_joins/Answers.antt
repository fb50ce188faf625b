use Rattle.ev_port.proofs.StreamLemmas.{Gave-join}
use Rattle.ev_port.proofs.stream_laws.given_joins.Goals as goal

pub returns : goal.returns
returns c = Gave-join
