use Rattle.ev_port.proofs.StreamLemmas.{TookOn-join}
use Rattle.ev_port.proofs.stream_laws.taken_joins.Goals as goal

pub returns : goal.returns
returns c = TookOn-join
