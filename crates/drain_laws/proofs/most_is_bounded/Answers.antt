use Rattle.drain_laws.proofs.BufferedLemmas.{most_is_bounded}
use Rattle.drain_laws.proofs.most_is_bounded.Goals as goal

pub returns : goal.returns
returns c = most_is_bounded
