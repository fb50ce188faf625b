use Rattle.relay_rows.proofs.IllegalLemmas.{refuses-is}
use Rattle.relay_rows.proofs.laws.what_is_refused_is_illegal.Goals as goal

pub returns : goal.returns
returns c = refuses-is
