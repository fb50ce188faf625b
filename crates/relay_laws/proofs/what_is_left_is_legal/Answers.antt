use Rattle.relay_laws.proofs.LawLemmas.{left_is_legal}
use Rattle.relay_laws.proofs.what_is_left_is_legal.Goals as goal

pub returns : goal.returns
returns c = left_is_legal
