use Rattle.relay_laws.proofs.HandLemmas.{plainly_hands_on}
use Rattle.relay_laws.proofs.trace_laws.plainly_hands_on.Goals as goal

pub returns : goal.returns
returns c = plainly_hands_on
