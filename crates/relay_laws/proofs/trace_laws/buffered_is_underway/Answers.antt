use Rattle.relay_laws.proofs.UnderwayLemmas.{buffered_is_underway}
use Rattle.relay_laws.proofs.trace_laws.buffered_is_underway.Goals as goal

pub returns : goal.returns
returns c = buffered_is_underway
