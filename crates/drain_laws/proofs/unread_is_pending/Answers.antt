use Rattle.drain_laws.proofs.PendingLemmas.{unread_is_pending}
use Rattle.drain_laws.proofs.unread_is_pending.Goals as goal

pub returns : goal.returns
returns c = unread_is_pending
