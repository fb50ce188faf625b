use Rattle.event_base.proofs.RunLemmas.{deleted-is_quiet}
use Rattle.event_base.proofs.laws.deleted_events_are_quiet.Goals as goal

pub returns : goal.returns
returns c = deleted-is_quiet
