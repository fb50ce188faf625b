use Rattle.event_base.proofs.RunLemmas.{freed-is_gone}
use Rattle.event_base.proofs.laws.freed_events_are_gone.Goals as goal

pub returns : goal.returns
returns c = freed-is_gone
