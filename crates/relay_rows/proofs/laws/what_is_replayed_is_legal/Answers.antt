use Rattle.relay_rows.proofs.ReplayLemmas.{replay-is, stage_after-is}
use Rattle.relay_rows.proofs.laws.what_is_replayed_is_legal.Goals as goal

pub returns-clause-replayed : goal.returns-clause-replayed
returns-clause-replayed c = replay-is

pub returns-clause-rest : goal.returns-clause-rest
returns-clause-rest c = stage_after-is
