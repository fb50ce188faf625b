use Rattle.relay_rows.proofs.RateRowsReplayed.{share_lowered_to_the_rate-goes, written_in_ticks-goes, suspended_for_two_ticks-goes}
use Rattle.relay_rows.proofs.RateRowsReplayed.{read_in_ticks-goes, shared_by_three-goes}
use Rattle.relay_rows.proofs.runs.runs_with_limits_are_legal.Goals as goal

pub returns-clause-read_in_ticks : goal.returns-clause-read_in_ticks
returns-clause-read_in_ticks c = read_in_ticks-goes

pub returns-clause-shared_by_three : goal.returns-clause-shared_by_three
returns-clause-shared_by_three c = shared_by_three-goes

pub returns-clause-suspended_for_two_ticks : goal.returns-clause-suspended_for_two_ticks
returns-clause-suspended_for_two_ticks c = suspended_for_two_ticks-goes

pub returns-clause-written_in_ticks : goal.returns-clause-written_in_ticks
returns-clause-written_in_ticks c = written_in_ticks-goes

pub returns-clause-share_lowered_to_the_rate : goal.returns-clause-share_lowered_to_the_rate
returns-clause-share_lowered_to_the_rate c = share_lowered_to_the_rate-goes
