use Rattle.relay_rows.proofs.WrongRowsRefused.{writing_ended_early-is_wrong, peer_gone_without_cause-is_wrong, done_too_early-is_wrong}
use Rattle.relay_rows.proofs.WrongRowsRefused.{output_of_a_freed_side_dropped-is_wrong, freed_twice-is_wrong, live_end_closed-is_wrong}
use Rattle.relay_rows.proofs.WrongRowsRefused.{wrong_cause-is_wrong}
use Rattle.relay_rows.proofs.wrong.wrong_closing_is_refused.Goals as goal

pub returns-clause-writing_ended_early : goal.returns-clause-writing_ended_early
returns-clause-writing_ended_early c = writing_ended_early-is_wrong

pub returns-clause-peer_gone_without_cause : goal.returns-clause-peer_gone_without_cause
returns-clause-peer_gone_without_cause c = peer_gone_without_cause-is_wrong

pub returns-clause-done_too_early : goal.returns-clause-done_too_early
returns-clause-done_too_early c = done_too_early-is_wrong

pub returns-clause-output_of_a_freed_side_dropped : goal.returns-clause-output_of_a_freed_side_dropped
returns-clause-output_of_a_freed_side_dropped c = output_of_a_freed_side_dropped-is_wrong

pub returns-clause-freed_twice : goal.returns-clause-freed_twice
returns-clause-freed_twice c = freed_twice-is_wrong

pub returns-clause-live_end_closed : goal.returns-clause-live_end_closed
returns-clause-live_end_closed c = live_end_closed-is_wrong

pub returns-clause-wrong_cause : goal.returns-clause-wrong_cause
returns-clause-wrong_cause c = wrong_cause-is_wrong
