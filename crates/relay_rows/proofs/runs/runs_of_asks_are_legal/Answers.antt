use Rattle.relay_rows.proofs.AskRowsReplayed.{no_end_behind_a_free-goes, end_and_fault_told-goes, connected_and_written-goes}
use Rattle.relay_rows.proofs.AskRowsReplayed.{two_timeouts_joined-goes, low_mark_reached-goes, writing_disabled_for_a_turn-goes}
use Rattle.relay_rows.proofs.AskRowsReplayed.{asks_refused-goes, triggered-goes, limit_asked_for-goes}
use Rattle.relay_rows.proofs.runs.runs_of_asks_are_legal.Goals as goal

pub returns-clause-end_and_fault_told : goal.returns-clause-end_and_fault_told
returns-clause-end_and_fault_told c = end_and_fault_told-goes

pub returns-clause-connected_and_written : goal.returns-clause-connected_and_written
returns-clause-connected_and_written c = connected_and_written-goes

pub returns-clause-two_timeouts_joined : goal.returns-clause-two_timeouts_joined
returns-clause-two_timeouts_joined c = two_timeouts_joined-goes

pub returns-clause-low_mark_reached : goal.returns-clause-low_mark_reached
returns-clause-low_mark_reached c = low_mark_reached-goes

pub returns-clause-writing_disabled_for_a_turn : goal.returns-clause-writing_disabled_for_a_turn
returns-clause-writing_disabled_for_a_turn c = writing_disabled_for_a_turn-goes

pub returns-clause-asks_refused : goal.returns-clause-asks_refused
returns-clause-asks_refused c = asks_refused-goes

pub returns-clause-triggered : goal.returns-clause-triggered
returns-clause-triggered c = triggered-goes

pub returns-clause-limit_asked_for : goal.returns-clause-limit_asked_for
returns-clause-limit_asked_for c = limit_asked_for-goes

pub returns-clause-no_end_behind_a_free : goal.returns-clause-no_end_behind_a_free
returns-clause-no_end_behind_a_free c = no_end_behind_a_free-goes
