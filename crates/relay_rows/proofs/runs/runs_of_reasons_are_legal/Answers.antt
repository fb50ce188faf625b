use Rattle.relay_rows.proofs.ReasonRowsReplayed.{suspended_without_members-goes, reasons_in_order-goes, first_due_first_fired-goes}
use Rattle.relay_rows.proofs.ReasonRowsReplayed.{asks_behind_a_stop-is_stopped, forgotten_with_the_side-goes}
use Rattle.relay_rows.proofs.ReasonRowsReplayed.{timer_replaced_and_cancelled-goes, timeout_asked_for-goes, group_joined_and_left-goes}
use Rattle.relay_rows.proofs.ReasonRowsReplayed.{limit_changed-goes}
use Rattle.relay_rows.proofs.runs.runs_of_reasons_are_legal.Goals as goal

pub returns-clause-reasons_in_order : goal.returns-clause-reasons_in_order
returns-clause-reasons_in_order c = reasons_in_order-goes

pub returns-clause-first_due_first_fired : goal.returns-clause-first_due_first_fired
returns-clause-first_due_first_fired c = first_due_first_fired-goes

pub returns-clause-asks_behind_a_stop : goal.returns-clause-asks_behind_a_stop
returns-clause-asks_behind_a_stop c = asks_behind_a_stop-is_stopped

pub returns-clause-forgotten_with_the_side : goal.returns-clause-forgotten_with_the_side
returns-clause-forgotten_with_the_side c = forgotten_with_the_side-goes

pub returns-clause-timer_replaced_and_cancelled : goal.returns-clause-timer_replaced_and_cancelled
returns-clause-timer_replaced_and_cancelled c = timer_replaced_and_cancelled-goes

pub returns-clause-timeout_asked_for : goal.returns-clause-timeout_asked_for
returns-clause-timeout_asked_for c = timeout_asked_for-goes

pub returns-clause-group_joined_and_left : goal.returns-clause-group_joined_and_left
returns-clause-group_joined_and_left c = group_joined_and_left-goes

pub returns-clause-limit_changed : goal.returns-clause-limit_changed
returns-clause-limit_changed c = limit_changed-goes

pub returns-clause-suspended_without_members : goal.returns-clause-suspended_without_members
returns-clause-suspended_without_members c = suspended_without_members-goes
