use Rattle.relay_rows.proofs.WrongRowsRefused.{time_falls-is_wrong, turn_after_a_failed_poll-is_wrong, turn_within_a_turn-is_wrong}
use Rattle.relay_rows.proofs.WrongRowsRefused.{link_out_of_order-is_wrong}
use Rattle.relay_rows.proofs.wrong.wrong_turns_are_refused.Goals as goal

pub returns-clause-time_falls : goal.returns-clause-time_falls
returns-clause-time_falls c = time_falls-is_wrong

pub returns-clause-turn_after_a_failed_poll : goal.returns-clause-turn_after_a_failed_poll
returns-clause-turn_after_a_failed_poll c = turn_after_a_failed_poll-is_wrong

pub returns-clause-turn_within_a_turn : goal.returns-clause-turn_within_a_turn
returns-clause-turn_within_a_turn c = turn_within_a_turn-is_wrong

pub returns-clause-link_out_of_order : goal.returns-clause-link_out_of_order
returns-clause-link_out_of_order c = link_out_of_order-is_wrong
