use Rattle.relay_rows.proofs.WrongRowsRefused.{fired_on_a_freed_side-is_wrong, write_reason_above_the_low_mark-is_wrong}
use Rattle.relay_rows.proofs.WrongRowsRefused.{fired_without_a_reason-is_wrong, fire_after_a_stop-is_wrong, asked_by_another-is_wrong}
use Rattle.relay_rows.proofs.WrongRowsRefused.{refused_without_cause-is_wrong, one_ask_too_many-is_wrong}
use Rattle.relay_rows.proofs.wrong.wrong_hook_steps_are_refused.Goals as goal

pub returns-clause-fired_on_a_freed_side : goal.returns-clause-fired_on_a_freed_side
returns-clause-fired_on_a_freed_side c = fired_on_a_freed_side-is_wrong

pub returns-clause-write_reason_above_the_low_mark : goal.returns-clause-write_reason_above_the_low_mark
returns-clause-write_reason_above_the_low_mark c = write_reason_above_the_low_mark-is_wrong

pub returns-clause-fired_without_a_reason : goal.returns-clause-fired_without_a_reason
returns-clause-fired_without_a_reason c = fired_without_a_reason-is_wrong

pub returns-clause-fire_after_a_stop : goal.returns-clause-fire_after_a_stop
returns-clause-fire_after_a_stop c = fire_after_a_stop-is_wrong

pub returns-clause-asked_by_another : goal.returns-clause-asked_by_another
returns-clause-asked_by_another c = asked_by_another-is_wrong

pub returns-clause-refused_without_cause : goal.returns-clause-refused_without_cause
returns-clause-refused_without_cause c = refused_without_cause-is_wrong

pub returns-clause-one_ask_too_many : goal.returns-clause-one_ask_too_many
returns-clause-one_ask_too_many c = one_ask_too_many-is_wrong
