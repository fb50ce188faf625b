use Rattle.relay_rows.proofs.MarkRowsReplayed.{marks_asked_for-goes, write_low_mark_reached-goes, timers_in_order-goes}
use Rattle.relay_rows.proofs.MarkRowsReplayed.{enabled_behind_the_end-goes, reading_disabled-goes}
use Rattle.relay_rows.proofs.runs.runs_of_marks_are_legal.Goals as goal

pub returns-clause-marks_asked_for : goal.returns-clause-marks_asked_for
returns-clause-marks_asked_for c = marks_asked_for-goes

pub returns-clause-write_low_mark_reached : goal.returns-clause-write_low_mark_reached
returns-clause-write_low_mark_reached c = write_low_mark_reached-goes

pub returns-clause-timers_in_order : goal.returns-clause-timers_in_order
returns-clause-timers_in_order c = timers_in_order-goes

pub returns-clause-enabled_behind_the_end : goal.returns-clause-enabled_behind_the_end
returns-clause-enabled_behind_the_end c = enabled_behind_the_end-goes

pub returns-clause-reading_disabled : goal.returns-clause-reading_disabled
returns-clause-reading_disabled c = reading_disabled-goes
