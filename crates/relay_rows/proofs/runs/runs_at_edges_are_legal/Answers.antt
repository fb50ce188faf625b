use Rattle.relay_rows.proofs.EdgeRowsReplayed.{read_filter_stops_at_the_mark-goes, bad_byte_while_held-goes, writing_is_activity-goes}
use Rattle.relay_rows.proofs.EdgeRowsReplayed.{rest_given_after_a_free-goes, both_end_at_once-goes, ended_before_it_connects-goes}
use Rattle.relay_rows.proofs.EdgeRowsReplayed.{nothing_was_ready-goes, bad_byte_behind_the_mark-goes, connects_too_late-goes}
use Rattle.relay_rows.proofs.EdgeRowsReplayed.{failed_and_expired-goes}
use Rattle.relay_rows.proofs.runs.runs_at_edges_are_legal.Goals as goal

pub returns-clause-rest_given_after_a_free : goal.returns-clause-rest_given_after_a_free
returns-clause-rest_given_after_a_free c = rest_given_after_a_free-goes

pub returns-clause-both_end_at_once : goal.returns-clause-both_end_at_once
returns-clause-both_end_at_once c = both_end_at_once-goes

pub returns-clause-ended_before_it_connects : goal.returns-clause-ended_before_it_connects
returns-clause-ended_before_it_connects c = ended_before_it_connects-goes

pub returns-clause-nothing_was_ready : goal.returns-clause-nothing_was_ready
returns-clause-nothing_was_ready c = nothing_was_ready-goes

pub returns-clause-bad_byte_behind_the_mark : goal.returns-clause-bad_byte_behind_the_mark
returns-clause-bad_byte_behind_the_mark c = bad_byte_behind_the_mark-goes

pub returns-clause-connects_too_late : goal.returns-clause-connects_too_late
returns-clause-connects_too_late c = connects_too_late-goes

pub returns-clause-failed_and_expired : goal.returns-clause-failed_and_expired
returns-clause-failed_and_expired c = failed_and_expired-goes

pub returns-clause-writing_is_activity : goal.returns-clause-writing_is_activity
returns-clause-writing_is_activity c = writing_is_activity-goes

pub returns-clause-bad_byte_while_held : goal.returns-clause-bad_byte_while_held
returns-clause-bad_byte_while_held c = bad_byte_while_held-goes

pub returns-clause-read_filter_stops_at_the_mark : goal.returns-clause-read_filter_stops_at_the_mark
returns-clause-read_filter_stops_at_the_mark c = read_filter_stops_at_the_mark-goes
