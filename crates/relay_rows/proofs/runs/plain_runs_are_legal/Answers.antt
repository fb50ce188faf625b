use Rattle.relay_rows.proofs.PlainRowsReplayed.{bytes_then_end-goes, nothing_may_be_written-goes, byte_by_byte-goes, write_that_fails-goes}
use Rattle.relay_rows.proofs.PlainRowsReplayed.{request_and_answer-goes, connect_that_fails-goes, drained_at_the_end-goes}
use Rattle.relay_rows.proofs.PlainRowsReplayed.{time_stands_still-goes, poll_that_fails-fails}
use Rattle.relay_rows.proofs.runs.plain_runs_are_legal.Goals as goal

pub returns-clause-bytes_then_end : goal.returns-clause-bytes_then_end
returns-clause-bytes_then_end c = bytes_then_end-goes

pub returns-clause-nothing_may_be_written : goal.returns-clause-nothing_may_be_written
returns-clause-nothing_may_be_written c = nothing_may_be_written-goes

pub returns-clause-byte_by_byte : goal.returns-clause-byte_by_byte
returns-clause-byte_by_byte c = byte_by_byte-goes

pub returns-clause-write_that_fails : goal.returns-clause-write_that_fails
returns-clause-write_that_fails c = write_that_fails-goes

pub returns-clause-request_and_answer : goal.returns-clause-request_and_answer
returns-clause-request_and_answer c = request_and_answer-goes

pub returns-clause-connect_that_fails : goal.returns-clause-connect_that_fails
returns-clause-connect_that_fails c = connect_that_fails-goes

pub returns-clause-drained_at_the_end : goal.returns-clause-drained_at_the_end
returns-clause-drained_at_the_end c = drained_at_the_end-goes

pub returns-clause-time_stands_still : goal.returns-clause-time_stands_still
returns-clause-time_stands_still c = time_stands_still-goes

pub returns-clause-poll_that_fails : goal.returns-clause-poll_that_fails
returns-clause-poll_that_fails c = poll_that_fails-fails
