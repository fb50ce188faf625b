-- Each plain run is accepted.
use Rattle.std.specs.Prelude.{refl}
use Rattle.relay_model.specs.Settings.{usual}
use Rattle.relay_rows.specs.Laws.{Goes, FailsToPoll}
use Rattle.relay_rows.specs.PlainRows.{bytes_then_end, nothing_may_be_written, byte_by_byte, write_that_fails, request_and_answer}
use Rattle.relay_rows.specs.PlainRows.{connect_that_fails, drained_at_the_end, time_stands_still, poll_that_fails}
use Rattle.relay_rows.proofs.AcceptLemmas.{rests-went, rests-failed}

pub bytes_then_end-goes : Goes usual bytes_then_end
bytes_then_end-goes = rests-went usual bytes_then_end refl

pub nothing_may_be_written-goes : Goes usual nothing_may_be_written
nothing_may_be_written-goes = rests-went usual nothing_may_be_written refl

pub byte_by_byte-goes : Goes usual byte_by_byte
byte_by_byte-goes = rests-went usual byte_by_byte refl

pub write_that_fails-goes : Goes usual write_that_fails
write_that_fails-goes = rests-went usual write_that_fails refl

pub request_and_answer-goes : Goes usual request_and_answer
request_and_answer-goes = rests-went usual request_and_answer refl

pub connect_that_fails-goes : Goes usual connect_that_fails
connect_that_fails-goes = rests-went usual connect_that_fails refl

pub drained_at_the_end-goes : Goes usual drained_at_the_end
drained_at_the_end-goes = rests-went usual drained_at_the_end refl

pub time_stands_still-goes : Goes usual time_stands_still
time_stands_still-goes = rests-went usual time_stands_still refl

pub poll_that_fails-fails : FailsToPoll usual poll_that_fails
poll_that_fails-fails = rests-failed usual poll_that_fails refl
